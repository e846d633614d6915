-- `finding::search_in` sees what `search` does in the words of the buffers. Assumes nothing.
use Rattle.finding.proofs.search_in.Goals as goal

pub returns : goal.returns
returns c = c.search.ensures c.args.m.now.detector.now
