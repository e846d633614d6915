-- `words::close_gap` meets its contract: the words moved up, then cleared, are those of the closed gap. Assumes nothing.
use Rattle.std.proofs.Common.{◌+◌, rules, ◌∙◌}
use Rattle.words.proofs.Laws.{closes, moved_given}
use Rattle.words.proofs.close_gap.Goals as goal

pub returns : goal.returns
returns c =
    let a = c.args in
    let moved = moved_given a.ws.now (a.at + a.w) a.end a.at c.copy_within.ensures.after (search rules) in
    c.clear.ensures ∙ rw moved (closes a.at a.w a.end a.ws.now c.requires.0 c.requires.1)
