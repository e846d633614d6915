-- `finding::find` answers what the rules' find answers. Assumes nothing.
use Rattle.std.proofs.Common.{ap, not, ◌∙◌}
use Rattle.layout.specs.Memory.{lent}
use Rattle.finding.proofs.Searching.{found_bad, found_at}
use Rattle.finding.proofs.find.Goals as goal

pub returns-then-not-is_key : goal.returns-then-not-is_key
returns-then-not-is_key c d =
    let a = c.args in
    found_bad a.setup a.x (lent a.t0.now a.t1.now a.queue.now d) c.is_key.ensures (ap not c.if-not-is_key.true)

pub returns-in-Some : goal.returns-in-Some
returns-in-Some c d =
    c.at_rest.ensures ∙ (rw c.in-Some.is at (found_at c.is_key.ensures (ap not c.if-not-is_key.false) (c.search.ensures d)))

pub returns-in-None : goal.returns-in-None
returns-in-None c d = rw c.in-None.is at (found_at c.is_key.ensures (ap not c.if-not-is_key.false) (c.search.ensures d))
