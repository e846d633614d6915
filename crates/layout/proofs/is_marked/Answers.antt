-- `layout::is_marked` meets its contract: the first pair that is asked for answers, and at the end there is none. Assumes nothing.
use mathlib.Core.Path.{sym, ◌∙◌}
use native.Mathlib.Omega.{arith}
use Rattle.rules.specs.Store.{meant}
use Rattle.layout.proofs.Searches.{marked_here, marked_past, marked_end}
use Rattle.layout.proofs.is_marked.Goals as goal

pub returns-then-is_pair : goal.returns-then-is_pair
returns-then-is_pair c =
    let a = c.args in
    let o = c.loop-i in
    sym (o.invariant ∙ marked_here a.y (meant a.side) a.ws.now a.n o.i c.loop-i-test.true (sym c.is_pair.ensures ∙ c.if-is_pair.true))

pub loop-i-preserved : goal.loop-i-preserved
loop-i-preserved c =
    let a = c.args in
    let o = c.loop-i in
    o.invariant ∙ marked_past a.y (meant a.side) a.ws.now a.n o.i c.loop-i-test.true (sym c.is_pair.ensures ∙ c.if-is_pair.false)

pub returns : goal.returns
returns c =
    let a = c.args in
    let o = c.loop-i in
    sym (o.invariant ∙ marked_end a.y (meant a.side) a.ws.now a.n o.i (omega arith))
