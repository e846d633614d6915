-- `layout::place_of` meets its contract: the first equal key answers, and at the end there is none. Assumes nothing.
use mathlib.Core.Path.{sym, ◌∙◌}
use native.Mathlib.Omega.{arith}
use Rattle.layout.proofs.Searches.{place_here, place_past, place_end}
use Rattle.layout.proofs.place_of.Goals as goal

pub returns-then-ws-i : goal.returns-then-ws-i
returns-then-ws-i c =
    let a = c.args in
    let o = c.loop-i in
    record { within = omega arith; place = sym (o.invariant ∙ place_here a.x a.ws.now a.n o.i c.loop-i-test.true c.if-ws-i.true) }

pub loop-i-preserved : goal.loop-i-preserved
loop-i-preserved c =
    let a = c.args in
    let o = c.loop-i in
    o.invariant ∙ place_past a.x a.ws.now a.n o.i c.loop-i-test.true c.if-ws-i.false

pub returns : goal.returns
returns c =
    let a = c.args in
    let o = c.loop-i in
    record { within = tt; place = sym (o.invariant ∙ place_end a.x a.ws.now a.n o.i (omega arith)) }
