-- `steps::step_in` meets its contract: each kind of step leaves what the rules leave in that table. Assumes nothing.
use mathlib.Core.Path.{◌≡◌, refl, sym, ◌∙◌}
use Rattle.rules.specs.Store.{meant}
use Rattle.layout.specs.Memory.{rules_table}
use Rattle.steps.proofs.InTable.{meant_side, lands, sets_aside, swaps}
use Rattle.steps.proofs.step_in.Goals as goal

pub returns-then-t-i-eq0 : goal.returns-then-t-i-eq0
returns-then-t-i-eq0 c o =
    let s = c in
    let a = s.args in
    lands a.r a.room a.i a.lengths.queue a.lengths.detector a.table a.t.now a.queue.now a.detector.now o s.requires.t_len.0 s.requires.t_len.1 s.requires.ready
    s.requires.some_wait _ _ _ _ c.if-t-i-eq0.true c.land.ensures

pub returns-then-must_stop : goal.returns-then-must_stop
returns-then-must_stop c o =
    let s = c in
    let a = s.args in
    let side : meant c.from.result ≡ rules_table a.table = rw c.from.ensures (meant_side a.table) in
    let stop = rw side at (sym c.must_stop.ensures ∙ c.if-must_stop.true) in
    sets_aside a.r a.room a.i a.lengths.queue a.lengths.detector a.table a.t.now a.queue.now a.detector.now o s.requires.t_len.0 s.requires.t_len.1
    s.requires.ready s.requires.some_wait _ _ _ _ c.if-t-i-eq0.false stop (rw c.from.ensures at c.set_aside.ensures) refl

pub returns : goal.returns
returns c o =
    let s = c in
    let a = s.args in
    let side : meant c.from.result ≡ rules_table a.table = rw c.from.ensures (meant_side a.table) in
    let on = rw side at (sym c.must_stop.ensures ∙ c.if-must_stop.false) in
    swaps a.r a.room a.i a.lengths.queue a.lengths.detector a.table a.t.now a.queue.now a.detector.now o s.requires.t_len.0 s.requires.t_len.1
    s.requires.ready s.requires.some_wait _ _ _ _ c.if-t-i-eq0.false on (rw c.from.ensures at c.swap.ensures)
