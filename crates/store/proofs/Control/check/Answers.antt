-- `store::Control::check` meets its contract: refusals 1 to 3, else what the test of the whole store answers. Assumes nothing.
use mathlib.Core.Path.{sym, ◌∙◌}
use native.Mathlib.Omega.{arith}
use Rattle.layout.specs.Memory.{lent}
use Rattle.finding.proofs.Fits.{tables_ready}
use Rattle.store.specs.Calls.{checked}
use Rattle.store.proofs.Carrying.{no_fault_in, refused_by, fits_by}
use Rattle.store.proofs.Checking.{tested_by, checks_by}
use Rattle.store.proofs.Control.check.Goals as goal

pub is_sound-requires : goal.is_sound-requires
is_sound-requires c =
    let a = c.args in
    let m = lent a.t0.now a.t1.now a.queue.now a.detector.now in
    let fit = fits_by a.self m c.fault.ensures c.in-Ok.is c.from.ensures in
    let r = fit.rooms in
    record { tables_ready = tables_ready _ m fit; lengths_in_bounds = (omega arith, omega arith, omega arith, omega arith) }

pub returns-then-is_sound : goal.returns-then-is_sound
unfolding checked
returns-then-is_sound c =
    let a = c.args in
    let m = lent a.t0.now a.t1.now a.queue.now a.detector.now in
    let b = tested_by a.self m c.from.ensures c.is_sound.ensures in
    checks_by a.self m (no_fault_in a.self m c.fault.ensures c.in-Ok.is) (sym c.if-is_sound.true ∙ b) c.accepted.ensures

pub returns-else-is_sound : goal.returns-else-is_sound
unfolding checked
returns-else-is_sound c =
    let a = c.args in
    let m = lent a.t0.now a.t1.now a.queue.now a.detector.now in
    let b = tested_by a.self m c.from.ensures c.is_sound.ensures in
    checks_by a.self m (no_fault_in a.self m c.fault.ensures c.in-Ok.is) (sym c.if-is_sound.false ∙ b) c.refused.ensures

pub returns-in-Err : goal.returns-in-Err
unfolding checked
returns-in-Err c =
    let a = c.args in
    let m = lent a.t0.now a.t1.now a.queue.now a.detector.now in
    refused_by a.self m c.fault.ensures c.in-Err.is _ c.refused-in-Err.ensures
