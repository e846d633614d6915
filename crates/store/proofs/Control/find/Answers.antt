-- `store::Control::find` meets its contract: refusals 1 to 3, else what `finding::find` gives. Assumes nothing.
use mathlib.Core.Path.{ap}
use Rattle.rules.specs.Calls.{find}
use Rattle.layout.specs.Memory.{lent}
use Rattle.finding.specs.Inner.{outcome as inner}
use Rattle.finding.proofs.Fits.{tables_ready, queue_bounds}
use Rattle.store.specs.Calls.{found}
use Rattle.store.proofs.Carrying.{refused_by, fits_by, keeps_by, own_told}
use Rattle.store.proofs.Control.find.Goals as goal

pub find-requires : goal.find-requires
find-requires c =
    let a = c.args in
    let m = lent a.t0.now a.t1.now a.queue.now a.detector.now in
    let fit = fits_by a.self m c.fault.ensures c.in-Ok.is c.from-setup.ensures in
    record { tables_ready = tables_ready _ m fit; queue_len_in_bounds = queue_bounds _ m fit }

pub returns-in-Ok : goal.returns-in-Ok
unfolding found
returns-in-Ok c =
    let a = c.args in
    let m = lent a.t0.now a.t1.now a.queue.now a.detector.now in
    keeps_by a.self m c.fault.ensures c.in-Ok.is c.from-setup.ensures c.after.ensures (λ n s. (find n a.x s).answer)
    (own_told a.self c.from-setup.ensures _ (ap (inner m) (c.find.ensures a.detector.now)))

pub returns-in-Err : goal.returns-in-Err
unfolding found
returns-in-Err c =
    let a = c.args in
    let m = lent a.t0.now a.t1.now a.queue.now a.detector.now in
    refused_by a.self m c.fault.ensures c.in-Err.is _ c.refused.ensures
