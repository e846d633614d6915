-- `store::Control::change` meets its contract: refusals 1 to 3, else what `changing::change` gives. Assumes nothing.
use Rattle.rules.specs.Calls.{change}
use Rattle.layout.specs.Memory.{lent}
use Rattle.finding.proofs.Fits.{tables_ready, queue_bounds}
use Rattle.store.specs.Calls.{changed}
use Rattle.store.proofs.Carrying.{refused_by, fits_by, changes_by, own_told}
use Rattle.store.proofs.Control.change.Goals as goal

pub change-requires : goal.change-requires
change-requires c =
    let a = c.args in
    let m = lent a.t0.now a.t1.now a.queue.now a.detector.now in
    let fit = fits_by a.self m c.fault.ensures c.in-Ok.is c.from-setup.ensures in
    record { tables_ready = tables_ready _ m fit; queue_len_in_bounds = queue_bounds _ m fit }

pub returns-in-Ok : goal.returns-in-Ok
unfolding changed
returns-in-Ok c =
    let a = c.args in
    let m = lent a.t0.now a.t1.now a.queue.now a.detector.now in
    changes_by a.self m c.fault.ensures c.in-Ok.is c.from-setup.ensures c.after.ensures a.x a.v
    (λ n s. (change n a.x a.v s).answer) (own_told a.self c.from-setup.ensures _ (c.change.ensures a.detector.now))

pub returns-in-Err : goal.returns-in-Err
unfolding changed
returns-in-Err c =
    let a = c.args in
    let m = lent a.t0.now a.t1.now a.queue.now a.detector.now in
    refused_by a.self m c.fault.ensures c.in-Err.is _ c.refused.ensures
