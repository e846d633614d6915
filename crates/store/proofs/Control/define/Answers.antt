-- `store::Control::define` meets its contract: refusals 1 to 3, else what `adding::define` gives. Assumes nothing.
use Rattle.std.proofs.Common.{rules}
use Rattle.rules.specs.Calls.{define}
use Rattle.layout.specs.Memory.{lent}
use Rattle.store.specs.Calls.{defined}
use Rattle.store.proofs.Carrying.{refused_by, fits_by, leaves_by, own_told, handed_back}
use Rattle.store.proofs.Control.define.Goals as goal

pub define-requires : goal.define-requires
define-requires c =
    let a = c.args in
    let m = lent a.t0.now a.t1.now a.queue.now a.detector.now in
    fits_by a.self m c.fault.ensures c.in-Ok.is c.from-setup.ensures

pub returns-in-Ok : goal.returns-in-Ok
unfolding defined
returns-in-Ok c =
    let a = c.args in
    let m = lent a.t0.now a.t1.now a.queue.now a.detector.now in
    handed_back c.define.new.m (search rules) (search rules) (search rules) (search rules)
    (leaves_by a.self m c.fault.ensures c.in-Ok.is c.from-setup.ensures c.after.ensures (λ n s. define n a.x a.v s)
    (own_told a.self c.from-setup.ensures _ c.define.ensures.outcome))

pub returns-in-Err : goal.returns-in-Err
unfolding defined
returns-in-Err c =
    let a = c.args in
    let m = lent a.t0.now a.t1.now a.queue.now a.detector.now in
    refused_by a.self m c.fault.ensures c.in-Err.is _ c.refused.ensures
