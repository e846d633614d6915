-- `store::Control::settle` meets its contract: refusals 1 to 3, else what `settling::settle` gives. Assumes nothing.
use Rattle.std.proofs.Common.{rules}
use Rattle.rules.specs.Calls.{settle}
use Rattle.layout.specs.Memory.{lent}
use Rattle.store.specs.Calls.{settled}
use Rattle.store.proofs.Carrying.{refused_by, fits_by, leaves_by, own_told, handed_back}
use Rattle.store.proofs.Control.settle.Goals as goal

pub settle-requires : goal.settle-requires
settle-requires c =
    let a = c.args in
    let m = lent a.t0.now a.t1.now a.queue.now a.detector.now in
    fits_by a.self m c.fault.ensures c.in-Ok.is c.from-setup.ensures

pub returns-in-Ok : goal.returns-in-Ok
unfolding settled
returns-in-Ok c =
    let a = c.args in
    let m = lent a.t0.now a.t1.now a.queue.now a.detector.now in
    handed_back c.settle.new.m (search rules) (search rules) (search rules) (search rules)
    (leaves_by a.self m c.fault.ensures c.in-Ok.is c.from-setup.ensures c.after.ensures (λ n s. settle n a.n s)
    (own_told a.self c.from-setup.ensures _ c.settle.ensures.outcome))

pub returns-in-Err : goal.returns-in-Err
unfolding settled
returns-in-Err c =
    let a = c.args in
    let m = lent a.t0.now a.t1.now a.queue.now a.detector.now in
    refused_by a.self m c.fault.ensures c.in-Err.is _ c.refused.ensures
