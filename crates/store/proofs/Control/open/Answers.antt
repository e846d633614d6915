-- `store::Control::open` meets its contract: refusals 1 and 2 with a record of zeros, else zeros in all buffers. Assumes nothing.
use Rattle.std.proofs.Common.{rules}
use Rattle.refusals.specs.Numbers.{number_of, value_of}
use mathlib.Core.Path.{◌≡◌, refl, ap, ◌∙◌}
use Rattle.rules.specs.Calls.{answer}
use Rattle.layout.specs.Memory.{lent}
use Rattle.store.specs.declared.Control.{Control}
use Rattle.store.specs.Refusals.{outcome, answered}
use Rattle.store.specs.Calls.{zeros, new_record}
use Rattle.store.proofs.Carrying.{number_is, some_number, fault_answer, no_fault_in, handed_back}
use Rattle.store.proofs.Opening.{new_within, open_refuses, open_accepts}
use Rattle.store.proofs.Control.open.Goals as goal

pub returns-in-Ok : goal.returns-in-Ok
returns-in-Ok c =
    let a = c.args in
    let m = lent a.t0.now a.t1.now a.queue.now a.detector.now in
    let n : Control = new_record a.r a.queue_room a.detector_room a.step_limit a.a0 a.b0 a.a1 a.b1 in
    let z = c.clear_all.ensures in
    handed_back c.clear_all.new.m (search rules) (search rules) (search rules) (search rules)
    (open_accepts n a.t0.now a.t1.now a.queue.now a.detector.now (no_fault_in n m c.fault.ensures c.in-Ok.is) z.t0_after z.t1_after
    z.queue_after z.detector_after c.accepted.ensures)

pub returns-in-Err : goal.returns-in-Err
returns-in-Err c =
    let a = c.args in
    let m = lent a.t0.now a.t1.now a.queue.now a.detector.now in
    let n : Control = new_record a.r a.queue_room a.detector_room a.step_limit a.a0 a.b0 a.a1 a.b1 in
    let number = number_is n m c.fault.ensures c.in-Err.is in
    let zero : c.default.result ≡ zeros = search rules in
    let told = answer (number_of c.in-Err.refusal) (value_of c.in-Err.refusal) 0 0 in
    ap (outcome m) (c.refused.ensures ∙ ap (λ (z : Control). answered z told) zero ∙ fault_answer n m c.fault.ensures c.in-Err.is zeros)
    ∙ open_refuses n m _ (new_within a.r a.queue_room a.detector_room a.step_limit a.a0 a.b0 a.a1 a.b1) refl (λ z. some_number _ (number ∙ z))
