-- `store::Control::told`: a refusal packs the record's own lengths, each below 2^32. Assumes nothing.
use Rattle.std.proofs.Common.{◌≡◌, ◌+◌, ◌*◌, ◌/◌, ◌%◌, arith}
use Rattle.finding.specs.Inner.{told_of, tells}
use Rattle.store.specs.Inner.{told_by_reply}
use Rattle.store.proofs.Control.told.Goals as goal

pub returns-in-Ok : goal.returns-in-Ok
unfolding told_of told_by_reply
returns-in-Ok c = rw c.in-Ok.is

pub returns-in-Err : goal.returns-in-Err
unfolding told_by_reply
returns-in-Err c =
    let a = c.args.self in
    let lower : (a.queue_len + a.detector_len * 4294967296) % 4294967296 ≡ a.queue_len = omega arith in
    let upper : (a.queue_len + a.detector_len * 4294967296) / 4294967296 ≡ a.detector_len = omega arith in
    rw c.in-Err.is (λ i. tells (lower i) (upper i) (c.number.ensures i) (c.value.ensures i) 0 0)
