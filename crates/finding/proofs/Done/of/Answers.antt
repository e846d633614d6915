-- `finding::Done::of` packs both lengths: each is below 2^32. Assumes nothing.
use Rattle.std.proofs.Common.{◌≡◌, ◌+◌, ◌*◌, ◌/◌, ◌%◌, arith}
use Rattle.finding.specs.Inner.{told_of, tells}
use Rattle.finding.proofs.Done.of.Goals as goal

pub returns : goal.returns
unfolding told_of
returns c =
    let a = c.args in
    let lower : (a.lengths.queue + a.lengths.detector * 4294967296) % 4294967296 ≡ a.lengths.queue = omega arith in
    let upper : (a.lengths.queue + a.lengths.detector * 4294967296) / 4294967296 ≡ a.lengths.detector = omega arith in
    λ i. tells (lower i) (upper i) 0 a.value a.steps a.moves
