-- The words read so far. Assumes nothing.
use Rattle.std.proofs.Common.{◌≡◌, take, drop}
use Rattle.little_endian.specs.Image.{words_of}
use Rattle.little_endian.proofs.read_words.Given as goal

abbrev pub invariant-loop-j : goal.invariant-loop-j
invariant-loop-j l = take l.j l.out ≡ take l.j (drop l.from (words_of l.image))
