-- The words put so far. Assumes nothing.
use Rattle.std.proofs.Math.Seq.{paste}
use Rattle.little_endian.specs.Image.{words_of, Holds}
use Rattle.little_endian.proofs.put_words.Given as goal

abbrev pub invariant-loop-j : goal.invariant-loop-j
invariant-loop-j l = Holds l.fn.image l.image (paste (words_of l.fn.image) l.from l.src l.j)
