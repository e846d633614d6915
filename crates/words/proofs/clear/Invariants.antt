-- The words are cleared up to i.
use Rattle.std.proofs.Common.{◌≡◌}
use Rattle.words.specs.Words.{cleared}
use Rattle.words.proofs.clear.Given as goal

abbrev pub invariant-loop-i : goal.invariant-loop-i
invariant-loop-i l = l.ws ≡ cleared l.from l.i l.initial.ws
