-- The pair is among the n exactly if it is among those from place i on.
use mathlib.Core.Path.{◌≡◌}
use Rattle.rules.specs.Store.{meant}
use Rattle.rules.specs.Step.{is_marked}
use Rattle.layout.specs.Forms.{pair_form, read_many}
use Rattle.layout.proofs.Searches.{pairs_from}
use Rattle.layout.proofs.is_marked.Given as goal

abbrev pub invariant-loop-i : goal.invariant-loop-i
invariant-loop-i l = is_marked l.y (meant l.side) (read_many pair_form l.n l.ws) ≡ is_marked l.y (meant l.side) (pairs_from l.ws l.n l.i)
