-- An outcome that is what one definition gives of the inputs is the only one. Assumes nothing.
use mathlib.Core.Path.{◌≡◌, sym, ◌∙◌}
use Rattle.store.specs.Refusals.{Outcome}
use Rattle.store.specs.Bound.{OneOutcome}

same : (meant o u : Outcome) → o ≡ meant → u ≡ meant → o ≡ u
same meant o u p q = p ∙ sym q

pub one_outcome : OneOutcome
one_outcome = record { of_open = λ c m. same _; of_call = λ call c m. same _; of_check = λ c m. same _ }
