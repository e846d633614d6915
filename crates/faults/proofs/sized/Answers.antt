-- `faults::sized` meets its contract: the code's test is the definition's. Assumes nothing.
use mathlib.Core.Path.{refl}
use Rattle.faults.specs.Faults.{lengths_fit}
use Rattle.faults.proofs.sized.Goals as goal

pub returns : goal.returns
unfolding lengths_fit
returns c = refl
