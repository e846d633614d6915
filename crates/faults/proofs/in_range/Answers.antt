-- `faults::in_range` meets its contract: the code's test is the definition's. Assumes nothing.
use mathlib.Core.Path.{refl}
use Rattle.numbers.specs.Ranges.{cells_in_range, queue_room_in_range, detector_room_in_range, step_limit_in_range, multiplier_in_range, addend_in_range}
use Rattle.faults.specs.Faults.{numbers_in_range}
use Rattle.faults.proofs.in_range.Goals as goal

pub returns : goal.returns
unfolding numbers_in_range cells_in_range queue_room_in_range detector_room_in_range step_limit_in_range multiplier_in_range addend_in_range
returns c = refl
