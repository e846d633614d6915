-- The ends of the ranges, computed. Assumes nothing.
use mathlib.Core.Path.{refl}
use Rattle.numbers.specs.Ranges.{cells_in_range, queue_room_in_range, detector_room_in_range, step_limit_in_range}
use Rattle.numbers.specs.Ranges.{good_key, multiplier_in_range, addend_in_range}
use Rattle.numbers.specs.Ends.{ranges, all_hold, RangeEnds}

pub range_ends : RangeEnds
unfolding ranges all_hold cells_in_range queue_room_in_range detector_room_in_range step_limit_in_range good_key multiplier_in_range addend_in_range
range_ends = refl
