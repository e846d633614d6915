-- The starred lines of "Checked by hand", computed. Assumes nothing.
use mathlib.Core.Path.{refl}
use Rattle.lists.specs.Lists.{is_among, each_once}
use Rattle.numbers.specs.Ranges.{good_key}
use Rattle.numbers.specs.Home.{home}
use Rattle.rules.specs.Store.{fresh}
use Rattle.rules.specs.Step.{is_marked, step_at, step_from, step}
use Rattle.rules.specs.Run.{run}
use Rattle.rules.specs.Search.{search_queue, search, lookup}
use Rattle.rules.specs.Calls.{find, define, change, remove, settle}
use Rattle.rules.specs.Sound.{occupied, present}
use Rattle.rules.specs.Groups.{cells_of}
use Rattle.rules.specs.ByHand.{holds_of, left_by, hold, lines_of_s, lines_of_t, lines_of_rule1, lines_of_change, StarredLines, FurtherLines}

pub starred_lines : StarredLines
unfolding home good_key fresh is_marked step_at step_from step run search_queue search lookup find define change remove settle occupied present cells_of is_among each_once holds_of left_by hold lines_of_s lines_of_t
starred_lines = refl

pub further_lines : FurtherLines
unfolding home good_key fresh is_marked step_at step_from step run search_queue search lookup find define change remove settle holds_of left_by hold lines_of_rule1 lines_of_change
further_lines = refl
