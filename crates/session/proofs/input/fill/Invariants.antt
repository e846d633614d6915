-- The end of what is filled stays inside the room, and each read that is not the last moves it up.
use Rattle.std.proofs.Common.{length, ◌-◌, ◌≤◌}
use Rattle.session.proofs.input.fill.Given as goal

abbrev pub invariant-loop-end : goal.invariant-loop-end
invariant-loop-end g l = l.end ≤ length l.room

abbrev pub decreases-loop-end : goal.decreases-loop-end
decreases-loop-end g l = length l.room - l.end
