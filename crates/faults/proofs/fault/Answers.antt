-- `faults::fault` meets its contract: the first test that fails names the refusal. Assumes nothing.
use mathlib.Core.Path.{sym, ◌∙◌}
use Rattle.faults.specs.Faults.{within_rooms, fault_of}
use Rattle.faults.proofs.fault.Goals as goal

pub returns-then-not-in_range : goal.returns-then-not-in_range
unfolding fault_of
returns-then-not-in_range c = simp (sym c.in_range.ensures ∙ c.if-not-in_range.true)

pub returns-then-not-sized : goal.returns-then-not-sized
unfolding fault_of
returns-then-not-sized c = simp (sym c.in_range.ensures ∙ c.if-not-in_range.false, sym c.sized.ensures ∙ c.if-not-sized.true)

pub returns-then-c : goal.returns-then-c
unfolding fault_of within_rooms
returns-then-c c = simp (sym c.in_range.ensures ∙ c.if-not-in_range.false, sym c.sized.ensures ∙ c.if-not-sized.false, c.if-c.true)

pub returns-else-c : goal.returns-else-c
unfolding fault_of within_rooms
returns-else-c c = simp (sym c.in_range.ensures ∙ c.if-not-in_range.false, sym c.sized.ensures ∙ c.if-not-sized.false, c.if-c.false)
