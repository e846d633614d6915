-- Demand 1: "Bad input is refused under a fixed number with a fixed answer; then no word of tables, queue, detector or record differs (a refused open
-- gives a record of zeros)"; and the step limit. The claims, of every record, number and buffer. Assumes nothing.
use Rattle.std.specs.Prelude.{◌≤◌, ◌≡◌, ◌≢◌}
use Rattle.rules.specs.Calls.{Call}
use Rattle.store.specs.declared.Control.{Control}
use Rattle.layout.specs.Memory.{Lent}
use Rattle.store.specs.Refusals.{Outcome}
use Rattle.store.specs.Calls.{zeros, opened, does, checked}

-- only 5 has a value, the one held
pub record Untouched (c : Control) (m : Lent) (o : Outcome) : Type 0 where
  pub words : o.lent ≡ m
  pub control : o.answer.control ≡ c
  pub value : o.answer.number ≢ 5 → o.answer.value ≡ 0
  pub no_steps : o.answer.steps ≡ 0
  pub no_moves : o.answer.moves ≡ 0

abbrev pub CallRefusalsChangeNothing : Type 0
CallRefusalsChangeNothing = (call : Call) (c : Control) (m : Lent) → (does call c m).answer.number ≢ 0 → Untouched c m (does call c m)

-- check changes nothing, accepted or refused
abbrev pub CheckChangesNothing : Type 0
CheckChangesNothing = (c : Control) (m : Lent) → Untouched c m (checked c m)

abbrev pub OpenRefusalsGiveZeros : Type 0
OpenRefusalsGiveZeros = (c : Control) (m : Lent) → (opened c m).answer.number ≢ 0 → Untouched zeros m (opened c m)

-- "most steps in one call"
pub record Limited (c : Control) (o : Outcome) : Type 0 where
  pub steps_at_most_L : o.answer.steps ≤ c.step_limit
  pub moves_at_most_steps : o.answer.moves ≤ o.answer.steps

abbrev pub CallsAreLimited : Type 0
CallsAreLimited = (call : Call) (c : Control) (m : Lent) → Limited c (does call c m)
