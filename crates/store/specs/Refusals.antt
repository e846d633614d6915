-- Document 01, "Refusal numbers": 1, 2 and 3, of a control record, and what a call leaves and answers. The tests stand in `faults/specs`. Assumes nothing.
use Rattle.std.specs.Prelude.{ℕ, Bool, true, false, not, length}
use Rattle.faults.specs.Faults.{numbers_in_range, lengths_fit, within_rooms}
use Rattle.rules.specs.Calls.{Answer as RulesAnswer, answer}
use Rattle.store.specs.declared.Control.{Control}
use Rattle.store.specs.declared.Answer.{Answer}
use Rattle.store.specs.Memory.{rooms_of, setup_of}
use Rattle.layout.specs.Memory.{Lent}

-- 1: "r, Q, D, L or a function number out of range"
abbrev pub in_range : Control → Bool
in_range c = numbers_in_range (setup_of c)

-- 2: "a buffer's length is not 2r, 2r, 3Q or 2D words"
abbrev pub sized_in : Control → Lent → Bool
sized_in c m = lengths_fit (setup_of c) (length m.table0) (length m.table1) (length m.queue) (length m.detector)

-- 3: "queue length above Q, or detector length above D"
abbrev pub lengths_within : Control → Bool
lengths_within c = within_rooms (rooms_of c)

-- what a call leaves in the buffers, and its answer
pub record Outcome : Type 0 where
  pub lent : Lent
  pub answer : Answer

abbrev pub outcome : Lent → Answer → Outcome
outcome m a = record { lent = m; answer = a }

-- an answer of the rules, with a record
abbrev pub answered : Control → RulesAnswer → Answer
answered c a = record { control = c; number = a.number; value = a.value; steps = a.steps; moves = a.moves }

-- the buffers as they were, and an answer with the record given
abbrev pub keeps : Control → Lent → RulesAnswer → Outcome
keeps c m a = outcome m (answered c a)

-- "Every other refusal gives back the record it received", with value 0
abbrev pub refuse_if : Bool → ℕ → Control → Lent → Outcome → Outcome
refuse_if true number c m after = keeps c m (answer number 0 0 0)
refuse_if false number c m after = after

-- refusals 1, 2 and 3 in this order, else what comes after
unfoldable pub unless_fault : Control → Lent → Outcome → Outcome
unless_fault c m after =
    refuse_if (not (in_range c)) 1 c m
    (refuse_if (not (sized_in c m)) 2 c m
    (refuse_if (not (lengths_within c)) 3 c m after))
