-- Document 01, "Refusal numbers": the number and the value of each. Assumes nothing.
use Rattle.std.specs.Prelude.{ℕ, Result, Ok, Err}
use Rattle.refusals.specs.declared.Refusal.{Refusal}
use Rattle.refusals.specs.declared.Refusal.TheVariants.{NumberOutOfRange, BufferLength, LengthAboveRoom, NotAKey, AlreadyDefined}
use Rattle.refusals.specs.declared.Refusal.TheVariants.{QueueFull, NotFound, AboveStepLimit, NotSound}

-- the column "No."
abbrev pub number_of : Refusal → ℕ
number_of NumberOutOfRange = 1
number_of BufferLength = 2
number_of LengthAboveRoom = 3
number_of NotAKey = 4
number_of (AlreadyDefined held) = 5
number_of QueueFull = 6
number_of NotFound = 7
number_of AboveStepLimit = 8
number_of NotSound = 9

-- the column "Value": "the value held" for 5, and 0 for every other
abbrev pub value_of : Refusal → ℕ
value_of (AlreadyDefined held) = held
value_of _ = 0

-- "Accepted is 0"
abbrev pub number_of_test : Result (Unit {0}) Refusal → ℕ
number_of_test (Ok done) = 0
number_of_test (Err refusal) = number_of refusal
