-- What a run of steps leaves, and gives back. Assumes nothing.
use Rattle.rules.specs.Run.{Ran}
use Rattle.rules.specs.Calls.{answer}
use Rattle.numbers.specs.declared.Rooms.{Rooms}
use Rattle.finding.specs.Inner.{words_of, rooms_of, answered, Outcome, outcome}

-- the words, the lengths and the answer of a run
abbrev pub ran_outcome : Rooms → Ran → Outcome
ran_outcome c r = outcome (words_of c r.store) (answered (rooms_of c r.store) (answer 0 0 r.steps r.moves))
