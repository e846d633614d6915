-- The lines that are printed. Assumes nothing.
use Rattle.std.specs.Prelude.{ℕ, List, [], ◌∷◌, ◌++◌, codes, decimal}
use Rattle.records.specs.declared.Command.{Command}
use Rattle.records.specs.Told.{command_text}
use Rattle.store.specs.declared.Answer.{Answer}

-- a space (32) and a number
abbrev pub number_text : ℕ → List ℕ
number_text n = 32 ∷ decimal n

-- what was asked, refusal, value, steps, moves and a line's end (10)
abbrev pub line_text : List ℕ → Answer → List ℕ
line_text asked a = asked ++ number_text a.number ++ number_text a.value ++ number_text a.steps ++ number_text a.moves ++ 10 ∷ []

-- the line of a command
abbrev pub command_line : Command → Answer → List ℕ
command_line command a = line_text (command_text command) a

-- the line of a bad record: two question marks (63), its place in the input, refusal 10 and zeros
abbrev pub bad_line : ℕ → List ℕ
bad_line place = 63 ∷ 63 ∷ number_text place ++ codes " 10 0 0 0" ++ 10 ∷ []
