-- This page's number and values for each case of the reader's enums. Assumes nothing.
use Rattle.std.specs.Prelude.{ℕ, List, [], ◌∷◌, ◌++◌, decimal, encode_utf8}
use Rattle.records.specs.Record.{letter_c, letter_d, letter_f, letter_h, letter_m, letter_r, letter_s, letter_t, Fields, fields, Answer, taken, refused, ended}
use Rattle.records.specs.declared.Command.{Command}
use Rattle.records.specs.declared.Command.TheVariants.{Define, Change, Find, Remove, Settle}
use Rattle.records.specs.declared.Heading.{Heading}
use Rattle.records.specs.declared.Reading.{Reading}
use Rattle.records.specs.declared.Reading.TheVariants.{Good, Refused, End}

-- "DF define, CH change, FD find, RM remove, ST settle (the key word is n)"
abbrev pub fields_of : Command → Fields
fields_of (Define key value) = fields letter_d letter_f key value
fields_of (Change key value) = fields letter_c letter_h key value
fields_of (Find key) = fields letter_f letter_d key 0
fields_of (Remove key) = fields letter_r letter_m key 0
fields_of (Settle n) = fields letter_s letter_t n 0

-- the mark and the key word
abbrev pub heading_of : Command → Heading
heading_of command = record { first = (fields_of command).first; second = (fields_of command).second; key = (fields_of command).key }

-- the mark as two characters, a space (32) and the key word in decimal
abbrev pub heading_text : Heading → List ℕ
heading_text h = encode_utf8 h.first ++ encode_utf8 h.second ++ 32 ∷ decimal h.key

-- the mark's two letters
abbrev pub mark_text : Command → List ℕ
mark_text command = (fields_of command).first ∷ (fields_of command).second ∷ []

-- the mark's letters, a space and the key word in decimal
abbrev pub command_text : Command → List ℕ
command_text command = (fields_of command).first ∷ (fields_of command).second ∷ 32 ∷ decimal (fields_of command).key

-- accepted, the command and the next place; refusal 10 with value 0, and the place; or the end
abbrev pub told : Reading → Answer
told (Good command next) = taken 0 (fields_of command) next
told (Refused place) = refused 10 0 place
told End = ended
