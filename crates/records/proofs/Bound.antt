-- What an answer tells says which answer it is. Assumes nothing.
use Prim.Native.Nat.{ℕ}
use mathlib.Core.Path.{◌≡◌, refl, sym, ◌∙◌, ap}
use mathlib.Core.Bool.{cond}
use mathlib.Core.List.{List}
use lib.Dec.{eqb}
use Rattle.records.specs.Record.{letter_c, letter_d, letter_f, letter_r, Fields, Answer, taken, refused, ended, read_at}
use Rattle.records.specs.Told.{told}
use Rattle.records.specs.Bound.{OneAnswer}
use Rattle.records.specs.declared.Command.{Command}
use Rattle.records.specs.declared.Command.TheVariants.{Define, Change, Find, Remove, Settle}
use Rattle.records.specs.declared.Reading.{Reading}
use Rattle.records.specs.declared.Reading.TheVariants.{Good, Refused, End}

-- the command of a good record's fields, by the mark's first letter
abbrev pub command_of : Fields → Command
command_of f =
    cond (eqb f.first letter_d) (Define f.key f.value)
    (cond (eqb f.first letter_c) (Change f.key f.value)
    (cond (eqb f.first letter_f) (Find f.key)
    (cond (eqb f.first letter_r) (Remove f.key) (Settle f.key))))

-- the reader's answer that tells this
abbrev pub tells : Answer → Reading
tells (taken number f next) = Good (command_of f) next
tells (refused number value place) = Refused place
tells ended = End

tells-told : (r : Reading) → tells (told r) ≡ r
tells-told (Good (Define key value) next) = refl
tells-told (Good (Change key value) next) = refl
tells-told (Good (Find key) next) = refl
tells-told (Good (Remove key) next) = refl
tells-told (Good (Settle n) next) = refl
tells-told (Refused place) = refl
tells-told End = refl

-- an answer that meets the contract is the one that the definition gives
pub reading_is : (bytes : List ℕ) (place : ℕ) (r : Reading) → told r ≡ read_at bytes place → r ≡ tells (read_at bytes place)
reading_is bytes place r h = sym (tells-told r) ∙ ap tells h

pub one_answer : OneAnswer
one_answer bytes place r u p q = reading_is bytes place r p ∙ sym (reading_is bytes place u q)
