-- Document 01, "Command records": a record's fields, which are good, and what reading at a place answers. Assumes nothing.
use Rattle.std.specs.Prelude.{ℕ, ◌+◌, Bool, cond, ◌&&◌, ◌||◌, List, eqb, leb, length, get_or}
use Rattle.std.proofs.Math.Option.{Option, none, some}
use Rattle.little_endian.specs.Word.{word_at}

-- the ASCII letters of the marks
abbrev pub letter_c : ℕ
letter_c = 67

abbrev pub letter_d : ℕ
letter_d = 68

abbrev pub letter_f : ℕ
letter_f = 70

abbrev pub letter_h : ℕ
letter_h = 72

abbrev pub letter_m : ℕ
letter_m = 77

abbrev pub letter_r : ℕ
letter_r = 82

abbrev pub letter_s : ℕ
letter_s = 83

abbrev pub letter_t : ℕ
letter_t = 84

-- "a mark of two ASCII letters in the order written here, a key word, a value word"
pub record Fields : Type 0 where
  pub first : ℕ
  pub second : ℕ
  pub key : ℕ
  pub value : ℕ

abbrev pub fields : ℕ → ℕ → ℕ → ℕ → Fields
fields first second key value = record { first = first; second = second; key = key; value = value }

-- "Ten bytes": the fields at a place
abbrev pub fields_at : List ℕ → ℕ → Fields
fields_at bytes place = fields (get_or bytes place 0) (get_or bytes (place + 1) 0) (word_at bytes (place + 2)) (word_at bytes (place + 6))

-- the mark has these letters
abbrev pub is_mark : ℕ → ℕ → Fields → Bool
is_mark first second f = eqb f.first first && eqb f.second second

-- "DF define, CH change"
abbrev pub takes_value : Fields → Bool
takes_value f = is_mark letter_d letter_f f || is_mark letter_c letter_h f

-- "FD find, RM remove, ST settle"
abbrev pub takes_none : Fields → Bool
takes_none f = is_mark letter_f letter_d f || is_mark letter_r letter_m f || is_mark letter_s letter_t f

-- "FD, RM and ST need value word 0"; any other mark is unknown
unfoldable pub is_good : Fields → Bool
is_good f = takes_value f || (takes_none f && eqb f.value 0)

-- the fields of a good record, else nothing
abbrev pub if_good : Fields → Option Fields
if_good f = cond (is_good f) (some f) none

-- what reading at a place answers
pub data Answer : Type 0 where
  taken : (number : ℕ) (f : Fields) (next : ℕ) → Answer
  refused : (number value place : ℕ) → Answer
  ended : Answer

-- "either the command with the next place, or refusal 10 with the place where the record began"; "Accepted is 0", and 10 has value 0
abbrev pub or_refuse10 : Option Fields → ℕ → Answer
or_refuse10 (some f) place = taken 0 f (place + 10)
or_refuse10 none place = refused 10 0 place

unfoldable pub record_at : List ℕ → ℕ → Answer
record_at bytes place = or_refuse10 (if_good (fields_at bytes place)) place

-- "or the end if the place is the input's length"; 10, "cut short"; "A place beyond the length is refused 10."
unfoldable pub read_at : List ℕ → ℕ → Answer
read_at bytes place = cond (eqb place (length bytes)) ended (cond (leb (place + 10) (length bytes)) (record_at bytes place) (refused 10 0 place))
