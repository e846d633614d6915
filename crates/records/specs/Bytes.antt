-- The bytes of a record, and the claim that reading them gives the command and the next place. Assumes nothing.
use Rattle.std.specs.Prelude.{ℕ, ◌+◌, ◌^◌, ◌<◌, ◌≡◌, List, ◌∷◌, ◌++◌, length}
use Rattle.little_endian.specs.Word.{bytes_of_word}
use Rattle.records.specs.Record.{Fields, read_at}
use Rattle.records.specs.Told.{fields_of, told}
use Rattle.records.specs.declared.Command.{Command}
use Rattle.records.specs.declared.Reading.TheVariants.{Good}

-- "Ten bytes: a mark of two ASCII letters in the order written here, a key word, a value word"
abbrev pub bytes_of : Fields → List ℕ
bytes_of f = f.first ∷ f.second ∷ (bytes_of_word f.key ++ bytes_of_word f.value)

-- both words have 32 bits
pub record WordsFit (f : Fields) : Type 0 where
  pub key : f.key < 2 ^ 32
  pub value : f.value < 2 ^ 32

-- wherever the bytes of a command stand
abbrev pub RoundTrip : Type 0
RoundTrip =
    (command : Command) → WordsFit (fields_of command)
    → (before after : List ℕ) → told (Good command (length before + 10)) ≡ read_at (before ++ (bytes_of (fields_of command) ++ after)) (length before)
