-- Document 01, "How firmly the answers are bound": "If two outcomes satisfy it, a proof shows them equal". The claim for the reader. Assumes nothing.
use Rattle.std.specs.Prelude.{ℕ, ◌≡◌, List}
use Rattle.records.specs.Record.{read_at}
use Rattle.records.specs.Told.{told}
use Rattle.records.specs.declared.Reading.{Reading}

abbrev pub OneAnswer : Type 0
OneAnswer = (bytes : List ℕ) (place : ℕ) (r u : Reading) → told r ≡ read_at bytes place → told u ≡ read_at bytes place → r ≡ u
