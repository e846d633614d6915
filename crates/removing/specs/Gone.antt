-- Document 01, "A cell becomes 0, 0. Queue entries behind it move up one. The detector is kept", on words. Assumes nothing.
use Rattle.std.specs.Prelude.{ℕ, ◌+◌, ◌-◌, ◌*◌, ◌≡◌, List, [], ◌∷◌, length, get_or}
use Rattle.std.proofs.lemmas.List.Edits.{sets}
use Rattle.rules.specs.Calls.{answer, drop_at}
use Rattle.layout.specs.Forms.{entry_form, pair_form, packed}
use Rattle.layout.specs.Memory.{Tidied, entries_in, pairs_in}
use Rattle.numbers.specs.declared.Rooms.{Rooms}
use Rattle.finding.specs.Inner.{answered, with_lens, Told}

-- a cell removed
pub record CellGone (c : Rooms) (i : ℕ) (t q d t' q' d' : List ℕ) (a : Told) : Type 0 where
  pub table : t' ≡ sets t (2 * i) (0 ∷ 0 ∷ [])
  pub tidied : Tidied c.lengths.queue c.lengths.detector q d q' d'
  pub answer : a ≡ answered c (answer 0 (get_or t (2 * i + 1) 0) 0 0)

-- a queue entry removed
pub record EntryGone (c : Rooms) (j : ℕ) (q d q' d' : List ℕ) (a : Told) : Type 0 where
  pub queue : q' ≡ packed entry_form (length q) (drop_at (entries_in c.lengths.queue q) j)
  pub detector : d' ≡ packed pair_form (length d) (pairs_in c.lengths.detector d)
  pub answer : a ≡ answered (with_lens c (c.lengths.queue - 1) c.lengths.detector) (answer 0 (get_or q (3 * j + 1) 0) 0 0)
