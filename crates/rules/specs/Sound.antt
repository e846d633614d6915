-- Document 01, "A store is sound if ..". Assumes nothing.
use Rattle.std.specs.Prelude.{ℕ, ◌≤◌, ◌≡◌, ◌⊎◌, ◌≢◌, true, cond, List, [], ◌∷◌, ◌++◌, map, eqb, length}
use Rattle.lists.specs.Lists.{◌∈◌, NoDup}
use Rattle.numbers.specs.Ranges.{good_key}
use Rattle.rules.specs.Store.{Table, Cell, Entry, Pair, table_of, cell_at, Store, Numbers}

abbrev pub IsGood : ℕ → Type 0
IsGood key = good_key key ≡ true

abbrev pub IsSide : ℕ → Type 0
IsSide side = (side ≡ 0) ⊎ (side ≡ 1)

-- the occupied cells of a table
unfoldable pub occupied : List Cell → List Cell
occupied [] = []
occupied (c ∷ cs) = cond (eqb c.key 0) (occupied cs) (c ∷ occupied cs)

abbrev pub cell_keys : List Cell → List ℕ
cell_keys cs = map (λ (c : Cell). c.key) (occupied cs)

abbrev pub entry_keys : List Entry → List ℕ
entry_keys q = map (λ (e : Entry). e.key) q

-- the keys "in the tables and the queue together"
unfoldable pub present : Store → List ℕ
present s = cell_keys s.tables.table0 ++ (cell_keys s.tables.table1 ++ entry_keys s.waiting)

-- "every occupied cell holds a good key at its home, every free cell has value 0, queue and detector entries have good keys and sides 0 or 1,
-- the detector's pairs differ, .. and no key occurs twice in the tables and the queue together", in tables, queue and detector of their sizes
pub record SoundContents (n : Numbers) (s : Store) : Type 0 where
  pub table_size : (t : Table) → length (table_of t s.tables) ≡ n.r
  pub queue_fits : length s.waiting ≤ n.Q
  pub detector_fits : length s.marked ≤ n.D
  pub good_cell : (t : Table) (i : ℕ) → (cell_at s.tables t i).key ≢ 0 → IsGood (cell_at s.tables t i).key
  pub at_home : (t : Table) (i : ℕ) → (cell_at s.tables t i).key ≢ 0 → n.home t (cell_at s.tables t i).key ≡ i
  pub free_value : (t : Table) (i : ℕ) → (cell_at s.tables t i).key ≡ 0 → (cell_at s.tables t i).value ≡ 0
  pub good_entry : (e : Entry) → e ∈ s.waiting → IsGood e.key
  pub entry_side : (e : Entry) → e ∈ s.waiting → IsSide e.side
  pub good_pair : (p : Pair) → p ∈ s.marked → IsGood p.key
  pub pair_side : (p : Pair) → p ∈ s.marked → IsSide p.side
  pub pairs_differ : NoDup s.marked
  pub no_key_twice : NoDup (present s)
