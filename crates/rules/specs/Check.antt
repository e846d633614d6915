-- Document 01, "Check: accepted exactly for a sound store": the test, in time linear in the tables. A key at home can have its twin only in its other
-- home or in the queue, so no cell is compared with more than one other. Assumes nothing.
use Rattle.std.specs.Prelude.{ℕ, suc, ◌≤◌, ◌≡◌, ◌↔◌, Bool, true, false, cond, not, ◌&&◌, ◌||◌, List, [], ◌∷◌, eqb, leb, length}
use Rattle.numbers.specs.Ranges.{good_key}
use Rattle.rules.specs.Store.{Table, table_0, table_1, other, meant, Cell, Entry, Pair, Tables, table_of, cell_at, Store, Numbers}
use Rattle.rules.specs.Step.{is_marked}
use Rattle.rules.specs.Sound.{SoundContents}

-- whether the home of x in table t has it
abbrev pub is_held : Numbers → Tables → Table → ℕ → Bool
is_held n ts t x = eqb (cell_at ts t (n.home t x)).key x

-- cell i of table t: free with value 0, or a good key at its home that is not in its other home too
unfoldable pub cell_ok : Numbers → Tables → Table → ℕ → Cell → Bool
cell_ok n ts t i c = cond (eqb c.key 0) (eqb c.value 0) (good_key c.key && eqb (n.home t c.key) i && not (is_held n ts (other t) c.key))

-- the cells of table t from place i on
unfoldable pub cells_ok : Numbers → Tables → Table → ℕ → List Cell → Bool
cells_ok n ts t i [] = true
cells_ok n ts t i (c ∷ cs) = cell_ok n ts t i c && cells_ok n ts t (suc i) cs

-- whether a key waits
unfoldable pub waits_in : ℕ → List Entry → Bool
waits_in x [] = false
waits_in x (e ∷ q) = eqb e.key x || waits_in x q

-- an entry with q behind it: a good key and side, in no cell, and not behind
unfoldable pub entry_ok : Numbers → Tables → Entry → List Entry → Bool
entry_ok n ts e q = good_key e.key && leb e.side 1 && not (is_held n ts table_0 e.key) && not (is_held n ts table_1 e.key) && not (waits_in e.key q)

unfoldable pub queue_ok : Numbers → Tables → List Entry → Bool
queue_ok n ts [] = true
queue_ok n ts (e ∷ q) = entry_ok n ts e q && queue_ok n ts q

-- a pair with others behind it: a good key and side, and not behind
unfoldable pub marks_ok : List Pair → Bool
marks_ok [] = true
marks_ok (p ∷ ps) = good_key p.key && leb p.side 1 && not (is_marked p.key (meant p.side) ps) && marks_ok ps

unfoldable pub is_sound : Numbers → Store → Bool
is_sound n s =
    cells_ok n s.tables table_0 0 s.tables.table0 && cells_ok n s.tables table_1 0 s.tables.table1
    && queue_ok n s.tables s.waiting && marks_ok s.marked

-- tables, queue and detector have their sizes
pub record Sized (n : Numbers) (s : Store) : Type 0 where
  pub table_size : (t : Table) → length (table_of t s.tables) ≡ n.r
  pub queue_fits : length s.waiting ≤ n.Q
  pub detector_fits : length s.marked ≤ n.D

-- the test passes exactly for sound contents
abbrev pub CheckIsExact : Type 0
CheckIsExact = (n : Numbers) (s : Store) → Sized n s → (is_sound n s ≡ true) ↔ SoundContents n s
