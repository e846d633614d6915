-- Document 01, "One step". Assumes nothing.
use Rattle.std.specs.Prelude.{ℕ, Bool, false, cond, ◌&&◌, ◌||◌, List, [], ◌∷◌, ◌++◌, eqb, leb, length}
use Rattle.rules.specs.Store.{Table, other, same_table, meant, side_of, Cell, Entry, Pair, cell_at, put_cell, Store, store, Numbers}

-- key y and value v of an entry, as a cell takes them
abbrev pub taken : Entry → Cell
taken e = record { key = e.key; value = e.value }

-- a key and its value as an entry with the side of table t
abbrev pub headed : Table → Cell → Entry
headed t c = record { key = c.key; value = c.value; side = side_of t }

-- the pair (y, b)
abbrev pub pair : ℕ → Table → Pair
pair y t = record { key = y; side = side_of t }

-- "pairs are compared by key and table meant"
abbrev pub is_pair : ℕ → Table → Pair → Bool
is_pair y t p = eqb p.key y && same_table (meant p.side) t

-- "the pair (y, b) is in the detector"
unfoldable pub is_marked : ℕ → Table → List Pair → Bool
is_marked y t [] = false
is_marked y t (p ∷ ps) = is_pair y t p || is_marked y t ps

-- In the three kinds e is the front entry, q the entries behind it, t the table that its side means, and i its key's home there.

-- 1. "the cell takes y and v, the front entry is dropped, the detector is emptied"
abbrev pub landed : Table → ℕ → Entry → List Entry → Store → Store
landed t i e q s = store (put_cell s.tables t i (taken e)) q []

-- 2. "the front entry goes to the back, the detector is emptied"
abbrev pub set_aside : Table → Entry → List Entry → Store → Store
set_aside t e q s = store s.tables (q ++ headed t (taken e) ∷ []) []

-- 3. "the pair (y, b) is marked, the cell takes y and v, and the cell's former key and value become the front entry with side 1-b"
abbrev pub moved : Table → ℕ → Entry → List Entry → Store → Store
moved t i e q s = store (put_cell s.tables t i (taken e)) (headed (other t) (cell_at s.tables t i) ∷ q) (s.marked ++ pair e.key t ∷ [])

-- what a step leaves, and its kind: 0 for no step
pub record Stepped : Type 0 where
  pub store : Store
  pub kind : ℕ

abbrev pub done : ℕ → Store → Stepped
done kind s = record { store = s; kind = kind }

-- "1. Cell key 0", "2. Else, if the pair (y, b) is in the detector, or the detector holds D pairs", "3. Else"
unfoldable pub step_at : ℕ → Table → ℕ → Entry → List Entry → Store → Stepped
step_at D t i e q s =
    cond (eqb (cell_at s.tables t i).key 0) (done 1 (landed t i e q s))
    (cond (is_marked e.key t s.marked || leb D (length s.marked)) (done 2 (set_aside t e q s)) (done 3 (moved t i e q s)))

-- "With an empty queue there is no step. Else let the front entry be key y, value v, side b, and the cell be y's home in table b."
unfoldable pub step_from : Numbers → Store → List Entry → Stepped
step_from n s [] = done 0 s
step_from n s (e ∷ q) = step_at n.D (meant e.side) (n.home (meant e.side) e.key) e q s

unfoldable pub step : Numbers → Store → Stepped
step n s = step_from n s s.waiting
