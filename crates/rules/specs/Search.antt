-- The search beneath find, define, change and remove: where a key lies. Assumes nothing.
use Rattle.std.specs.Prelude.{ℕ, suc, cond, List, [], ◌∷◌, eqb, get_or}
use Rattle.std.proofs.Math.Option.{Option, none, some}
use Rattle.rules.specs.Store.{Table, table_0, table_1, Entry, cell_at, Store, Numbers}

-- a cell of a table, a queue place counted from 0 at the front, or nowhere
pub data Place : Type 0 where
  in_table : Table → ℕ → Place
  waiting_at : ℕ → Place
  nowhere : Place

-- the first queue place with the key, the front of the list being place j
unfoldable pub search_queue : ℕ → ℕ → List Entry → Place
search_queue j x [] = nowhere
search_queue j x (e ∷ q) = cond (eqb e.key x) (waiting_at j) (search_queue (suc j) x q)

-- a table's cell if it has the key, else what comes after
abbrev pub or_else : Numbers → Table → ℕ → Store → Place → Place
or_else n t x s after = cond (eqb (cell_at s.tables t (n.home t x)).key x) (in_table t (n.home t x)) after

-- "home in table 0, home in table 1, then the queue from the front"
unfoldable pub search : Numbers → ℕ → Store → Place
search n x s = or_else n table_0 x s (or_else n table_1 x s (search_queue 0 x s.waiting))

-- past the queue's end
abbrev pub no_entry : Entry
no_entry = record { key = 0; value = 0; side = 0 }

abbrev pub entry_at : List Entry → ℕ → Entry
entry_at q j = get_or q j no_entry

-- the key at a place; 0 in a free cell and where there is no such place
abbrev pub key_at : Place → Store → ℕ
key_at (in_table t i) s = (cell_at s.tables t i).key
key_at (waiting_at j) s = (entry_at s.waiting j).key
key_at nowhere s = 0

-- the value at a place
abbrev pub value_at : Place → Store → Option ℕ
value_at (in_table t i) s = some (cell_at s.tables t i).value
value_at (waiting_at j) s = some (entry_at s.waiting j).value
value_at nowhere s = none

-- the value that find finds, if any
unfoldable pub lookup : Numbers → ℕ → Store → Option ℕ
lookup n x s = value_at (search n x s) s
