-- The store as the rules of document 01 see it: two tables of cells, the waiting entries from the front, the marked pairs in the order of
-- marking. Nothing here knows how they lie in memory. Assumes nothing.
use Rattle.std.specs.Prelude.{ℕ, ◌<◌, Bool, true, false, cond, List, [], eqb, get_or, set, replicate}

-- "Table t (0 or 1)"
pub data Table : Type 0 where
  table_0 table_1 : Table

-- table 1-b
abbrev pub other : Table → Table
other table_0 = table_1
other table_1 = table_0

abbrev pub same_table : Table → Table → Bool
same_table table_0 table_0 = true
same_table table_0 table_1 = false
same_table table_1 table_0 = false
same_table table_1 table_1 = true

-- "A side word 0 means table 0, every other word means table 1"
abbrev pub meant : ℕ → Table
meant side = cond (eqb side 0) table_0 table_1

-- "get side 0 or 1"
abbrev pub side_of : Table → ℕ
side_of table_0 = 0
side_of table_1 = 1

-- "cell i is key, value"
pub record Cell : Type 0 where
  pub key : ℕ
  pub value : ℕ

-- "0 is the empty cell", and "every free cell has value 0"
abbrev pub free_cell : Cell
free_cell = record { key = 0; value = 0 }

-- "key, value, side for each entry"
pub record Entry : Type 0 where
  pub key : ℕ
  pub value : ℕ
  pub side : ℕ

-- "key, side for each pair"
pub record Pair : Type 0 where
  pub key : ℕ
  pub side : ℕ

-- the two tables
pub record Tables : Type 0 where
  pub table0 : List Cell
  pub table1 : List Cell

abbrev pub table_of : Table → Tables → List Cell
table_of table_0 ts = ts.table0
table_of table_1 ts = ts.table1

-- cell i of table t; past the table's end a free cell
abbrev pub cell_at : Tables → Table → ℕ → Cell
cell_at ts t i = get_or (table_of t ts) i free_cell

-- the tables with another cell i in table t
abbrev pub put_cell : Tables → Table → ℕ → Cell → Tables
put_cell ts table_0 i c = record { table0 = set ts.table0 i c; table1 = ts.table1 }
put_cell ts table_1 i c = record { table0 = ts.table0; table1 = set ts.table1 i c }

pub record Store : Type 0 where
  pub tables : Tables
  pub waiting : List Entry
  pub marked : List Pair

abbrev pub store : Tables → List Entry → List Pair → Store
store ts es ps = record { tables = ts; waiting = es; marked = ps }

-- The numbers that a store is opened with, and the home function of each table.
pub record Numbers : Type 0 where
  pub r : ℕ
  pub Q : ℕ
  pub D : ℕ
  pub L : ℕ
  pub home : Table → ℕ → ℕ

-- the homes lie in the tables: two functions into the cells
abbrev pub IntoCells : Numbers → Type 0
IntoCells n = (t : Table) (x : ℕ) → n.home t x < n.r

-- a store just opened: r free cells in each table, nothing waiting, nothing marked
unfoldable pub fresh : Numbers → Store
fresh n = store (record { table0 = replicate n.r free_cell; table1 = replicate n.r free_cell }) [] []
