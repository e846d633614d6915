-- Document 01, "Memory": the lent buffers, the words of a store, and places past the lengths. Assumes nothing.
use Rattle.std.specs.Prelude.{ℕ, ◌≡◌, List, length}
use Rattle.numbers.specs.declared.Functions.{Functions}
use Rattle.numbers.specs.declared.Lengths.{Lengths}
use Rattle.numbers.specs.declared.Table.{Table as CodeTable}
use Rattle.numbers.specs.declared.Table.TheVariants.{Zero, One}
use Rattle.numbers.specs.Homes.{home0, home1}
use Rattle.rules.specs.Store.{Table, table_0, table_1, Cell, Entry, Pair, Store, store}
use Rattle.layout.specs.declared.Buffers.{Buffers}
use Rattle.layout.specs.Forms.{cell_form, entry_form, pair_form, read_many, write_many, packed}

-- "Tables, queue and detector are lent slices of u32"
pub record Lent : Type 0 where
  pub table0 : List ℕ
  pub table1 : List ℕ
  pub queue : List ℕ
  pub detector : List ℕ

abbrev pub lent : List ℕ → List ℕ → List ℕ → List ℕ → Lent
lent t0 t1 q d = record { table0 = t0; table1 = t1; queue = q; detector = d }

-- the words of the buffers that the code hands on
abbrev pub words : Buffers → Lent
words m = lent m.t0.now m.t1.now m.queue.now m.detector.now

-- the same four buffers, as long as they were: what is written to one is written to the other
pub record SameBuffers (m m' : Buffers) : Type 0 where
  pub t0 : m'.t0.ghost_name ≡ m.t0.ghost_name
  pub t1 : m'.t1.ghost_name ≡ m.t1.ghost_name
  pub queue : m'.queue.ghost_name ≡ m.queue.ghost_name
  pub detector : m'.detector.ghost_name ≡ m.detector.ghost_name
  pub t0_len : length m'.t0.now ≡ length m.t0.now
  pub t1_len : length m'.t1.now ≡ length m.t1.now
  pub queue_len : length m'.queue.now ≡ length m.queue.now
  pub detector_len : length m'.detector.now ≡ length m.detector.now

-- a table of the code as a table of the rules
abbrev pub rules_table : CodeTable → Table
rules_table Zero = table_0
rules_table One = table_1

-- the cells of a table, the entries that wait, the pairs that are marked
abbrev pub cells_in : ℕ → List ℕ → List Cell
cells_in r t = read_many cell_form r t

abbrev pub entries_in : ℕ → List ℕ → List Entry
entries_in ql q = read_many entry_form ql q

abbrev pub pairs_in : ℕ → List ℕ → List Pair
pairs_in dl d = read_many pair_form dl d

-- the store that words hold, with r cells in each table and lengths ql and dl
abbrev pub store_in : ℕ → ℕ → ℕ → List ℕ → List ℕ → List ℕ → List ℕ → Store
store_in r ql dl t0 t1 q d = store (record { table0 = cells_in r t0; table1 = cells_in r t1 }) (entries_in ql q) (pairs_in dl d)

-- the same, of what is lent and its lengths
abbrev pub store_held : ℕ → Lengths → Lent → Store
store_held r lengths m = store_in r lengths.queue lengths.detector m.table0 m.table1 m.queue m.detector

-- the home functions of a record, by table
abbrev pub homes_of : Functions → Table → ℕ → ℕ
homes_of f table_0 x = home0 f x
homes_of f table_1 x = home1 f x

-- the words of a store, in a queue of nq words and a detector of nd words: zeros past the lengths
unfoldable pub words_in : (nq nd : ℕ) → Store → Lent
words_in nq nd s = record {
  table0 = write_many cell_form s.tables.table0;
  table1 = write_many cell_form s.tables.table1;
  queue = packed entry_form nq s.waiting;
  detector = packed pair_form nd s.marked;
}

-- places past the lengths are zero, and the others as they were
pub record Tidied (ql dl : ℕ) (q d q' d' : List ℕ) : Type 0 where
  pub queue : q' ≡ packed entry_form (length q) (entries_in ql q)
  pub detector : d' ≡ packed pair_form (length d) (pairs_in dl d)
