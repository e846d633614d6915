-- What the step functions ask of the words, and what they leave. Assumes nothing.
use Rattle.std.specs.Prelude.{ℕ, ◌*◌, ◌≤◌, ◌<◌, ◌≡◌, List, length}
use Rattle.rules.specs.Store.{Table, table_0, table_1, Cell, Tables, Store, store, Numbers}
use Rattle.rules.specs.Step.{Stepped}
use Rattle.rules.specs.Run.{Ran}
use Rattle.layout.specs.Memory.{cells_in, entries_in, pairs_in, homes_of}
use Rattle.numbers.specs.declared.Functions.{Functions}
use Rattle.layout.specs.Forms.{entry_form, pair_form, packed}
use Rattle.kinds.specs.declared.Turn.{Turn}
use Rattle.kinds.specs.Shape.{kind_number}
use Rattle.steps.specs.declared.Ended.{Ended}

-- one table's cells beside the other's
abbrev pub with_table : Table → List Cell → List Cell → Tables
with_table table_0 cs o = record { table0 = cs; table1 = o }
with_table table_1 cs o = record { table0 = o; table1 = cs }

-- the store that one table's words hold, the other table being o
abbrev pub tables_with : ℕ → ℕ → ℕ → Table → List Cell → List ℕ → List ℕ → List ℕ → Store
tables_with r ql dl t o tw q d = store (with_table t (cells_in r tw) o) (entries_in ql q) (pairs_in dl d)

-- the words after a step in one table are those of what the rules leave
pub record After (r : ℕ) (s : Stepped) (t : Table) (o : List Cell) (nq nd : ℕ) (tw q d : List ℕ) (a : Turn) : Type 0 where
  pub tables : with_table t (cells_in r tw) o ≡ s.store.tables
  pub queue : q ≡ packed entry_form nq s.store.waiting
  pub detector : d ≡ packed pair_form nd s.store.marked
  pub kind : kind_number a.kind ≡ s.kind
  pub queue_len : a.lengths.queue ≡ length s.store.waiting
  pub detector_len : a.lengths.detector ≡ length s.store.marked

-- both tables have r cells
pub record TablesReady (r : ℕ) (t0 t1 : List ℕ) : Type 0 where
  pub some : 0 < r
  pub small : r ≤ 32768
  pub first : length t0 ≡ 2 * r
  pub second : length t1 ≡ 2 * r

-- numbers with these functions and this detector room
pub record StepsWith (n : Numbers) (f : Functions) (room : ℕ) : Type 0 where
  pub detector_room : n.D ≡ room
  pub homes : n.home ≡ homes_of f

-- the words hold this store, with lengths ql and dl
pub record Holds (r nq nd : ℕ) (s : Store) (t0 t1 q d : List ℕ) (ql dl : ℕ) : Type 0 where
  pub first : cells_in r t0 ≡ s.tables.table0
  pub second : cells_in r t1 ≡ s.tables.table1
  pub queue : q ≡ packed entry_form nq s.waiting
  pub detector : d ≡ packed pair_form nd s.marked
  pub queue_len : ql ≡ length s.waiting
  pub detector_len : dl ≡ length s.marked

-- the words after a step
pub record Follows (r nq nd : ℕ) (s : Stepped) (t0 t1 q d : List ℕ) (a : Turn) : Type 0 where
  pub words : Holds r nq nd s.store t0 t1 q d a.lengths.queue a.lengths.detector
  pub kind : kind_number a.kind ≡ s.kind

-- the words after a run
pub record Runs (r nq nd : ℕ) (e : Ran) (t0 t1 q d : List ℕ) (a : Ended) : Type 0 where
  pub words : Holds r nq nd e.store t0 t1 q d a.lengths.queue a.lengths.detector
  pub steps : a.steps ≡ e.steps
  pub moves : a.moves ≡ e.moves
