-- The parts of the whole test, in the words of the rules. Assumes nothing.
use Prim.Native.Nat.{ℕ, ◌*◌}
use mathlib.Core.Bool.{Bool}
use mathlib.Core.List.{List}
use lib.ListN.{drop}
use Rattle.rules.specs.Store.{table_0, table_1, Tables, Numbers}
use Rattle.rules.specs.Check.{cells_ok, queue_ok, marks_ok}
use Rattle.layout.specs.Memory.{cells_in, entries_in, pairs_in}
use Rattle.entries.specs.Zeros.{all_zero}

abbrev both : ℕ → List ℕ → List ℕ → Tables
both r t0 t1 = record { table0 = cells_in r t0; table1 = cells_in r t1 }

abbrev pub first : Numbers → ℕ → List ℕ → List ℕ → Bool
first n r t0 t1 = cells_ok n (both r t0 t1) table_0 0 (cells_in r t0)

abbrev pub second : Numbers → ℕ → List ℕ → List ℕ → Bool
second n r t0 t1 = cells_ok n (both r t0 t1) table_1 0 (cells_in r t1)

abbrev pub waiting : Numbers → ℕ → ℕ → List ℕ → List ℕ → List ℕ → Bool
waiting n r ql t0 t1 q = queue_ok n (both r t0 t1) (entries_in ql q)

abbrev pub marked : ℕ → List ℕ → Bool
marked dl d = marks_ok (pairs_in dl d)

abbrev pub zeros : ℕ → List ℕ → Bool
zeros ql q = all_zero (drop (3 * ql) q)
