-- The tables of the code and those of the rules: side words, and homes. Assumes nothing.
use Prim.Native.Nat.{ℕ, ◌<◌}
use mathlib.Core.Path.{◌≡◌, refl}
use mathlib.Core.Bool.{Bool, true, false, cond}
use lib.Dec.{eqb}
use Rattle.numbers.specs.declared.Functions.{Functions}
use Rattle.numbers.specs.declared.Table.{Table as CodeTable}
use Rattle.numbers.specs.declared.Table.TheVariants.{Zero, One}
use Rattle.numbers.specs.Tables.{table_of}
use Rattle.numbers.specs.Homes.{home_in}
use Rattle.numbers.proofs.Home.{home0_in_table, home1_in_table}
use Rattle.rules.specs.Store.{table_0, table_1, meant}
use Rattle.layout.specs.Memory.{rules_table, homes_of}

-- the table that a side word means
pub named_meant : (side : ℕ) → rules_table (table_of side) ≡ meant side
named_meant side = go (eqb side 0)
  where
    go : (t : Bool) → rules_table (cond t Zero One) ≡ cond t table_0 table_1
    go true = refl
    go false = refl

pub homes_named : (f : Functions) (t : CodeTable) (x : ℕ) → homes_of f (rules_table t) x ≡ home_in f t x
homes_named f Zero x = refl
homes_named f One x = refl

pub home_in_table : (f : Functions) (t : CodeTable) (x : ℕ) → 0 < f.r → home_in f t x < f.r
home_in_table f Zero x some = home0_in_table f x some
home_in_table f One x some = home1_in_table f x some
