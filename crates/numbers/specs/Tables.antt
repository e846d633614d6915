-- Document 01, "Memory": the two tables as the code names them, and their side words. Assumes nothing.
use Rattle.std.specs.Prelude.{ℕ, cond, eqb}
use Rattle.numbers.specs.declared.Table.{Table}
use Rattle.numbers.specs.declared.Table.TheVariants.{Zero, One}

-- "A side word 0 means table 0, every other word means table 1"
abbrev pub table_of : ℕ → Table
table_of side = cond (eqb side 0) Zero One

-- "get side 0 or 1"
abbrev pub side_of : Table → ℕ
side_of Zero = 0
side_of One = 1

-- table 1-b
abbrev pub other : Table → Table
other Zero = One
other One = Zero
