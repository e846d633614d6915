-- The two home functions of a store, by their numbers: the one place where functions enter. Assumes nothing.
use Rattle.std.specs.Prelude.{ℕ}
use Rattle.numbers.specs.declared.Functions.{Functions}
use Rattle.numbers.specs.declared.Table.{Table}
use Rattle.numbers.specs.declared.Table.TheVariants.{Zero, One}
use Rattle.numbers.specs.Home.{home}

unfoldable pub home0 : Functions → ℕ → ℕ
home0 f x = home f.a0 f.b0 f.r x

unfoldable pub home1 : Functions → ℕ → ℕ
home1 f x = home f.a1 f.b1 f.r x

-- the home in a table
abbrev pub home_in : Functions → Table → ℕ → ℕ
home_in f Zero x = home0 f x
home_in f One x = home1 f x
