-- The home functions go into the cells. Assumes nothing.
use Prim.Native.Nat.{ℕ, ◌+◌, ◌*◌, ◌%◌, ◌<◌}
use native.Mathlib.Nat.{mod-lt}
use Rattle.numbers.specs.declared.Functions.{Functions}
use Rattle.numbers.specs.Home.{p, home}
use Rattle.numbers.specs.Homes.{home0, home1}

pub home_in_table : (a b r x : ℕ) → 0 < r → home a b r x < r
unfolding home
home_in_table a b r x some = mod-lt ((a * x + b) % p) some

pub home0_in_table : (f : Functions) (x : ℕ) → 0 < f.r → home0 f x < f.r
unfolding home0
home0_in_table f x some = home_in_table f.a0 f.b0 f.r x some

pub home1_in_table : (f : Functions) (x : ℕ) → 0 < f.r → home1 f x < f.r
unfolding home1
home1_in_table f x some = home_in_table f.a1 f.b1 f.r x some
