-- Document 01, "Numbers": the home function, in the Carter-Wegman form. Assumes nothing.
use Rattle.std.specs.Prelude.{ℕ, ◌+◌, ◌*◌, ◌%◌}

-- "Let p = 2,147,483,647."
abbrev pub p : ℕ
p = 2147483647

-- "The home of x in table t is ((a_t times x + b_t) mod p) mod r. It is defined for every 32-bit x, good key or not."
unfoldable pub home : (a b r x : ℕ) → ℕ
home a b r x = (a * x + b) % p % r
