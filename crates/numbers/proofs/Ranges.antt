-- What the ranges give. Assumes nothing.
use Prim.Native.Nat.{ℕ}
use mathlib.Core.Path.{◌≡◌, sym, ◌∙◌, ap}
use mathlib.Core.Logic.{◌≢◌}
use mathlib.Core.Bool.{true, false≢true}
use Rattle.numbers.specs.Ranges.{good_key}

-- 0 is no good key
pub good_nonzero : (k : ℕ) → good_key k ≡ true → k ≢ 0
unfolding good_key
good_nonzero k good zero = false≢true (sym (ap good_key zero) ∙ good)
