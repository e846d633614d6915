-- Document 01, "Checked by hand": the homes of store S. The claim. Assumes nothing.
use Rattle.std.specs.Prelude.{ℕ, zero, suc, ◌/◌, ◌%◌, ◌≡◌, Bool, true, ◌&&◌, eqb}
use Rattle.numbers.specs.Home.{home}

-- "For keys below 64 the homes are x mod 4 and (x div 4) mod 4", with r 4 and the functions of store S: the claim, computed over all 64
abbrev pub as_by_hand : ℕ → Bool
as_by_hand x = eqb (home 1 0 4 x) (x % 4) && eqb (home 536870912 0 4 x) (x / 4 % 4)

unfoldable pub all_below : ℕ → Bool
all_below zero = true
all_below (suc x) = as_by_hand x && all_below x

abbrev pub HomesByHand : Type 0
HomesByHand = all_below 64 ≡ true
