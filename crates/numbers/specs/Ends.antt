-- The ends of each range of the table "Numbers": the first and the last number are in it, their neighbours are not. The claim. Assumes nothing.
use Rattle.std.specs.Prelude.{ℕ, ◌≡◌, Bool, true, not, ◌&&◌, List, [], ◌∷◌}
use Rattle.numbers.specs.Ranges.{cells_in_range, queue_room_in_range, detector_room_in_range, step_limit_in_range}
use Rattle.numbers.specs.Ranges.{good_key, multiplier_in_range, addend_in_range}

-- a range with numbers that are in it, and numbers that are not
pub record Range : Type 0 where
  pub test : ℕ → Bool
  pub inside : List ℕ
  pub outside : List ℕ

abbrev pub all_pass : (ℕ → Bool) → List ℕ → Bool
all_pass test [] = true
all_pass test (x ∷ l) = test x && all_pass test l

abbrev pub ends : (ℕ → Bool) → List ℕ → List ℕ → Range
ends test inside outside = record { test = test; inside = inside; outside = outside }

unfoldable pub ranges : List Range
ranges =
    ends cells_in_range (1 ∷ 32768 ∷ []) (0 ∷ 32769 ∷ [])
    ∷ ends queue_room_in_range (1 ∷ 64 ∷ []) (0 ∷ 65 ∷ [])
    ∷ ends detector_room_in_range (2 ∷ 128 ∷ []) (0 ∷ 1 ∷ 129 ∷ [])
    ∷ ends step_limit_in_range (1 ∷ 64 ∷ []) (0 ∷ 65 ∷ [])
    ∷ ends good_key (1 ∷ 2147483647 ∷ []) (0 ∷ 2147483648 ∷ 4294967295 ∷ [])
    ∷ ends multiplier_in_range (1 ∷ 2147483646 ∷ []) (0 ∷ 2147483647 ∷ [])
    ∷ ends addend_in_range (0 ∷ 2147483646 ∷ []) (2147483647 ∷ [])
    ∷ []

unfoldable pub all_hold : List Range → Bool
all_hold [] = true
all_hold (r ∷ l) = all_pass r.test r.inside && all_pass (λ x. not (r.test x)) r.outside && all_hold l

abbrev pub RangeEnds : Type 0
RangeEnds = all_hold ranges ≡ true
