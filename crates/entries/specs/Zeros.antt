-- "places past the lengths are zero": the test. Assumes nothing.
use Rattle.std.specs.Prelude.{ℕ, Bool, List, eqb}
use Rattle.std.specs.List.{list_all}

unfoldable pub all_zero : List ℕ → Bool
all_zero ws = list_all (λ x. eqb x 0) ws
