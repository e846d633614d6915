-- The whole test of a store in words. Assumes nothing.
use Rattle.std.specs.Prelude.{ℕ, ◌*◌, Bool, ◌&&◌, List, drop}
use Rattle.rules.specs.Store.{Numbers}
use Rattle.rules.specs.Check.{is_sound}
use Rattle.layout.specs.Memory.{store_in}
use Rattle.entries.specs.Zeros.{all_zero}

-- the store that the words hold passes the test, and the places past the lengths are zero
unfoldable pub is_sound_in : Numbers → ℕ → ℕ → ℕ → List ℕ → List ℕ → List ℕ → List ℕ → Bool
is_sound_in n r ql dl t0 t1 q d = is_sound n (store_in r ql dl t0 t1 q d) && all_zero (drop (3 * ql) q) && all_zero (drop (2 * dl) d)
