-- Document 01, table "Numbers": the range of each number, and of the two numbers of a home function. Assumes nothing.
use Rattle.std.specs.Prelude.{ℕ, Bool, ◌&&◌, leb}

-- low to high, both among them
abbrev pub within : ℕ → ℕ → ℕ → Bool
within low high x = leb low x && leb x high

-- "r, cells in each table: 1 to 32,768"
unfoldable pub cells_in_range : ℕ → Bool
cells_in_range r = within 1 32768 r

-- "Q, queue room: 1 to 64"
unfoldable pub queue_room_in_range : ℕ → Bool
queue_room_in_range Q = within 1 64 Q

-- "D, detector room in pairs: 2 to 128"
unfoldable pub detector_room_in_range : ℕ → Bool
detector_room_in_range D = within 2 128 D

-- "L, most steps in one call: 1 to 64"
unfoldable pub step_limit_in_range : ℕ → Bool
step_limit_in_range L = within 1 64 L

-- "key: 1 to 2,147,483,647 (positive 32-bit signed, 0 is the empty cell)"
unfoldable pub good_key : ℕ → Bool
good_key key = within 1 2147483647 key

-- "Table t has a function with a_t from 1 to p-1"
unfoldable pub multiplier_in_range : ℕ → Bool
multiplier_in_range a = within 1 2147483646 a

-- "and b_t from 0 to p-1"
unfoldable pub addend_in_range : ℕ → Bool
addend_in_range b = within 0 2147483646 b
