-- Document 01, "Refusal numbers": when 1, 2 and 3 apply, over the two structs of a record's numbers and the buffers' lengths. Assumes nothing.
use Rattle.std.specs.Prelude.{ℕ, ◌*◌, Bool, cond, ◌&&◌, eqb, leb}
use Rattle.numbers.specs.Ranges.{cells_in_range, queue_room_in_range, detector_room_in_range, step_limit_in_range, multiplier_in_range, addend_in_range}
use Rattle.numbers.specs.declared.Rooms.{Rooms}
use Rattle.numbers.specs.declared.Setup.{Setup}

-- 1: "r, Q, D, L or a function number out of range"
unfoldable pub numbers_in_range : Setup → Bool
numbers_in_range setup =
    let f = setup.functions in
    let c = setup.rooms in
    cells_in_range f.r && queue_room_in_range c.queue_room && detector_room_in_range c.detector_room && step_limit_in_range c.step_limit
    && multiplier_in_range f.a0 && addend_in_range f.b0 && multiplier_in_range f.a1 && addend_in_range f.b1

-- 2: "a buffer's length is not 2r, 2r, 3Q or 2D words"
unfoldable pub lengths_fit : Setup → ℕ → ℕ → ℕ → ℕ → Bool
lengths_fit setup n0 n1 nq nd =
    let r = setup.functions.r in
    eqb n0 (2 * r) && eqb n1 (2 * r) && eqb nq (3 * setup.rooms.queue_room) && eqb nd (2 * setup.rooms.detector_room)

-- 3: "queue length above Q, or detector length above D"
unfoldable pub within_rooms : Rooms → Bool
within_rooms c = leb c.lengths.queue c.queue_room && leb c.lengths.detector c.detector_room

-- the first of the three that applies, or 0
unfoldable pub fault_of : Setup → ℕ → ℕ → ℕ → ℕ → ℕ
fault_of setup n0 n1 nq nd = cond (numbers_in_range setup) (cond (lengths_fit setup n0 n1 nq nd) (cond (within_rooms setup.rooms) 0 3) 2) 1
