-- Document 01, "Memory": how a control record and lent words stand for numbers and a store of the rules (`numbers_of`, `store_of`), and which words and record
-- a store has (`words_of`, `record_of`). Assumes nothing.
use Rattle.std.specs.Prelude.{ℕ, ◌*◌, length}
use Rattle.rules.specs.Store.{Store, Numbers}
use Rattle.numbers.specs.declared.Functions.{Functions}
use Rattle.layout.specs.Memory.{Lent, words_in, homes_of, store_in}
use Rattle.numbers.specs.declared.Rooms.{Rooms}
use Rattle.numbers.specs.declared.Setup.{Setup}
use Rattle.store.specs.declared.Control.{Control}

-- the home functions of a record
abbrev pub functions_of : Control → Functions
functions_of c = record { r = c.r; a0 = c.a0; b0 = c.b0; a1 = c.a1; b1 = c.b1 }

-- the rooms, the step limit and the lengths of a record
abbrev pub rooms_of : Control → Rooms
rooms_of c = record {
  queue_room = c.queue_room;
  step_limit = c.step_limit;
  lengths = record { detector = c.detector_len; queue = c.queue_len };
  detector_room = c.detector_room;
}

-- both
abbrev pub setup_of : Control → Setup
setup_of c = record { functions = functions_of c; rooms = rooms_of c }

-- the numbers of a record
abbrev pub numbers_of : Control → Numbers
numbers_of c = record { r = c.r; Q = c.queue_room; D = c.detector_room; L = c.step_limit; home = homes_of (functions_of c) }

-- the store that a record and words stand for
abbrev pub store_of : Control → Lent → Store
store_of c m = store_in c.r c.queue_len c.detector_len m.table0 m.table1 m.queue m.detector

-- the words of a store: "Each table has 2r words", "The queue has 3Q words", "The detector has 2D words", zeros past the lengths
abbrev pub words_of : Control → Store → Lent
words_of c s = words_in (3 * c.queue_room) (2 * c.detector_room) s

-- the record with other lengths
abbrev pub with_lens : Control → ℕ → ℕ → Control
with_lens c ql dl = record {
  r = c.r;
  queue_room = c.queue_room;
  detector_room = c.detector_room;
  step_limit = c.step_limit;
  a0 = c.a0;
  b0 = c.b0;
  a1 = c.a1;
  b1 = c.b1;
  queue_len = ql;
  detector_len = dl;
}

-- the record with the lengths of a store
unfoldable pub record_of : Control → Store → Control
record_of c s = with_lens c (length s.waiting) (length s.marked)
