-- What the inner calls ask and give. A record's numbers come as one struct of two: `Functions` for the homes, `Rooms` for all others. Assumes nothing.
use Rattle.std.specs.Prelude.{◌≡◌, ℕ, ◌+◌, ◌*◌, ◌/◌, ◌%◌, ◌<◌, ◌≤◌, Bool, cond, not, ◌&&◌, List, length, ◌==◌, slice_index, Option, Some, None, Result, Ok, Err}
use Rattle.numbers.specs.declared.Functions.{Functions}
use Rattle.rules.specs.Store.{table_0, table_1, Store, Numbers}
use Rattle.rules.specs.Search.{Place as RulesPlace, in_table, waiting_at, nowhere, search_queue, search}
use Rattle.rules.specs.Calls.{Answer as RulesAnswer, answer, Outcome as RulesOutcome}
use Rattle.rules.specs.Keeps.{is_accepted}
use Rattle.layout.specs.Memory.{Lent, lent, words_in, entries_in, homes_of, store_in}
use Rattle.numbers.specs.declared.Rooms.{Rooms}
use Rattle.numbers.specs.declared.Setup.{Setup}
use Rattle.refusals.specs.declared.Refusal.{Refusal}
use Rattle.refusals.specs.Numbers.{number_of, value_of}
use Rattle.finding.specs.declared.Done.{Done}
use Rattle.finding.specs.declared.Place.{Place}
use Rattle.finding.specs.declared.Seen.{Seen}
use Rattle.finding.specs.declared.Place.TheVariants.{Table0, Table1, Waiting, Nowhere}

-- the homes of one record with the other numbers of another
abbrev pub setup_with : Functions → Rooms → Setup
setup_with f c = record { functions = f; rooms = c }

-- the numbers of a record
abbrev pub numbers_of : Setup → Numbers
numbers_of setup = record {
  r = setup.functions.r;
  Q = setup.rooms.queue_room;
  D = setup.rooms.detector_room;
  L = setup.rooms.step_limit;
  home = homes_of setup.functions;
}

-- the store that a record and words stand for
abbrev pub store_of : Setup → Lent → Store
store_of setup m = store_in setup.functions.r setup.rooms.lengths.queue setup.rooms.lengths.detector m.table0 m.table1 m.queue m.detector

-- the words of a store
abbrev pub words_of : Rooms → Store → Lent
words_of c s = words_in (3 * c.queue_room) (2 * c.detector_room) s

-- other lengths
abbrev pub with_lens : Rooms → ℕ → ℕ → Rooms
with_lens c ql dl = record {
  queue_room = c.queue_room;
  step_limit = c.step_limit;
  lengths = record { detector = dl; queue = ql };
  detector_room = c.detector_room;
}

-- the lengths of a store
abbrev pub rooms_of : Rooms → Store → Rooms
rooms_of c s = with_lens c (length s.waiting) (length s.marked)

-- what a call gives back: the lengths, and the fields of its answer
pub record Told : Type 0 where
  pub queue_len : ℕ
  pub detector_len : ℕ
  pub number : ℕ
  pub value : ℕ
  pub steps : ℕ
  pub moves : ℕ

abbrev pub tells : (ql dl number value steps moves : ℕ) → Told
tells ql dl number value steps moves = record { queue_len = ql; detector_len = dl; number = number; value = value; steps = steps; moves = moves }

-- the code keeps both lengths in one word, the detector's in the upper half
unfoldable pub told_of : Done → Told
told_of a = tells (a.lengths % 4294967296) (a.lengths / 4294967296) 0 a.value a.steps a.moves

-- a refusal gives back the lengths that it received, and no steps
abbrev pub told_by : Rooms → Result Done Refusal → Told
told_by c (Ok done) = told_of done
told_by c (Err refusal) = tells c.lengths.queue c.lengths.detector (number_of refusal) (value_of refusal) 0 0

-- an answer of the rules, with the lengths
abbrev pub answered : Rooms → RulesAnswer → Told
answered c a = tells c.lengths.queue c.lengths.detector a.number a.value a.steps a.moves

-- what a call leaves in the buffers, and what it gives back
pub record Outcome : Type 0 where
  pub lent : Lent
  pub told : Told

abbrev pub outcome : Lent → Told → Outcome
outcome m a = record { lent = m; told = a }

-- the buffers and the lengths as they were
abbrev pub keeps : Rooms → Lent → RulesAnswer → Outcome
keeps c m a = outcome m (answered c a)

-- what an accepted define, remove or settle leaves: the words and the lengths of what the rules leave; a refused one leaves all as it was
unfoldable pub leaves : Rooms → Lent → RulesOutcome → Outcome
leaves c m o = cond (is_accepted o.answer) (outcome (words_of c o.store) (answered (rooms_of c o.store) o.answer)) (keeps c m o.answer)

-- queue and detector of the record's rooms, and lengths within them
pub record RoomsFit (c : Rooms) (nq nd : ℕ) : Type 0 where
  pub queue_small : c.queue_room ≤ 64
  pub detector_small : c.detector_room ≤ 128
  pub queue : nq ≡ 3 * c.queue_room
  pub detector : nd ≡ 2 * c.detector_room
  pub queue_in : c.lengths.queue ≤ c.queue_room
  pub detector_in : c.lengths.detector ≤ c.detector_room

-- what an accepted record and accepted lengths say
pub record Fit (setup : Setup) (n0 n1 nq nd : ℕ) : Type 0 where
  pub some : 0 < setup.functions.r
  pub small : setup.functions.r ≤ 32768
  pub limit_some : 1 ≤ setup.rooms.step_limit
  pub limit_small : setup.rooms.step_limit ≤ 64
  pub first : n0 ≡ 2 * setup.functions.r
  pub second : n1 ≡ 2 * setup.functions.r
  pub rooms : RoomsFit setup.rooms nq nd

abbrev pub FitIn : Setup → Lent → Type 0
FitIn setup m = Fit setup (length m.table0) (length m.table1) (length m.queue) (length m.detector)

-- a place of the code as a place of the rules
abbrev pub place_of : Place → RulesPlace
place_of (Table0 i) = in_table table_0 i
place_of (Table1 i) = in_table table_1 i
place_of (Waiting j) = waiting_at j
place_of Nowhere = nowhere

-- a place lies within the record's tables and the waiting entries
abbrev pub IsInside : Setup → Place → Type 0
IsInside setup (Table0 i) = i < setup.functions.r
IsInside setup (Table1 i) = i < setup.functions.r
IsInside setup (Waiting j) = j < setup.rooms.lengths.queue
IsInside setup Nowhere = Unit {0}

-- the place that the rules' search answers
pub record Located (setup : Setup) (x : ℕ) (m : Lent) (p : Place) : Type 0 where
  pub is : place_of p ≡ search (numbers_of setup) x (store_of setup m)
  pub within : IsInside setup p

-- the word that holds the value at a place of the code
abbrev pub value_in : Lent → Place → Option ℕ
value_in m (Table0 i) = Some (slice_index m.table0 (2 * i + 1))
value_in m (Table1 i) = Some (slice_index m.table1 (2 * i + 1))
value_in m (Waiting j) = Some (slice_index m.queue (3 * j + 1))
value_in m Nowhere = None

-- accepted with the value found, or refusal 7
abbrev pub reply_of : Option ℕ → RulesAnswer
reply_of (Some v) = answer 0 v 0 0
reply_of None = answer 7 0 0 0

-- neither key is x
abbrev pub is_neither : (k0 k1 x : ℕ) → Bool
is_neither k0 k1 x = not (k0 == x) && not (k1 == x)

-- what the code's search gives: that place, and the value there
pub record Sees (setup : Setup) (x : ℕ) (m : Lent) (s : Seen) : Type 0 where
  pub at : Located setup x m s.place
  pub says : s.value ≡ value_in m s.place

-- the same of the search through the queue, whatever the tables and the detector hold
pub record SeesInQueue (c : Rooms) (x : ℕ) (q : List ℕ) (s : Seen) : Type 0 where
  pub is : place_of s.place ≡ search_queue 0 x (entries_in c.lengths.queue q)
  pub within : (f : Functions) → IsInside (setup_with f c) s.place
  pub says : (t0 t1 d : List ℕ) → s.value ≡ value_in (lent t0 t1 q d) s.place
