-- Document 01, "The calls", with refusals 4 to 8 in their order. Assumes nothing.
use Rattle.std.specs.Prelude.{ℕ, zero, suc, Bool, true, false, not, List, [], ◌∷◌, ◌++◌, leb, ltb, length, set}
use Rattle.std.proofs.Math.Option.{Option, none, some}
use Rattle.numbers.specs.Ranges.{good_key}
use Rattle.rules.specs.Store.{free_cell, Entry, cell_at, put_cell, Store, store, Numbers}
use Rattle.rules.specs.Run.{Ran, run}
use Rattle.rules.specs.Search.{Place, in_table, waiting_at, nowhere, search, lookup, entry_at}

-- "Steps and moves are answered by every call"; "Accepted is 0"
pub record Answer : Type 0 where
  pub number : ℕ
  pub value : ℕ
  pub steps : ℕ
  pub moves : ℕ

abbrev pub answer : ℕ → ℕ → ℕ → ℕ → Answer
answer number value steps moves = record { number = number; value = value; steps = steps; moves = moves }

-- what a call leaves and answers
pub record Outcome : Type 0 where
  pub store : Store
  pub answer : Answer

-- "All refusals answer steps 0 and moves 0, and no word of any buffer differs"
abbrev pub refused : ℕ → ℕ → Store → Outcome
refused number value s = record { store = s; answer = answer number value 0 0 }

-- "Calls without steps answer 0 and 0"
abbrev pub accepted : ℕ → Store → Outcome
accepted value s = record { store = s; answer = answer 0 value 0 0 }

-- "The answered value is 0", with the true counts
abbrev pub accepted_run : Ran → Outcome
accepted_run r = record { store = r.store; answer = answer 0 0 r.steps r.moves }

-- the refusal, answering value 0, if its test holds; else what comes after
abbrev pub refuse_if : Bool → ℕ → Store → Outcome → Outcome
refuse_if true number s after = refused number 0 s
refuse_if false number s after = after

-- 4, "key 0 or above 2,147,483,647"
abbrev pub refuse4 : ℕ → Store → Outcome → Outcome
refuse4 x s after = refuse_if (not (good_key x)) 4 s after

-- 5, "define of a key that find would find": the value held
abbrev pub refuse5 : Option ℕ → Store → Outcome → Outcome
refuse5 (some held) s after = refused 5 held s
refuse5 none s after = after

-- 7, "find, change, remove of a key not found"; else accepted with the value found, leaving `after`
abbrev pub or_refuse7 : Option ℕ → Store → Store → Outcome
or_refuse7 none s after = refused 7 0 s
or_refuse7 (some held) s after = accepted held after

-- "Find: home in table 0, home in table 1, then the queue from the front. The first equal key answers."
unfoldable pub find : Numbers → ℕ → Store → Outcome
find n x s = refuse4 x s (or_refuse7 (lookup n x s) s s)

-- "the entry (key, value, 0) joins the back of the queue"
abbrev pub joined : ℕ → ℕ → Store → Store
joined x v s = store s.tables (s.waiting ++ record { key = x; value = v; side = 0 } ∷ []) s.marked

-- "Define: the entry joins the back of the queue, then steps run until L are done or the queue is empty." 6, "with Q entries waiting at entry"
unfoldable pub define : Numbers → ℕ → ℕ → Store → Outcome
define n x v s =
    refuse4 x s
    (refuse5 (lookup n x s) s
    (refuse_if (leb n.Q (length s.waiting)) 6 s (accepted_run (run n n.L (joined x v s)))))

-- the entries with the value of place j replaced
abbrev pub with_entry_value : List Entry → ℕ → ℕ → List Entry
with_entry_value q j v = set q j (record { key = (entry_at q j).key; value = v; side = (entry_at q j).side })

-- "the value at the place that find would use is replaced"
abbrev pub with_value : Place → ℕ → Store → Store
with_value (in_table t i) v s = store (put_cell s.tables t i (record { key = (cell_at s.tables t i).key; value = v })) s.waiting s.marked
with_value (waiting_at j) v s = store s.tables (with_entry_value s.waiting j v) s.marked
with_value nowhere v s = s

-- "Change: the value at the place that find would use is replaced; the old one is answered. No steps."
unfoldable pub change : Numbers → ℕ → ℕ → Store → Outcome
change n x v s = refuse4 x s (or_refuse7 (lookup n x s) s (with_value (search n x s) v s))

-- "Queue entries behind it move up one"
abbrev pub drop_at : List Entry → ℕ → List Entry
drop_at [] j = []
drop_at (e ∷ q) zero = q
drop_at (e ∷ q) (suc j) = e ∷ drop_at q j

-- "the entry at that place goes", "A cell becomes 0, 0", "The detector is kept"
abbrev pub without : Place → Store → Store
without (in_table t i) s = store (put_cell s.tables t i free_cell) s.waiting s.marked
without (waiting_at j) s = store s.tables (drop_at s.waiting j) s.marked
without nowhere s = s

-- "Remove: the entry at that place goes; its value is answered. No steps."
unfoldable pub remove : Numbers → ℕ → Store → Outcome
remove n x s = refuse4 x s (or_refuse7 (lookup n x s) s (without (search n x s) s))

-- "Settle n: steps run until n are done or the queue is empty." 8, "settle with n above L"
unfoldable pub settle : Numbers → ℕ → Store → Outcome
settle n budget s = refuse_if (ltb n.L budget) 8 s (accepted_run (run n budget s))

-- the calls on an open store
pub data Call : Type 0 where
  Find : (key : ℕ) → Call
  Define : (key value : ℕ) → Call
  Change : (key value : ℕ) → Call
  Remove : (key : ℕ) → Call
  Settle : (budget : ℕ) → Call

abbrev pub does : Numbers → Call → Store → Outcome
does n (Find x) s = find n x s
does n (Define x v) s = define n x v s
does n (Change x v) s = change n x v s
does n (Remove x) s = remove n x s
does n (Settle budget) s = settle n budget s
