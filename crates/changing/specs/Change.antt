-- Document 01, "Change: the value at the place that find would use is replaced; the old one is answered", on words. Assumes nothing.
use Rattle.std.specs.Prelude.{ℕ, ◌+◌, ◌*◌, ◌≡◌, cond, List, get_or, set}
use Rattle.rules.specs.Store.{table_0, table_1}
use Rattle.rules.specs.Search.{Place, in_table, waiting_at, nowhere, search}
use Rattle.rules.specs.Calls.{Answer as RulesAnswer, answer}
use Rattle.rules.specs.Keeps.{is_accepted}
use Rattle.layout.specs.Memory.{Lent, lent}
use Rattle.numbers.specs.declared.Rooms.{Rooms}
use Rattle.numbers.specs.declared.Setup.{Setup}
use Rattle.finding.specs.Inner.{numbers_of, store_of, answered, Outcome, outcome, keeps, Told}

-- the words with another value at a place: places past the lengths stay as they are
abbrev pub put_value : Place → ℕ → Lent → Lent
put_value (in_table table_0 i) v m = lent (set m.table0 (2 * i + 1) v) m.table1 m.queue m.detector
put_value (in_table table_1 i) v m = lent m.table0 (set m.table1 (2 * i + 1) v) m.queue m.detector
put_value (waiting_at j) v m = lent m.table0 m.table1 (set m.queue (3 * j + 1) v) m.detector
put_value nowhere v m = m

-- what a change leaves, a being the rules' answer
unfoldable pub changing : Setup → ℕ → ℕ → Lent → RulesAnswer → Outcome
changing setup x v m a =
    cond (is_accepted a) (outcome (put_value (search (numbers_of setup) x (store_of setup m)) v m) (answered setup.rooms a)) (keeps setup.rooms m a)

-- another value in entry i of width w, the old one answered
pub record Exchanged (c : Rooms) (w i v : ℕ) (ws ws' : List ℕ) (a : Told) : Type 0 where
  pub words : ws' ≡ set ws (w * i + 1) v
  pub answer : a ≡ answered c (answer 0 (get_or ws (w * i + 1) 0) 0 0)
