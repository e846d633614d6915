-- Demand 2: "a key has a value exactly if it was accepted and not removed since, and it is the value last accepted. It lies in one place only." The
-- claim, over any history of calls from an accepted open and any two functions into the cells. Assumes nothing.
use Rattle.std.specs.Prelude.{ℕ, ◌≡◌, ◌≢◌}
use Rattle.std.proofs.Math.Option.{Option, none, some}
use Rattle.rules.specs.Store.{Store, Numbers, IntoCells, fresh}
use Rattle.rules.specs.Search.{Place, key_at}
use Rattle.rules.specs.Calls.{Call, Answer, answer, find, does}
use Rattle.rules.specs.Sound.{IsGood}
use Rattle.rules.specs.Keeps.{after_call}

-- "An accepted open begins that history anew; a refused open stands outside it": opens are refused by their numbers and the lent lengths
pub data Event : Type 0 where
  opened : (n : Numbers) → IntoCells n → Event
  open_refused : Event
  called : Call → Event

-- "a store from open, with the record and buffers of the last call given to the next"
pub data History : Type 0 where
  opens : (n : Numbers) → IntoCells n → History
  next : History → Event → History

pub record Held : Type 0 where
  pub numbers : Numbers
  pub store : Store

abbrev pub after : Event → Held → Held
after (opened n into) h = record { numbers = n; store = fresh n }
after open_refused h = h
after (called call) h = record { numbers = h.numbers; store = (does h.numbers call h.store).store }

unfoldable pub held : History → Held
held (opens n into) = record { numbers = n; store = fresh n }
held (next past event) = after event (held past)

-- the value last accepted for k by define or change, if it was accepted by a define and not removed since: told by the answers alone
abbrev pub recall : ℕ → Event → Held → Option ℕ → Option ℕ
recall k (opened n into) h before = none
recall k open_refused h before = before
recall k (called call) h before = after_call k call (does h.numbers call h.store).answer before

unfoldable pub recalled : ℕ → History → Option ℕ
recalled k (opens n into) = none
recalled k (next past event) = recall k event (held past) (recalled k past)

-- what find answers of a key with a value, and of one with none
abbrev pub told : Option ℕ → Answer
told (some v) = answer 0 v 0 0
told none = answer 7 0 0 0

-- where a key lies: in exactly one place if it has a value, else in none
abbrev pub Lies : Option ℕ → ℕ → Store → Type 0
Lies (some v) k s = (here : Place) × (key_at here s ≡ k) × ((there : Place) → key_at there s ≡ k → there ≡ here)
Lies none k s = (there : Place) → key_at there s ≢ k

pub record MapProperty (past : History) (k : ℕ) : Type 0 where
  pub finds : (find (held past).numbers k (held past).store).answer ≡ told (recalled k past)
  pub lies : Lies (recalled k past) k (held past).store

abbrev pub Demand2 : Type 0
Demand2 = (past : History) (k : ℕ) → IsGood k → MapProperty past k
