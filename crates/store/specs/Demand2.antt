-- Demand 2, over records and words as the calls give them back: "The map property of demand 2 is about a store from open, with the record and buffers of
-- the last call given to the next. An accepted open begins that history anew; a refused open stands outside it, and the record from before it is the one
-- given on." The claim. Assumes nothing.
use Rattle.std.specs.Prelude.{ℕ, ◌≡◌, cond, eqb}
use Rattle.std.proofs.Math.Option.{Option, none}
use Rattle.rules.specs.Calls.{Answer as RulesAnswer, Call, answer}
use Rattle.rules.specs.Keeps.{after_call}
use Rattle.rules.specs.Sound.{IsGood}
use Rattle.rules.specs.Demand2.{told, Lies}
use Rattle.store.specs.declared.Control.{Control}
use Rattle.store.specs.declared.Answer.{Answer}
use Rattle.layout.specs.Memory.{Lent}
use Rattle.store.specs.Memory.{store_of}
use Rattle.store.specs.Refusals.{Outcome, answered}
use Rattle.store.specs.Calls.{opened, found, does, checked}

-- an open with a record's numbers over lent buffers of any content, or a call or a check on the record and buffers of the last call
pub data Event : Type 0 where
  opens : Control → Lent → Event
  calls : Call → Event
  checks : Event

-- the record and the buffers that are given on
pub record Held : Type 0 where
  pub control : Control
  pub lent : Lent

abbrev pub given : Outcome → Held
given o = record { control = o.answer.control; lent = o.lent }

-- a history begins with an accepted open
pub data History : Type 0 where
  opened_by : (c : Control) (m : Lent) → (opened c m).answer.number ≡ 0 → History
  next : History → Event → History

abbrev pub after : Event → Held → Held
after (opens c m) h = cond (eqb (opened c m).answer.number 0) (given (opened c m)) h
after (calls call) h = given (does call h.control h.lent)
after checks h = given (checked h.control h.lent)

unfoldable pub held : History → Held
held (opened_by c m accepted) = given (opened c m)
held (next past event) = after event (held past)

-- the answer without its record
abbrev pub plain : Answer → RulesAnswer
plain a = answer a.number a.value a.steps a.moves

-- the value last accepted for k, if it was defined and not removed since: told by the answers alone
abbrev pub recall : ℕ → Event → Held → Option ℕ → Option ℕ
recall k (opens c m) h before = cond (eqb (opened c m).answer.number 0) none before
recall k (calls call) h before = after_call k call (plain (does call h.control h.lent).answer) before
recall k checks h before = before

unfoldable pub recalled : ℕ → History → Option ℕ
recalled k (opened_by c m accepted) = none
recalled k (next past event) = recall k event (held past) (recalled k past)

pub record MapProperty (past : History) (k : ℕ) : Type 0 where
  pub finds : (found (held past).control k (held past).lent).answer ≡ answered (held past).control (told (recalled k past))
  pub lies : Lies (recalled k past) k (store_of (held past).control (held past).lent)

abbrev pub Demand2 : Type 0
Demand2 = (past : History) (k : ℕ) → IsGood k → MapProperty past k
