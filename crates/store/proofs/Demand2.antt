-- Demand 2 of the calls, along the history. Assumes nothing.
use Prim.Native.Nat.{ℕ}
use mathlib.Core.Path.{◌≡◌, refl, sym, ◌∙◌, ap, subst}
use mathlib.Core.Bool.{Bool, true, false, cond}
use mathlib.Core.Option.{Option, none}
use native.Mathlib.Omega.{arith}
use borrow.Author.Tests.{eqb-true}
use lib.Dec.{eqb}
use Rattle.rules.specs.Store.{Store, Numbers, fresh}
use Rattle.rules.specs.Search.{lookup}
use Rattle.rules.specs.Calls.{find}
use Rattle.rules.specs.Keeps.{after_call}
use Rattle.rules.specs.Sound.{IsGood}
use Rattle.rules.proofs.Open.{fresh-sound, fresh-lookup}
use Rattle.rules.proofs.CallsKept.{call_changes_lookup}
use Rattle.rules.proofs.Demand2.{found as finds_told, places}
use Rattle.store.specs.declared.Control.{Control}
use Rattle.layout.specs.Memory.{Lent}
use Rattle.store.specs.Memory.{numbers_of, store_of, record_of}
use Rattle.store.specs.Refusals.{Outcome, answered, keeps}
use Rattle.store.specs.Calls.{opened, found, does, checked}
use Rattle.store.specs.Sound.{SoundIn}
use Rattle.store.specs.Demand2.{opens, calls, checks, Held, given, History, opened_by, next, held, plain, recalled, Demand2}
use Rattle.store.proofs.Faults.{goes_on_lem}
use Rattle.store.proofs.Demand1.{by_open, check_changes_nothing}
use Rattle.store.proofs.Written.{reads_back, open_is_sound}
use Rattle.store.proofs.Simulation.{simulates, into, contents, no_faults}

-- what holds of a record and its words if they tell the value of every key
pub record Knows (h : Held) (tells : ℕ → Option ℕ) : Type 0 where
  pub sound : SoundIn h.control h.lent
  pub knows : (k : ℕ) → IsGood k → lookup (numbers_of h.control) k (store_of h.control h.lent) ≡ tells k

-- an accepted open knows nothing
new : (c : Control) (m : Lent) → (opened c m).answer.number ≡ 0 → Knows (given (opened c m)) (λ k. none)
new c m accepted = record { sound = open_is_sound c m accepted; knows = λ k good. holds_nothing k good accepted }
  where
    holds_nothing : (k : ℕ) → IsGood k → (opened c m).answer.number ≡ 0 → lookup (numbers_of (opened c m).answer.control) k (store_of (opened c m).answer.control (opened c m).lent) ≡ none
    holds_nothing k good = by_open c m (λ o. o.answer.number ≡ 0 → lookup (numbers_of o.answer.control) k (store_of o.answer.control o.lent) ≡ none)
        (λ e. absurd (omega arith)) (λ e. absurd (omega arith))
        (λ ranges fit e. unfold record_of fresh in ap (lookup (numbers_of c) k) (reads_back c (fresh (numbers_of c)) (fresh-sound (numbers_of c))) ∙ fresh-lookup (numbers_of c) k good)

-- a check gives on what it was given
check_keeps : (h : Held) → given (checked h.control h.lent) ≡ h
check_keeps h =
    let u = check_changes_nothing h.control h.lent in
    λ i. record { control = u.control i; lent = u.words i }

pub knowing : (past : History) → Knows (held past) (λ k. recalled k past)
unfolding held recalled
knowing (opened_by c m accepted) = new c m accepted
knowing (next past (opens c m)) = anew (eqb (opened c m).answer.number 0) refl (knowing past)
  where
    anew : (b : Bool) → eqb (opened c m).answer.number 0 ≡ b → Knows (held past) (λ k. recalled k past) → Knows (cond b (given (opened c m)) (held past)) (λ k. cond b none (recalled k past))
    anew true e g = new c m (eqb-true (opened c m).answer.number 0 e)
    anew false e g = g
knowing (next past (calls call)) = on (held past) (λ k. recalled k past) (knowing past)
  where
    on : (h : Held) (tells : ℕ → Option ℕ) → Knows h tells
        → Knows (given (does call h.control h.lent)) (λ k. after_call k call (plain (does call h.control h.lent).answer) (tells k))
    on h tells g =
        let s = simulates call h.control h.lent g.sound in
        let o : Outcome = does call h.control h.lent in
        let n : Numbers = numbers_of h.control in
        let was : Store = store_of h.control h.lent in
        record {
          sound = s.sound;
          knows = λ k good. ap (λ n. lookup n k (store_of o.answer.control o.lent)) s.numbers ∙ ap (lookup n k) s.store
              ∙ call_changes_lookup n (into h.control h.lent g.sound) call was (contents h.control h.lent g.sound) k good
              ∙ ap (λ a. after_call k call a (lookup n k was)) (sym s.answer) ∙ ap (after_call k call (plain o.answer)) (g.knows k good);
        }
knowing (next past checks) = subst (λ h. Knows h (λ k. recalled k past)) (sym (check_keeps (held past))) (knowing past)

pub demand_2 : Demand2
unfolding found
demand_2 past k good =
    let c : Control = (held past).control in
    let m : Lent = (held past).lent in
    let g : Knows (held past) (λ k. recalled k past) = knowing past in
    let ok = contents c m g.sound in
    record {
      finds = ap (λ o. o.answer) (goes_on_lem c m (keeps c m (find (numbers_of c) k (store_of c m)).answer) (no_faults c m g.sound))
          ∙ ap (answered c) (finds_told (numbers_of c) (store_of c m) ok k good (recalled k past) (g.knows k good));
      lies = places (numbers_of c) (store_of c m) ok k good (recalled k past) (g.knows k good);
    }
