-- Demand 1 of the calls: refusals leave everything as it was, and the step limit holds. Assumes nothing.
use Prim.Native.Nat.{ℕ}
use mathlib.Core.Path.{◌≡◌, refl, ◌∙◌, ap, subst}
use mathlib.Core.Logic.{◌≢◌}
use mathlib.Core.Bool.{Bool, true, false, cond, not}
use native.Mathlib.Omega.{arith}
use borrow.Author.Tests.{eqb-true}
use Rattle.rules.specs.Store.{fresh}
use Rattle.rules.specs.Calls.{Answer as RulesAnswer, answer, find, define, change, remove, settle, Call, Find, Define, Change, Remove, Settle, does as rules_do}
use Rattle.rules.specs.Keeps.{is_accepted}
use Rattle.rules.specs.Search.{search}
use Rattle.rules.proofs.Limits.{refusals_change_nothing, calls_are_limited as rules_are_limited}
use Rattle.store.specs.declared.Control.{Control}
use Rattle.layout.specs.Memory.{Lent}
use Rattle.store.specs.Memory.{numbers_of, store_of, words_of, record_of, with_lens}
use Rattle.store.specs.Refusals.{in_range, sized_in, lengths_within, Outcome, keeps, refuse_if, unless_fault}
use Rattle.store.specs.Calls.{zeros, opened, found, leaves, defined, changing, changed, removed, settled, does, checking, checked}
use Rattle.changing.specs.Change.{put_value}
use Rattle.checks.specs.Sound.{is_sound_in}
use Rattle.store.specs.Demand1.{Untouched, CallRefusalsChangeNothing, CheckChangesNothing, OpenRefusalsGiveZeros, Limited, CallsAreLimited}
use Rattle.store.specs.Demand2.{plain}

-- what holds of refusals 1, 2 and 3 and of what comes after them holds of the call
pub by_fault : (c : Control) (m : Lent) (after : Outcome) (P : Outcome → Type 0) → ((k : ℕ) → k ≢ 0 → P (keeps c m (answer k 0 0 0))) → P after → P (unless_fault c m after)
unfolding unless_fault
by_fault c m after P refused on = go (in_range c) (sized_in c m) (lengths_within c)
  where
    go : (a b f : Bool) → P (refuse_if (not a) 1 c m (refuse_if (not b) 2 c m (refuse_if (not f) 3 c m after)))
    go true true true = on
    go true true false = refused 3 (λ e. omega arith)
    go true false f = refused 2 (λ e. omega arith)
    go false b f = refused 1 (λ e. omega arith)

-- what a call does if refusals 1, 2 and 3 do not hold
abbrev pub goes_on : Call → Control → Lent → Outcome
goes_on (Find x) c m = keeps c m (find (numbers_of c) x (store_of c m)).answer
goes_on (Define x v) c m = leaves c m (define (numbers_of c) x v (store_of c m))
goes_on (Change x v) c m = changing c x v m (change (numbers_of c) x v (store_of c m)).answer
goes_on (Remove x) c m = leaves c m (remove (numbers_of c) x (store_of c m))
goes_on (Settle n) c m = leaves c m (settle (numbers_of c) n (store_of c m))

pub does_is : (call : Call) (c : Control) (m : Lent) → unless_fault c m (goes_on call c m) ≡ does call c m
unfolding found defined changed removed settled
does_is (Find x) c m = refl
does_is (Define x v) c m = refl
does_is (Change x v) c m = refl
does_is (Remove x) c m = refl
does_is (Settle n) c m = refl

-- the rules' answer, and everything as it was if that is a refusal
pub record Answers (c : Control) (m : Lent) (a : RulesAnswer) (o : Outcome) : Type 0 where
  pub answer : plain o.answer ≡ a
  pub kept : a.number ≢ 0 → (o.lent ≡ m) × (o.answer.control ≡ c)

-- an outcome that is kept unless the answer accepts
accepts : (c : Control) (m : Lent) (a : RulesAnswer) (m' : Lent) (c' : Control) → Answers c m a (cond (is_accepted a) (keeps c' m' a) (keeps c m a))
accepts c m a m' c' = go (is_accepted a) refl
  where
    go : (b : Bool) → is_accepted a ≡ b → Answers c m a (cond b (keeps c' m' a) (keeps c m a))
    go true e = record { answer = refl; kept = λ nz. absurd (nz (eqb-true a.number 0 e)) }
    go false e = record { answer = refl; kept = λ nz. (refl, refl) }

pub answers : (call : Call) (c : Control) (m : Lent) → Answers c m (rules_do (numbers_of c) call (store_of c m)).answer (goes_on call c m)
unfolding leaves changing
answers (Find x) c m = record { answer = refl; kept = λ nz. (refl, refl) }
answers (Define x v) c m = let o = define (numbers_of c) x v (store_of c m) in accepts c m o.answer (words_of c o.store) (record_of c o.store)
answers (Change x v) c m = accepts c m (change (numbers_of c) x v (store_of c m)).answer (put_value (search (numbers_of c) x (store_of c m)) v m) c
answers (Remove x) c m = let o = remove (numbers_of c) x (store_of c m) in accepts c m o.answer (words_of c o.store) (record_of c o.store)
answers (Settle n) c m = let o = settle (numbers_of c) n (store_of c m) in accepts c m o.answer (words_of c o.store) (record_of c o.store)

kept_untouched : (c : Control) (m : Lent) (k : ℕ) → Untouched c m (keeps c m (answer k 0 0 0))
kept_untouched c m k = record { words = refl; control = refl; value = λ ne. refl; no_steps = refl; no_moves = refl }

pub call_refusals_change_nothing : CallRefusalsChangeNothing
call_refusals_change_nothing call c m = subst (λ o. o.answer.number ≢ 0 → Untouched c m o) (does_is call c m)
    (by_fault c m (goes_on call c m) (λ o. o.answer.number ≢ 0 → Untouched c m o) (λ k nz r. kept_untouched c m k) on)
  where
    on : (goes_on call c m).answer.number ≢ 0 → Untouched c m (goes_on call c m)
    on nz =
        let a = answers call c m in
        let e : (goes_on call c m).answer.number ≡ (rules_do (numbers_of c) call (store_of c m)).answer.number = ap (λ a. a.number) a.answer in
        let refuses : (rules_do (numbers_of c) call (store_of c m)).answer.number ≢ 0 = λ z. nz (e ∙ z) in
        let u = refusals_change_nothing (numbers_of c) call (store_of c m) refuses in
        record {
          words = (a.kept refuses).0;
          control = (a.kept refuses).1;
          value = λ ne. ap (λ a. a.value) a.answer ∙ u.value (λ five. ne (e ∙ five));
          no_steps = ap (λ a. a.steps) a.answer ∙ u.no_steps;
          no_moves = ap (λ a. a.moves) a.answer ∙ u.no_moves;
        }

pub check_changes_nothing : CheckChangesNothing
unfolding checked checking
check_changes_nothing c m = by_fault c m (checking c m) (Untouched c m) (λ k nz. kept_untouched c m k)
    (go (is_sound_in (numbers_of c) c.r c.queue_len c.detector_len m.table0 m.table1 m.queue m.detector))
  where
    go : (b : Bool) → Untouched c m (cond b (keeps c m (answer 0 0 0 0)) (keeps c m (answer 9 0 0 0)))
    go true = kept_untouched c m 0
    go false = kept_untouched c m 9

pub calls_are_limited : CallsAreLimited
calls_are_limited call c m = subst (Limited c) (does_is call c m)
    (by_fault c m (goes_on call c m) (Limited c) (λ k nz. record { steps_at_most_L = omega arith; moves_at_most_steps = omega arith }) on)
  where
    on : Limited c (goes_on call c m)
    on =
        let e = (answers call c m).answer in
        let l = rules_are_limited (numbers_of c) call (store_of c m) in
        let steps = ap (λ a. a.steps) e in
        let moves = ap (λ a. a.moves) e in
        record { steps_at_most_L = omega (arith, l.steps_at_most_L); moves_at_most_steps = omega (arith, l.moves_at_most_steps) }

-- what holds of open's two refusals and of an accepted open holds of open
pub by_open : (c : Control) (m : Lent) (P : Outcome → Type 0) → P (keeps zeros m (answer 1 0 0 0)) → P (keeps zeros m (answer 2 0 0 0))
    → (in_range c ≡ true → sized_in c m ≡ true → P (keeps (with_lens c 0 0) (words_of c (fresh (numbers_of c))) (answer 0 0 0 0))) → P (opened c m)
unfolding opened
by_open c m P one two accepted = go (in_range c) refl (sized_in c m) refl
  where
    go : (a : Bool) → in_range c ≡ a → (b : Bool) → sized_in c m ≡ b
        → P (refuse_if (not a) 1 zeros m (refuse_if (not b) 2 zeros m (keeps (with_lens c 0 0) (words_of c (fresh (numbers_of c))) (answer 0 0 0 0))))
    go false e b f = one
    go true e false f = two
    go true e true f = accepted e f

pub open_refusals_give_zeros : OpenRefusalsGiveZeros
open_refusals_give_zeros c m = by_open c m (λ o. o.answer.number ≢ 0 → Untouched zeros m o)
    (λ nz. kept_untouched zeros m 1) (λ nz. kept_untouched zeros m 2) (λ e f nz. absurd (nz refl))
