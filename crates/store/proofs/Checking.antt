-- Check accepts exactly a sound store. Assumes nothing.
use Prim.Native.Nat.{ℕ, zero, suc, ◌+◌, ◌-◌, ◌*◌, ◌≤◌}
use mathlib.Core.Path.{◌≡◌, refl, sym, ◌∙◌, ap, subst}
use mathlib.Core.Bool.{Bool, true, false, cond, ◌&&◌, and-eq-true_iff}
use mathlib.Core.List.{List, [], ◌∷◌}
use native.Mathlib.Omega.{arith}
use native.Mathlib.Decide.{ℕ_discrete}
use borrow.Author.Tests.{eqb-true, eq-eqb}
use lib.Dec.{eqb}
use lib.ListN.{get_or, drop}
use lib.Seq.{get_or-drop}
use Rattle.rules.specs.Store.{table_0, table_1, Numbers}
use Rattle.rules.specs.Calls.{answer}
use Rattle.rules.specs.Check.{is_sound, Sized}
use Rattle.rules.proofs.Check.{check_is_exact as rules_check_is_exact}
use Rattle.layout.specs.Forms.{cell_form, entry_form, pair_form}
use Rattle.layout.proofs.Forms.{length-read_many}
use Rattle.entries.specs.Zeros.{all_zero}
use Rattle.checks.specs.Sound.{is_sound_in}
use Rattle.store.specs.declared.Control.{Control}
use Rattle.store.specs.declared.Answer.{Answer}
use Rattle.layout.specs.Memory.{Lent, homes_of}
use Rattle.numbers.specs.declared.Setup.{Setup}
use Rattle.store.specs.Memory.{setup_of, numbers_of, store_of}
use Rattle.store.specs.Refusals.{in_range, sized_in, lengths_within, Outcome, outcome, answered, keeps, unless_fault}
use Rattle.store.specs.Calls.{checking, checked}
use Rattle.faults.specs.Faults.{fault_of}
use Rattle.faults.proofs.Accepted.{both, accepted-tests}
use Rattle.store.specs.Sound.{SoundIn, CheckKeepsSound, CheckIsExact}
use Rattle.store.specs.Inner.{fault_in}
use Rattle.store.proofs.Faults.{no_fault, goes_on_lem, keeps_all}
use Rattle.store.proofs.Demand1.{check_changes_nothing}
use Rattle.store.proofs.Simulation.{no_faults, contents}

-- the test of the words
abbrev pub passes : Control → Lent → Bool
passes c m = is_sound_in (numbers_of c) c.r c.queue_len c.detector_len m.table0 m.table1 m.queue m.detector

pub check_accepts : (c : Control) (m : Lent) → passes c m ≡ true → keeps c m (answer 0 0 0 0) ≡ checking c m
unfolding checking
check_accepts c m h = simp h

pub check_refuses : (c : Control) (m : Lent) → passes c m ≡ false → keeps c m (answer 9 0 0 0) ≡ checking c m
unfolding checking
check_refuses c m h = simp h

-- what the code's test of the whole store answers is that test
pub tested_by : (c : Control) (m : Lent) {w : Setup} {b : Bool} → w ≡ setup_of c
    → ((n : Numbers) → n.home ≡ homes_of w.functions
    → b ≡ is_sound_in n w.functions.r w.rooms.lengths.queue w.rooms.lengths.detector m.table0 m.table1 m.queue m.detector) → b ≡ passes c m
tested_by c m same is =
    is (numbers_of c) (λ i. homes_of (sym same i).functions)
    ∙ (λ i. is_sound_in (numbers_of c) (same i).functions.r (same i).rooms.lengths.queue (same i).rooms.lengths.detector m.table0 m.table1 m.queue m.detector)

pub checks_by : (c : Control) (m : Lent) {b : Bool} {a : Answer} → fault_in c m ≡ 0 → b ≡ passes c m → a ≡ answered c (answer (cond b 0 9) 0 0 0)
    → outcome m a ≡ unless_fault c m (checking c m)
checks_by c m {b = b} none passed is = ap (outcome m) is ∙ go b passed ∙ sym (goes_on_lem c m (checking c m) none)
  where
    go : (b : Bool) → b ≡ passes c m → keeps c m (answer (cond b 0 9) 0 0 0) ≡ checking c m
    go true e = check_accepts c m (sym e)
    go false e = check_refuses c m (sym e)

-- words that are all zero
zero_words : (l : List ℕ) → all_zero l ≡ true → (i : ℕ) → get_or l i 0 ≡ 0
unfolding all_zero
zero_words [] h i = refl
zero_words (x ∷ l) h zero = eqb-true x 0 (both (eqb x 0) (all_zero l) h).0
zero_words (x ∷ l) h (suc i) = zero_words l (both (eqb x 0) (all_zero l) h).1 i

all_zero_lem : (l : List ℕ) → ((i : ℕ) → get_or l i 0 ≡ 0) → all_zero l ≡ true
unfolding all_zero
all_zero_lem [] f = refl
all_zero_lem (x ∷ l) f = (and-eq-true_iff (eqb x 0) (all_zero l)).1 (eq-eqb x 0 (f 0), all_zero_lem l (λ i. f (suc i)))

past : (k : ℕ) (l : List ℕ) → all_zero (drop k l) ≡ true → (i : ℕ) → k ≤ i → get_or l i 0 ≡ 0
past k l h i le = let e : k + (i - k) ≡ i = omega arith in ap (λ j. get_or l j 0) (sym e) ∙ sym (get_or-drop k l (i - k) 0) ∙ zero_words (drop k l) h (i - k)

module _ (c : Control) (m : Lent) where
  fitting : fault_in c m ≡ 0 → Sized (numbers_of c) (store_of c m)
  fitting e = let fit = no_fault c _ _ _ _ e in let r = fit.rooms in record {
    table_size = elim [ table_0 ↦ length-read_many cell_form c.r m.table0 | table_1 ↦ length-read_many cell_form c.r m.table1 ];
    queue_fits = omega (arith, length-read_many entry_form c.queue_len m.queue);
    detector_fits = omega (arith, length-read_many pair_form c.detector_len m.detector);
  }

  passed : fault_in c m ≡ 0 → passes c m ≡ true → SoundIn c m
  unfolding is_sound_in
  passed e h =
      let t = accepted-tests (in_range c) (sized_in c m) (lengths_within c) (unfold fault_of in e) in
      let d = both (is_sound (numbers_of c) (store_of c m) && all_zero (drop (3 * c.queue_len) m.queue)) (all_zero (drop (2 * c.detector_len) m.detector)) h in
      let q = both (is_sound (numbers_of c) (store_of c m)) (all_zero (drop (3 * c.queue_len) m.queue)) d.0 in
      record {
        in_range = t.0;
        buffers = t.1;
        contents = (rules_check_is_exact (numbers_of c) (store_of c m) (fitting e)).0 q.0;
        queue_zeros = past _ m.queue q.1;
        detector_zeros = past _ m.detector d.1;
      }

  passing : SoundIn c m → passes c m ≡ true
  unfolding is_sound_in
  passing s =
      let is : is_sound (numbers_of c) (store_of c m) ≡ true = (rules_check_is_exact (numbers_of c) (store_of c m) (fitting (no_faults c m s))).1 (contents c m s) in
      let q : all_zero (drop (3 * c.queue_len) m.queue) ≡ true = all_zero_lem _ (λ i. get_or-drop (3 * c.queue_len) m.queue i 0 ∙ s.queue_zeros _ (omega arith)) in
      let d : all_zero (drop (2 * c.detector_len) m.detector) ≡ true = all_zero_lem _ (λ i. get_or-drop (2 * c.detector_len) m.detector i 0 ∙ s.detector_zeros _ (omega arith)) in
      (and-eq-true_iff (is_sound (numbers_of c) (store_of c m) && all_zero (drop (3 * c.queue_len) m.queue)) (all_zero (drop (2 * c.detector_len) m.detector))).1
      ((and-eq-true_iff (is_sound (numbers_of c) (store_of c m)) (all_zero (drop (3 * c.queue_len) m.queue))).1 (is, q), d)

  accepted_is_sound : (checked c m).answer.number ≡ 0 → SoundIn c m
  unfolding checked
  accepted_is_sound h = go (ℕ_discrete (fault_in c m) 0)
    where
      tested : fault_in c m ≡ 0 → (b : Bool) → passes c m ≡ b → (checking c m).answer.number ≡ 0 → SoundIn c m
      tested e true t n = passed e t
      tested e false t n = absurd (let z = ap (λ (o : Outcome). o.answer.number) (check_refuses c m t) ∙ n in omega arith)

      go : Dec (fault_in c m ≡ 0) → SoundIn c m
      go (yes e) = tested e (passes c m) refl (ap (λ (o : Outcome). o.answer.number) (sym (goes_on_lem c m (checking c m) e)) ∙ h)
      go (no d) = absurd (d (ap (λ (o : Outcome). o.answer.number) (keeps_all c m (checking c m) (fault_in c m) refl d) ∙ h))

  sound_is_accepted : SoundIn c m → (checked c m).answer.number ≡ 0
  unfolding checked
  sound_is_accepted s = ap (λ (o : Outcome). o.answer.number) (goes_on_lem c m (checking c m) (no_faults c m s) ∙ sym (check_accepts c m (passing s)))

pub check_is_exact : CheckIsExact
check_is_exact c m = (accepted_is_sound c m, sound_is_accepted c m)

pub check_keeps_sound : CheckKeepsSound
check_keeps_sound c m sound =
    let u = check_changes_nothing c m in
    subst (λ (h : Control × Lent). SoundIn h.0 h.1) (λ i. (sym u.control i, sym u.words i)) sound
