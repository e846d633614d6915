-- From what an inner call leaves and gives back to the outcome of the call on the record. Assumes nothing.
use Prim.Native.Nat.{ℕ, ◌≤◌}
use native.Mathlib.Omega.{arith}
use Rattle.std.proofs.Common.{Result, Ok, Err}
use lib.ListN.{length}
use mathlib.Core.Path.{◌≡◌, refl, sym, ◌∙◌, ap}
use mathlib.Core.Logic.{◌≢◌}
use mathlib.Core.Bool.{Bool, true, false, cond}
use Rattle.rules.specs.Store.{Store, Numbers}
use Rattle.rules.specs.Calls.{Answer as RulesAnswer, answer, Outcome as RulesOutcome}
use Rattle.rules.specs.Search.{search}
use Rattle.rules.specs.Keeps.{is_accepted}
use mathlib.Core.List.{List}
use Rattle.layout.specs.declared.Buffers.{Buffers}
use Rattle.layout.specs.Memory.{Lent, lent, words}
use Rattle.refusals.specs.declared.Refusal.{Refusal}
use Rattle.refusals.specs.declared.Refusal.TheVariants.{NumberOutOfRange, BufferLength, LengthAboveRoom, NotAKey, AlreadyDefined}
use Rattle.refusals.specs.declared.Refusal.TheVariants.{QueueFull, NotFound, AboveStepLimit, NotSound}
use Rattle.refusals.specs.Numbers.{number_of, value_of, number_of_test}
use Rattle.finding.specs.declared.Done.{Done}
use Rattle.numbers.specs.declared.Setup.{Setup}
use Rattle.finding.specs.Inner.{numbers_of as inner_numbers, store_of as inner_store, words_of as inner_words, rooms_of as inner_rooms, FitIn, Told, told_by}
use Rattle.finding.specs.Inner.{Outcome as InnerOutcome, outcome as inner, answered as inner_answered, keeps as inner_keeps, leaves as inner_leaves}
use Rattle.changing.specs.Change.{put_value, changing as inner_changing}
use Rattle.store.specs.declared.Control.{Control}
use Rattle.store.specs.declared.Answer.{Answer}
use Rattle.store.specs.Memory.{rooms_of, setup_of, numbers_of, store_of, record_of, words_of}
use Rattle.store.specs.Refusals.{Outcome, outcome, answered, keeps, unless_fault}
use Rattle.store.specs.Calls.{leaves, changing}
use Rattle.store.specs.Inner.{fault_in, carried}
use Rattle.store.proofs.Faults.{fault_few, no_fault, goes_on_lem, keeps_all}

-- what an inner call leaves and gives back, with the record
abbrev carries : Control → InnerOutcome → Outcome
carries c o = outcome o.lent (carried c o.told)

module _ (c : Control) (m : Lent) where
  carries-leaves : (o : RulesOutcome) → carries c (inner_leaves (rooms_of c) m o) ≡ leaves c m o
  unfolding leaves inner_leaves record_of
  carries-leaves o = go (is_accepted o.answer)
    where
      go : (b : Bool) → carries c (cond b (inner (inner_words (rooms_of c) o.store) (inner_answered (inner_rooms (rooms_of c) o.store) o.answer)) (inner_keeps (rooms_of c) m o.answer))
          ≡ cond b (outcome (words_of c o.store) (answered (record_of c o.store) o.answer)) (keeps c m o.answer)
      go true = refl
      go false = refl

  carries-changing : (x v : ℕ) (a : RulesAnswer) → carries c (inner_changing (setup_of c) x v m a) ≡ changing c x v m a
  unfolding changing inner_changing
  carries-changing x v a = go (put_value (search (numbers_of c) x (store_of c m)) v m) (is_accepted a)
    where
      go : (put : Lent) (b : Bool) → carries c (cond b (inner_keeps (rooms_of c) put a) (inner_keeps (rooms_of c) m a)) ≡ cond b (keeps c put a) (keeps c m a)
      go put true = refl
      go put false = refl

-- a refusal that is one of the first three answers value 0
faults_answer : (c : Control) (e : Refusal) → number_of e ≤ 3 → {k : ℕ} → number_of e ≡ k → answered c (answer (number_of e) (value_of e) 0 0) ≡ answered c (answer k 0 0 0)
faults_answer c NumberOutOfRange h is = ap (λ j. answered c (answer j 0 0 0)) is
faults_answer c BufferLength h is = ap (λ j. answered c (answer j 0 0 0)) is
faults_answer c LengthAboveRoom h is = ap (λ j. answered c (answer j 0 0 0)) is
faults_answer c NotAKey h is = absurd (omega arith)
faults_answer c (AlreadyDefined held) h is = absurd (omega arith)
faults_answer c QueueFull h is = absurd (omega arith)
faults_answer c NotFound h is = absurd (omega arith)
faults_answer c AboveStepLimit h is = absurd (omega arith)
faults_answer c NotSound h is = absurd (omega arith)

-- and no refusal is accepted
pub some_number : (e : Refusal) → number_of e ≢ 0
some_number NumberOutOfRange h = omega arith
some_number BufferLength h = omega arith
some_number LengthAboveRoom h = omega arith
some_number NotAKey h = omega arith
some_number (AlreadyDefined held) h = omega arith
some_number QueueFull h = omega arith
some_number NotFound h = omega arith
some_number AboveStepLimit h = omega arith
some_number NotSound h = omega arith

-- a call on a record and lent words: r is what the test of both answered
module _ (c : Control) (m : Lent) {r : Result (Unit {0}) Refusal} (test : number_of_test r ≡ fault_in c m) where
  module _ {e : Refusal} (fault : r ≡ Err e) where
    pub number_is : number_of e ≡ fault_in c m
    number_is = ap number_of_test (sym fault) ∙ test

    pub fault_answer : (z : Control) → answered z (answer (number_of e) (value_of e) 0 0) ≡ answered z (answer (fault_in c m) 0 0 0)
    fault_answer z = faults_answer z e (rw number_is (fault_few c m)) number_is

    pub refused_by : (after : Outcome) {a : Answer} → a ≡ answered c (answer (number_of e) (value_of e) 0 0) → outcome m a ≡ unless_fault c m after
    refused_by after is = ap (outcome m) (is ∙ fault_answer c) ∙ keeps_all c m after (fault_in c m) refl (λ z. some_number e (number_is ∙ z))

  module _ {u : Unit {0}} (none : r ≡ Ok u) where
    pub no_fault_in : fault_in c m ≡ 0
    no_fault_in = sym test ∙ ap number_of_test none

    pub own_fits_by : FitIn (setup_of c) m
    own_fits_by = no_fault c (length m.table0) (length m.table1) (length m.queue) (length m.detector) no_fault_in

    pub goes_on_by : (after : Outcome) → after ≡ unless_fault c m after
    goes_on_by after = sym (goes_on_lem c m after no_fault_in)

    -- w is the code's struct of the record's numbers
    module _ {w : Setup} (same : w ≡ setup_of c) where
      pub fits_by : FitIn w m
      fits_by = rw same own_fits_by

      module _ {m' : Lent} {d : Told} {a : Answer} (is : a ≡ carried c d) where
        -- whatever an inner call leaves and gives back, if what it leaves carries to what comes after
        goes_by : (G : Setup → InnerOutcome) (after : Outcome) → carries c (G (setup_of c)) ≡ after → inner m' d ≡ G w
            → outcome m' a ≡ unless_fault c m after
        goes_by G after carry e = ap (outcome m') is ∙ ap (carries c) (e ∙ ap G same) ∙ carry ∙ goes_on_by after

        pub keeps_by : (G : Numbers → Store → RulesAnswer) → inner m' d ≡ inner_keeps w.rooms m (G (inner_numbers w) (inner_store w m))
            → outcome m' a ≡ unless_fault c m (keeps c m (G (numbers_of c) (store_of c m)))
        keeps_by G = goes_by (λ z. inner_keeps z.rooms m (G (inner_numbers z) (inner_store z m))) _ refl

        pub leaves_by : (G : Numbers → Store → RulesOutcome) → inner m' d ≡ inner_leaves w.rooms m (G (inner_numbers w) (inner_store w m))
            → outcome m' a ≡ unless_fault c m (leaves c m (G (numbers_of c) (store_of c m)))
        leaves_by G = goes_by (λ z. inner_leaves z.rooms m (G (inner_numbers z) (inner_store z m))) _ (carries-leaves c m (G (numbers_of c) (store_of c m)))

        pub changes_by : (x v : ℕ) (G : Numbers → Store → RulesAnswer) → inner m' d ≡ inner_changing w x v m (G (inner_numbers w) (inner_store w m))
            → outcome m' a ≡ unless_fault c m (changing c x v m (G (numbers_of c) (store_of c m)))
        changes_by x v G =
            goes_by (λ z. inner_changing z x v m (G (inner_numbers z) (inner_store z m))) _ (carries-changing c m x v (G (numbers_of c) (store_of c m)))

-- what an inner call gives back, read with the record's own rooms
pub own_told : (c : Control) {w : Setup} (same : w ≡ setup_of c) {m' : Lent} (d : Result Done Refusal) {o : InnerOutcome}
    → inner m' (told_by w.rooms d) ≡ o → inner m' (told_by (rooms_of c) d) ≡ o
own_told c same {m'} d e = ap (λ (z : Setup). inner m' (told_by z.rooms d)) (sym same) ∙ e

-- the buffers that a call was lent hold what those that it handed on hold
pub handed_back : {t0 t1 q d : List ℕ} {a : Answer} {o : Outcome} (m : Buffers) → t0 ≡ m.t0.now → t1 ≡ m.t1.now → q ≡ m.queue.now → d ≡ m.detector.now
    → outcome (words m) a ≡ o → outcome (lent t0 t1 q d) a ≡ o
handed_back {a = a} m e0 e1 eq ed is = (λ i. outcome (lent (e0 i) (e1 i) (eq i) (ed i)) a) ∙ is
