-- Define: words with one entry more hold the joined store, and the cases of define by what the search finds. Assumes nothing.
use Prim.Native.Nat.{ℕ, ◌+◌, ◌*◌, ◌≤◌, ◌<◌}
use mathlib.Core.Path.{◌≡◌, refl, sym, ap, ◌∙◌}
use mathlib.Core.Bool.{Bool, true, false, not}
use mathlib.Core.List.{List, [], ◌∷◌}
use mathlib.Core.Option.{Option as RulesOption, none, some}
use Rattle.std.proofs.Common.{Some, None}
use native.Mathlib.Omega.{arith}
use borrow.Author.Tests.{le-leb, lt-leb, not-true, not-false}
use lib.Dec.{leb}
use lib.ListN.{length, length-append}
use lib.Seq.{sets}
use Rattle.numbers.specs.Ranges.{good_key}
use Rattle.rules.specs.Store.{Store, Numbers}
use Rattle.rules.specs.Run.{run}
use Rattle.rules.specs.Search.{lookup}
use Rattle.rules.specs.Calls.{answer, Outcome as RulesOutcome, refused, accepted_run, refuse_if, joined, define}
use Rattle.layout.specs.Forms.{entry_form, pair_form}
use Rattle.layout.proofs.Forms.{entry_lawful, length-read_many}
use Rattle.layout.proofs.Ready.{one_behind}
use Rattle.kinds.specs.Shape.{Ready, entry}
use Rattle.steps.specs.Shape.{Holds}
use Rattle.steps.proofs.Going.{holds_store}
use Rattle.layout.specs.Memory.{Lent, lent, words_in, entries_in}
use Rattle.numbers.specs.declared.Setup.{Setup}
use Rattle.finding.specs.Inner.{numbers_of, store_of, setup_with, with_lens, Outcome, outcome, answered, leaves, FitIn, Sees}
use Rattle.finding.specs.declared.Seen.{Seen}
use Rattle.finding.proofs.Searching.{as_code, held}
use Rattle.settling.specs.Ran.{ran_outcome}
use Rattle.settling.proofs.Lying.{held_fit, held_ready}

-- the entry (x, v, 0) put behind those that wait
module _ (setup : Setup) (x v : ℕ) (t0 t1 q d q' : List ℕ) (more : setup.rooms.lengths.queue < setup.rooms.queue_room) (fit : FitIn setup (lent t0 t1 q d))
    (ready : Ready setup.rooms.lengths.queue setup.rooms.lengths.detector q d) (put : q' ≡ sets q (3 * setup.rooms.lengths.queue) (x ∷ v ∷ 0 ∷ [])) where
  abbrev longer : Setup
  longer = setup_with setup.functions (with_lens setup.rooms (setup.rooms.lengths.queue + 1) setup.rooms.lengths.detector)

  joined_holds : Holds setup.functions.r (length q) (length d) (joined x v (store_of setup (lent t0 t1 q d))) t0 t1 q' d
      (setup.rooms.lengths.queue + 1) setup.rooms.lengths.detector
  joined_holds =
      let w = fit.rooms in record {
        first = refl;
        second = refl;
        queue = put ∙ one_behind entry_form entry_lawful setup.rooms.lengths.queue q ready.queue ready.queue_in (omega arith) (entry x v 0);
        detector = ready.detector;
        queue_len = omega (
          arith,
          length-append (entries_in setup.rooms.lengths.queue q) (entry x v 0 ∷ []),
          length-read_many entry_form setup.rooms.lengths.queue q,
        );
        detector_len = sym (length-read_many pair_form setup.rooms.lengths.detector d);
      }

  pub joined_fit : FitIn longer (lent t0 t1 q' d)
  joined_fit = held_fit setup (setup.rooms.lengths.queue + 1) t0 t1 q d q' d (joined x v (store_of setup (lent t0 t1 q d))) fit (omega arith) joined_holds

  pub joined_ready : Ready (setup.rooms.lengths.queue + 1) setup.rooms.lengths.detector q' d
  joined_ready = held_ready setup (setup.rooms.lengths.queue + 1) t0 t1 q d q' d (joined x v (store_of setup (lent t0 t1 q d))) fit (omega arith) joined_holds

  pub joined_runs : {s : Store} {o : Outcome} → store_of setup (lent t0 t1 q d) ≡ s
      → o ≡ ran_outcome longer.rooms (run (numbers_of longer) setup.rooms.step_limit (store_of longer (lent t0 t1 q' d)))
      → o ≡ ran_outcome setup.rooms (run (numbers_of setup) setup.rooms.step_limit (joined x v s))
  unfolding words_in
  joined_runs is e = e ∙ ap (λ s. ran_outcome setup.rooms (run (numbers_of setup) setup.rooms.step_limit s)) (holds_store joined_holds ∙ ap (joined x v) is)

-- define, by the value that the search saw
module _ (n : Numbers) (x v : ℕ) (s : Store) where
  abbrev placed : RulesOutcome
  placed = refuse_if (leb n.Q (length s.waiting)) 6 s (accepted_run (run n n.L (joined x v s)))

  define_bad : good_key x ≡ false → define n x v s ≡ refused 4 0 s
  unfolding define
  define_bad g = simp g

  module _ (good : good_key x ≡ true) where
    define-held : (w : RulesOption ℕ) {u : ℕ} → lookup n x s ≡ w → as_code w ≡ Some u → define n x v s ≡ refused 5 u s
    unfolding define
    define-held none e says = cc
    define-held (some held) {u} e says = let h : held ≡ u = cc in rw (sym h) (simp (good, e))

    define_new : (w : RulesOption ℕ) → lookup n x s ≡ w → as_code w ≡ None → define n x v s ≡ placed
    unfolding define
    define_new none e says = simp (good, e)
    define_new (some held) e says = cc

-- the same of words, k being the code's test of the key
module _ (setup : Setup) (x v : ℕ) (m : Lent) {k : Bool} (test : k ≡ good_key x) where
  abbrev Defines : Outcome → Type 0
  Defines o = o ≡ leaves setup.rooms m (define (numbers_of setup) x v (store_of setup m))

  pub refuses_bad : not k ≡ true → Defines (outcome m (answered setup.rooms (answer 4 0 0 0)))
  unfolding leaves
  refuses_bad bad = sym (ap (leaves setup.rooms m) (define_bad (numbers_of setup) x v (store_of setup m) (sym test ∙ not-true k bad)))

  module _ (good : not k ≡ false) {s : Seen} (sees : Sees setup x m s) where
    pub refuses_held : {u : ℕ} → s.value ≡ Some u → Defines (outcome m (answered setup.rooms (answer 5 u 0 0)))
    unfolding leaves
    refuses_held h =
        sym (ap (leaves setup.rooms m) (define-held (numbers_of setup) x v (store_of setup m) (sym test ∙ not-false k good) _ refl (held test good sees ∙ h)))

    module _ (absent : s.value ≡ None) where
      waits : length (entries_in setup.rooms.lengths.queue m.queue) ≡ setup.rooms.lengths.queue
      waits = length-read_many entry_form setup.rooms.lengths.queue m.queue

      placed_at : (b : Bool) → leb setup.rooms.queue_room (length (entries_in setup.rooms.lengths.queue m.queue)) ≡ b
          → define (numbers_of setup) x v (store_of setup m) ≡ refuse_if b 6 (store_of setup m)
          (accepted_run (run (numbers_of setup) setup.rooms.step_limit (joined x v (store_of setup m))))
      placed_at b e =
          define_new (numbers_of setup) x v (store_of setup m) (sym test ∙ not-false k good) _ refl (held test good sees ∙ absent)
          ∙ ap (λ z. refuse_if z 6 (store_of setup m) (accepted_run (run (numbers_of setup) setup.rooms.step_limit (joined x v (store_of setup m))))) e

      pub refuses_full : setup.rooms.queue_room ≤ setup.rooms.lengths.queue → Defines (outcome m (answered setup.rooms (answer 6 0 0 0)))
      unfolding leaves
      refuses_full l = sym (ap (leaves setup.rooms m) (placed_at true
          (le-leb setup.rooms.queue_room (length (entries_in setup.rooms.lengths.queue m.queue)) (omega (arith, waits)))))

      pub defines : {o : Outcome} → setup.rooms.lengths.queue < setup.rooms.queue_room
          → o ≡ ran_outcome setup.rooms (run (numbers_of setup) setup.rooms.step_limit (joined x v (store_of setup m))) → Defines o
      unfolding leaves
      defines l e = e ∙ sym (ap (leaves setup.rooms m) (placed_at false
          (lt-leb setup.rooms.queue_room (length (entries_in setup.rooms.lengths.queue m.queue)) (omega (arith, waits)))))
