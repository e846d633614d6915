-- How words that hold a store of the rules lie: they are that store's words, tidied words hold the same store, and a run's words are its outcome.
-- Assumes nothing.
use Prim.Native.Nat.{ℕ, ◌*◌, ◌≤◌}
use mathlib.Core.Path.{◌≡◌, refl, sym, ◌∙◌, ap}
use mathlib.Core.List.{List}
use native.Mathlib.Omega.{arith}
use lib.ListN.{length}
use Rattle.rules.specs.Store.{Store}
use Rattle.rules.specs.Run.{run}
use Rattle.layout.specs.Forms.{cell_form, entry_form, pair_form, write_many, packed}
use Rattle.layout.proofs.Forms.{cell_lawful, length-read_many, write_all}
use Rattle.steps.specs.declared.Ended.{Ended}
use Rattle.kinds.specs.Shape.{Ready}
use Rattle.steps.specs.Shape.{StepsWith, Holds, Runs}
use Rattle.steps.proofs.Going.{holds_store, holds_queue, holds_detector, holds_ready}
use Rattle.layout.specs.Memory.{Lent, lent, words_in, Tidied}
use Rattle.numbers.specs.declared.Setup.{Setup}
use Rattle.finding.specs.Inner.{numbers_of, store_of, words_of, setup_with, with_lens, outcome, FitIn, Told, tells}
use Rattle.settling.specs.Ran.{ran_outcome}

-- an outcome by its five parts
pub as_one : {t0 t1 q d u0 u1 p e : List ℕ} {a b : Told} → t0 ≡ u0 → t1 ≡ u1 → q ≡ p → d ≡ e → a ≡ b → outcome (lent t0 t1 q d) a ≡ outcome (lent u0 u1 p e) b
as_one e0 e1 e2 e3 e4 = λ i. outcome (lent (e0 i) (e1 i) (e2 i) (e3 i)) (e4 i)

-- words that hold a store are its words
pub held_words : (setup : Setup) (nq nd : ℕ) (s : Store) (t0 t1 q d : List ℕ) (ql dl : ℕ) (a b : Told)
    → length t0 ≡ 2 * setup.functions.r → length t1 ≡ 2 * setup.functions.r
    → nq ≡ 3 * setup.rooms.queue_room → nd ≡ 2 * setup.rooms.detector_room → Holds setup.functions.r nq nd s t0 t1 q d ql dl → a ≡ b
    → outcome (lent t0 t1 q d) a ≡ outcome (words_of setup.rooms s) b
unfolding words_in
held_words setup nq nd s t0 t1 q d ql dl a b l0 l1 eq ed h e = as_one
    (sym (write_all cell_form cell_lawful setup.functions.r t0 l0) ∙ ap (write_many cell_form) h.first)
    (sym (write_all cell_form cell_lawful setup.functions.r t1 l1) ∙ ap (write_many cell_form) h.second)
    (h.queue ∙ ap (λ k. packed entry_form k s.waiting) eq)
    (h.detector ∙ ap (λ k. packed pair_form k s.marked) ed)
    e

-- words that hold a store, of the lengths that fit a record: they fit it, are ready, and stand for the store
module _ (setup : Setup) (ql : ℕ) (t0 t1 q d q' d' : List ℕ) (s : Store) (fit : FitIn setup (lent t0 t1 q d)) (few : ql ≤ setup.rooms.queue_room)
    (h : Holds setup.functions.r (length q) (length d) s t0 t1 q' d' ql setup.rooms.lengths.detector) where
  pub held_fit : FitIn (setup_with setup.functions (with_lens setup.rooms ql setup.rooms.lengths.detector)) (lent t0 t1 q' d')
  held_fit =
      let w = fit.rooms in
      let lq : length q' ≡ length q = holds_queue h (omega arith) in
      let ld : length d' ≡ length d = holds_detector h (omega arith) in
      record {
        some = fit.some;
        small = fit.small;
        limit_some = fit.limit_some;
        limit_small = fit.limit_small;
        first = fit.first;
        second = fit.second;
        rooms = record {
          queue_small = w.queue_small;
          detector_small = w.detector_small;
          queue = lq ∙ w.queue;
          detector = ld ∙ w.detector;
          queue_in = few;
          detector_in = w.detector_in;
        };
      }

  pub held_ready : Ready ql setup.rooms.lengths.detector q' d'
  held_ready = let w = fit.rooms in holds_ready h (omega arith) (omega arith) (omega arith) (omega arith)

module _ (setup : Setup) (t0 t1 q d q' d' : List ℕ) (fit : FitIn setup (lent t0 t1 q d))
    (t : Tidied setup.rooms.lengths.queue setup.rooms.lengths.detector q d q' d') where
  pub tidied_holds : Holds setup.functions.r (length q) (length d) (store_of setup (lent t0 t1 q d))
      t0 t1 q' d' setup.rooms.lengths.queue setup.rooms.lengths.detector
  tidied_holds = record {
    first = refl;
    second = refl;
    queue = t.queue;
    detector = t.detector;
    queue_len = sym (length-read_many entry_form setup.rooms.lengths.queue q);
    detector_len = sym (length-read_many pair_form setup.rooms.lengths.detector d);
  }

  pub tidied_fit : FitIn setup (lent t0 t1 q' d')
  tidied_fit = held_fit setup setup.rooms.lengths.queue t0 t1 q d q' d' (store_of setup (lent t0 t1 q d)) fit fit.rooms.queue_in tidied_holds

  pub tidied_ready : Ready setup.rooms.lengths.queue setup.rooms.lengths.detector q' d'
  tidied_ready = held_ready setup setup.rooms.lengths.queue t0 t1 q d q' d' (store_of setup (lent t0 t1 q d)) fit fit.rooms.queue_in tidied_holds

  pub tidied_store : store_of setup (lent t0 t1 q' d') ≡ store_of setup (lent t0 t1 q d)
  tidied_store = holds_store tidied_holds

-- a run's words are its outcome
module _ (setup : Setup) (m : Lent) (fit : FitIn setup m) (budget : ℕ) where
  pub runs_with : StepsWith (numbers_of setup) setup.functions setup.rooms.detector_room
  runs_with = record { detector_room = refl; homes = refl }

  pub ran_out : (t0 t1 q d : List ℕ) (e : Ended) {a : Told} → Runs setup.functions.r (length m.queue) (length m.detector)
      (run (numbers_of setup) budget (store_of setup m)) t0 t1 q d e
      → length t0 ≡ length m.table0 → length t1 ≡ length m.table1 → a ≡ tells e.lengths.queue e.lengths.detector 0 0 e.steps e.moves
      → outcome (lent t0 t1 q d) a ≡ ran_outcome setup.rooms (run (numbers_of setup) budget (store_of setup m))
  ran_out t0 t1 q d e r l0 l1 is = ap (outcome (lent t0 t1 q d)) is
      ∙ held_words setup _ _ _ t0 t1 q d _ _ _ _ (l0 ∙ fit.first) (l1 ∙ fit.second) fit.rooms.queue fit.rooms.detector r.words
      (λ i. tells (r.words.queue_len i) (r.words.detector_len i) 0 0 (r.steps i) (r.moves i))
