-- Settle: refusal 8, nothing that waits, or the run from tidied words. Assumes nothing.
use Prim.Native.Nat.{ℕ, ◌≤◌, ◌<◌}
use mathlib.Core.Path.{◌≡◌, sym, ◌∙◌, ap}
use mathlib.Core.List.{List}
use borrow.Author.Tests.{lt-ltb, le-ltb}
use Rattle.rules.specs.Store.{Store}
use Rattle.rules.specs.Run.{run}
use Rattle.rules.specs.Calls.{answer, settle}
use Rattle.rules.proofs.Runs.{run_idle}
use Rattle.layout.specs.Forms.{entry_form, pair_form, read_many}
use Rattle.layout.proofs.Forms.{length-read_many}
use Rattle.layout.specs.Memory.{Lent, lent, Tidied}
use Rattle.numbers.specs.declared.Setup.{Setup}
use Rattle.finding.specs.Inner.{numbers_of, store_of, with_lens, answered, outcome, keeps, leaves, FitIn, Told}
use Rattle.settling.specs.Ran.{ran_outcome}
use Rattle.settling.proofs.Lying.{held_words, tidied_holds, tidied_store}

pub too_many : (setup : Setup) (n : ℕ) (m : Lent) → setup.rooms.step_limit < n → keeps setup.rooms m (answer 8 0 0 0)
    ≡ leaves setup.rooms m (settle (numbers_of setup) n (store_of setup m))
unfolding leaves settle
too_many setup n m h = simp (lt-ltb setup.rooms.step_limit n h)

pub settles : (setup : Setup) (n : ℕ) (t0 t1 q d q' d' : List ℕ) → FitIn setup (lent t0 t1 q d)
    → Tidied setup.rooms.lengths.queue setup.rooms.lengths.detector q d q' d' → n ≤ setup.rooms.step_limit
    → ran_outcome setup.rooms (run (numbers_of setup) n (store_of setup (lent t0 t1 q' d')))
    ≡ leaves setup.rooms (lent t0 t1 q d) (settle (numbers_of setup) n (store_of setup (lent t0 t1 q d)))
unfolding leaves settle
settles setup n t0 t1 q d q' d' fit tidied h =
    ap (λ s. ran_outcome setup.rooms (run (numbers_of setup) n s)) (tidied_store setup t0 t1 q d q' d' fit tidied) ∙ simp (le-ltb setup.rooms.step_limit n h)

-- with nothing waiting the run does no step
pub settles_idle : (setup : Setup) (n : ℕ) (t0 t1 q d : List ℕ) {q' d' : List ℕ} {a : Told} → FitIn setup (lent t0 t1 q d)
    → Tidied setup.rooms.lengths.queue setup.rooms.lengths.detector q d q' d' → n ≤ setup.rooms.step_limit → setup.rooms.lengths.queue ≡ 0
    → a ≡ answered setup.rooms (answer 0 0 0 0)
    → outcome (lent t0 t1 q' d') a ≡ leaves setup.rooms (lent t0 t1 q d) (settle (numbers_of setup) n (store_of setup (lent t0 t1 q d)))
unfolding leaves settle read_many
settles_idle setup n t0 t1 q d {q'} {d'} {a} fit tidied h none is =
    let s : Store = store_of setup (lent t0 t1 q d) in
    held_words setup _ _ s t0 t1 q' d' setup.rooms.lengths.queue setup.rooms.lengths.detector a _ fit.first fit.second fit.rooms.queue fit.rooms.detector
    (tidied_holds setup t0 t1 q d q' d' fit tidied)
    (is ∙ (λ i. answered (with_lens setup.rooms (sym (length-read_many entry_form setup.rooms.lengths.queue q) i)
    (sym (length-read_many pair_form setup.rooms.lengths.detector d) i)) (answer 0 0 0 0)))
    ∙ ap (ran_outcome setup.rooms) (sym (run_idle (numbers_of setup) n s (ap (λ k. read_many entry_form k q) none)))
    ∙ simp (le-ltb setup.rooms.step_limit n h)
