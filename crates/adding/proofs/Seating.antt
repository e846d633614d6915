-- Define with nothing waiting and a free home: the run is one step of kind 1. Assumes nothing.
use Prim.Native.Nat.{ℕ, zero, suc, ◌*◌, ◌≤◌, ◌<◌}
use mathlib.Core.Path.{◌≡◌, refl, sym, ap, ◌∙◌}
use mathlib.Core.List.{List, [], ◌∷◌, ◌++◌}
use native.Mathlib.Omega.{arith}
use borrow.Author.Tests.{eq-eqb}
use lib.ListN.{length, get_or, set}
use lib.Seq.{sets}
use Rattle.numbers.specs.declared.Setup.{Setup}
use Rattle.numbers.specs.Homes.{home0}
use Rattle.numbers.proofs.Home.{home0_in_table}
use Rattle.rules.specs.Store.{table_0, Cell, cell_at, Store, Numbers}
use Rattle.rules.specs.Step.{landed, done, step_at, step_from, step}
use Rattle.rules.specs.Run.{ran, counted, run}
use Rattle.rules.specs.Calls.{joined}
use Rattle.rules.proofs.Runs.{run_idle, run_more}
use Rattle.layout.specs.Forms.{cell_form, entry_form, pair_form, read_many, write_many, packed}
use Rattle.layout.specs.Memory.{lent, words_in, Tidied, cells_in, entries_in}
use Rattle.layout.proofs.Forms.{cell_lawful, length-read_many, write_all, write_set}
use Rattle.kinds.specs.Shape.{entry}
use Rattle.steps.proofs.InTable.{cell_read}
use Rattle.finding.specs.Inner.{numbers_of, store_of, outcome, FitIn, Told, tells}
use Rattle.settling.specs.Ran.{ran_outcome}

-- the rules: one step, of kind 1
module _ (n : Numbers) (x v : ℕ) (s : Store) (none : s.waiting ≡ []) (free : (cell_at s.tables table_0 (n.home table_0 x)).key ≡ 0) where
  abbrev seated : Store
  seated = landed table_0 (n.home table_0 x) (entry x v 0) [] s

  alone : (joined x v s).waiting ≡ entry x v 0 ∷ []
  alone = ap (λ q. q ++ entry x v 0 ∷ []) none

  one_step : step n (joined x v s) ≡ done 1 seated
  unfolding step step_from step_at
  one_step = ap (step_from n (joined x v s)) alone ∙ simp (eq-eqb _ _ free)

  seats : (L : ℕ) → 1 ≤ L → run n L (joined x v s) ≡ ran seated 1 0
  seats zero some = absurd (omega arith)
  seats (suc b) some =
      run_more n b (joined x v s) (entry x v 0) [] alone
      ∙ ap (λ t. counted t.kind (run n b t.store)) one_step
      ∙ ap (counted 1) (run_idle n b seated refl)

-- the same of words
cell_written : (r i x v : ℕ) (t : List ℕ) → length t ≡ 2 * r → i < r → sets t (2 * i) (x ∷ v ∷ []) ≡ write_many cell_form (set (cells_in r t) i (record { key = x; value = v }))
cell_written r i x v t size h =
    ap (λ ws. sets ws (2 * i) (x ∷ v ∷ [])) (sym (write_all cell_form cell_lawful r t size))
    ∙ sym (write_set cell_form cell_lawful (cells_in r t) i (record { key = x; value = v }) (omega (arith, length-read_many cell_form r t)))

module _ (setup : Setup) (x v : ℕ) (t0 t1 q d : List ℕ) {i : ℕ} (fit : FitIn setup (lent t0 t1 q d)) (none : setup.rooms.lengths.queue ≡ 0)
    (home : i ≡ home0 setup.functions x) (free : get_or t0 (2 * i) 0 ≡ 0) where
  inside : i < setup.functions.r
  inside = rw home (home0_in_table setup.functions x fit.some)

  waits_none : entries_in setup.rooms.lengths.queue q ≡ []
  unfolding read_many
  waits_none = ap (λ k. read_many entry_form k q) none

  free_home : (cell_at (store_of setup (lent t0 t1 q d)).tables table_0 (home0 setup.functions x)).key ≡ 0
  free_home = rw (sym home) (ap (λ (e : Cell). e.key) (cell_read setup.functions.r i t0 inside) ∙ free)

  pub seated_at_once : {t q' d' : List ℕ} {a : Told} → t ≡ sets t0 (2 * i) (x ∷ v ∷ []) → Tidied 0 0 q d q' d' → a ≡ tells 0 0 0 0 1 0
      → outcome (lent t t1 q' d') a ≡ ran_outcome setup.rooms (run (numbers_of setup) setup.rooms.step_limit (joined x v (store_of setup (lent t0 t1 q d))))
  unfolding words_in read_many
  seated_at_once e tidy is =
      (λ j. outcome (lent ((e ∙ cell_written setup.functions.r i x v t0 fit.first inside
      ∙ ap (λ k. write_many cell_form (set (cells_in setup.functions.r t0) k (record { key = x; value = v }))) home) j)
      (sym (write_all cell_form cell_lawful setup.functions.r t1 fit.second) j)
      ((tidy.queue ∙ ap (λ k. packed entry_form k []) fit.rooms.queue) j) ((tidy.detector ∙ ap (λ k. packed pair_form k []) fit.rooms.detector) j))
      (is j))
      ∙ ap (ran_outcome setup.rooms) (sym (seats (numbers_of setup) x v (store_of setup (lent t0 t1 q d))
      waits_none free_home setup.rooms.step_limit fit.limit_some))
