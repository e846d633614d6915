-- Runs of steps: what a step keeps a run keeps, the counts are within the budget, and two runs, one after the other, are one. Assumes nothing.
use Prim.Native.Nat.{ℕ, zero, suc, ◌+◌, ◌≤◌}
use mathlib.Core.Path.{◌≡◌, refl, sym, ap, ◌∙◌}
use mathlib.Core.Bool.{Bool, true, false, cond}
use mathlib.Core.List.{List, [], ◌∷◌}
use native.Mathlib.Nat.{zero-add, suc-add}
use native.Mathlib.Omega.{arith}
use lib.Dec.{eqb}
use Rattle.rules.specs.Store.{Entry, Store, Numbers}
use Rattle.rules.specs.Step.{step}
use Rattle.rules.specs.Run.{Ran, ran, is_empty, as_move, counted, run}

-- one run and then another
abbrev pub join_runs : Ran → Ran → Ran
join_runs a b = ran b.store (a.steps + b.steps) (a.moves + b.moves)

pub as_move_one : (kind : ℕ) → as_move kind ≤ 1
as_move_one kind = pick (eqb kind 3)
  where
    pick : (b : Bool) → cond b 1 0 ≤ 1
    pick true = omega arith
    pick false = omega arith

module _ (n : Numbers) where
  -- a property of runs: true of no steps, and of a step more in front; with what is known of the queue
  pub run_ind : (P : ℕ → Store → Ran → Type 0) → ((b : ℕ) (s : Store) → P b s (ran s 0 0))
      → ((b : ℕ) (s : Store) (r : Ran) → P b (step n s).store r → P (suc b) s (counted (step n s).kind r))
      → (b : ℕ) (s : Store) → P b s (run n b s)
  unfolding run
  run_ind P base more zero s = base zero s
  run_ind P base more (suc b) s = pick (is_empty s.waiting) (more b s (run n b (step n s).store) (run_ind P base more b (step n s).store))
    where
      pick : (empty : Bool) → P (suc b) s (counted (step n s).kind (run n b (step n s).store))
          → P (suc b) s (cond empty (ran s 0 0) (counted (step n s).kind (run n b (step n s).store)))
      pick true r = base (suc b) s
      pick false r = r

  pub run-keeps : (P : Store → Type 0) → ((s : Store) → P s → P (step n s).store) → (b : ℕ) (s : Store) → P s → P (run n b s).store
  run-keeps P keeps = run_ind (λ b s r. P s → P r.store) (λ b s p. p) (λ b s r ih p. ih (keeps s p))

  pub run_steps : (b : ℕ) (s : Store) → (run n b s).steps ≤ b
  run_steps = run_ind (λ b s r. r.steps ≤ b) (λ b s. omega arith) (λ b s r ih. omega arith)

  pub run_moves : (b : ℕ) (s : Store) → (run n b s).moves ≤ (run n b s).steps
  run_moves = run_ind (λ b s r. r.moves ≤ r.steps) (λ b s. omega arith) (λ b s r ih. omega (arith, as_move_one (step n s).kind))

  -- with an empty queue there is no step
  pub run_idle : (b : ℕ) (s : Store) → s.waiting ≡ [] → run n b s ≡ ran s 0 0
  unfolding run
  run_idle zero s e = refl
  run_idle (suc b) s e = ap (λ q. cond (is_empty q) (ran s 0 0) (counted (step n s).kind (run n b (step n s).store))) e

  -- with a front entry there is one
  pub run_more : (b : ℕ) (s : Store) (e : Entry) (q : List Entry) → s.waiting ≡ e ∷ q → run n (suc b) s ≡ counted (step n s).kind (run n b (step n s).store)
  unfolding run
  run_more b s e q w = ap (λ l. cond (is_empty l) (ran s 0 0) (counted (step n s).kind (run n b (step n s).store))) w

  pub run_add : (a b : ℕ) (s : Store) → run n (a + b) s ≡ join_runs (run n a s) (run n b (run n a s).store)
  unfolding run
  run_add zero b s = rw zero-add (λ i. ran (run n b s).store (sym (zero-add (run n b s).steps) i) (sym (zero-add (run n b s).moves) i))
  run_add (suc a) b s = rw suc-add (pick s.waiting refl (run_add a b (step n s).store))
    where
      k : ℕ
      k = (step n s).kind

      later : Ran
      later = run n a (step n s).store

      pick : (q : List Entry) → s.waiting ≡ q → run n (a + b) (step n s).store ≡ join_runs later (run n b later.store)
          → cond (is_empty q) (ran s 0 0) (counted k (run n (a + b) (step n s).store))
          ≡ join_runs (cond (is_empty q) (ran s 0 0) (counted k later)) (run n b (cond (is_empty q) (ran s 0 0) (counted k later)).store)
      pick [] w ih = let e : run n b s ≡ ran s 0 0 = run_idle b s w in ap (join_runs (ran s 0 0)) (sym e)
      pick (x ∷ q) w ih = ap (counted k) ih ∙ (λ i. ran (run n b later.store).store (up i) (across i))
        where
          up : suc (later.steps + (run n b later.store).steps) ≡ suc later.steps + (run n b later.store).steps
          up = omega arith

          across : as_move k + (later.moves + (run n b later.store).moves) ≡ as_move k + later.moves + (run n b later.store).moves
          across = omega arith
