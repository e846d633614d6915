-- Demand 3, both halves, over settle calls. Assumes nothing.
use Prim.Native.Nat.{ℕ, zero, suc, ◌+◌, ◌-◌, ◌≤◌}
use mathlib.Core.Path.{◌≡◌, refl, ap}
use mathlib.Core.Bool.{cond}
use mathlib.Core.List.{List, [], ◌∷◌}
use native.Mathlib.Decide.{dec_le}
use native.Mathlib.Omega.{arith}
use lib.Dec.{leb}
use lib.ListN.{replicate}
use borrow.Author.Tests.{le-leb, lt-leb, le-ltb, lt-ltb}
use Rattle.rules.specs.Store.{Store, Numbers}
use Rattle.rules.specs.Run.{run}
use Rattle.rules.specs.Calls.{settle}
use Rattle.rules.specs.Demand3.{settle_all, steps_in_all, granted, bound, Demand3, Demand3Converse}
use Rattle.rules.proofs.Runs.{run_steps, run_idle, run_add}
use Rattle.rules.proofs.Settling.{after, after_add, later, empties_in_time, never_empty}

module _ (n : Numbers) where
  -- the steps that a settle call with budget b may do: none if it is refused
  abbrev allowed : ℕ → ℕ
  allowed b = cond (leb b n.L) b 0

  abbrev Runs : ℕ → Store → Type 0
  Runs b s = ((settle n b s).store ≡ after n (allowed b) s) × ((settle n b s).answer.steps ≡ (run n (allowed b) s).steps)

  settle_runs : (b : ℕ) (s : Store) → Runs b s
  unfolding settle run
  settle_runs b s = go (dec_le b n.L)
    where
      go : Dec (b ≤ n.L) → Runs b s
      go (yes l) = rw (le-leb b n.L l, le-ltb n.L b l) (refl, refl)
      go (no l) = rw (lt-leb b n.L (omega arith), lt-ltb n.L b (omega arith)) (refl, refl)

  steps_add : (a b : ℕ) (s : Store) → (run n (a + b) s).steps ≡ (run n a s).steps + (run n b (after n a s)).steps
  steps_add a b s = ap (λ r. r.steps) (run_add n a b s)

  -- settle calls, one after another, are one run
  all_store : (budgets : List ℕ) (s : Store) → settle_all n budgets s ≡ after n (granted n budgets) s
  unfolding settle_all granted run
  all_store [] s = refl
  all_store (b ∷ budgets) s = rw ((settle_runs b s).0, after_add) (all_store budgets (after n (allowed b) s))

  all_steps : (budgets : List ℕ) (s : Store) → steps_in_all n budgets s ≡ (run n (granted n budgets) s).steps
  unfolding steps_in_all granted run
  all_steps [] s = refl
  all_steps (b ∷ budgets) s = rw ((settle_runs b s).1, (settle_runs b s).0, steps_add, all_steps budgets)

  -- no run does more steps than empty the queue
  steps_within : (m b : ℕ) (s : Store) → (after n m s).waiting ≡ [] → (run n b s).steps ≤ m
  steps_within m b s e = go (dec_le b m)
    where
      go : Dec (b ≤ m) → (run n b s).steps ≤ m
      go (yes l) = omega (arith, run_steps n b s)
      go (no l) =
          let d : b ≡ m + (b - m) = omega arith in
          rw (d, steps_add, run_idle n (b - m) (after n m s) e) (omega (arith, run_steps n m s))

  granted_ones : (m : ℕ) → 1 ≤ n.L → granted n (replicate m 1) ≡ m
  unfolding granted
  granted_ones zero l = refl
  granted_ones (suc m) l = rw (le-leb 1 n.L l, granted_ones m l) (omega arith)

pub demand_3 : Demand3
demand_3 n into s sound fit = record {
  empties = λ budgets l. rw (all_store n budgets s) (later n (bound n s) (granted n budgets) s empty l);
  within = λ budgets. rw (all_steps n budgets s) (steps_within n (bound n s) (granted n budgets) s empty);
  calls_exist = λ l. (replicate (bound n s) 1, omega (arith, granted_ones n (bound n s) l));
}
  where
    empty : (after n (bound n s) s).waiting ≡ []
    empty = empties_in_time n into s fit sound

pub demand_3_converse : Demand3Converse
demand_3_converse n into s sound x G g lt budgets none =
    never_empty n into s sound G g.once (λ k m. (g.linked k m).0) lt (granted n budgets) (rw (all_store n budgets s) at none)
