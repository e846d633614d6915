-- No call does more than L steps or more moves than steps, and a refusal changes nothing. Assumes nothing.
use Prim.Native.Nat.{ℕ, ◌≤◌}
use mathlib.Core.Path.{◌≡◌, refl}
use mathlib.Core.Logic.{◌≢◌}
use mathlib.Core.Bool.{Bool, true, false, not}
use mathlib.Core.Option.{Option, none, some}
use native.Mathlib.Omega.{arith}
use borrow.Author.Tests.{ltb-false}
use lib.Dec.{leb, ltb}
use lib.ListN.{length}
use Rattle.numbers.specs.Ranges.{good_key}
use Rattle.rules.specs.Store.{Store, Numbers}
use Rattle.rules.specs.Run.{run}
use Rattle.rules.specs.Search.{search, lookup}
use Rattle.rules.specs.Calls.{Outcome, refused, accepted, accepted_run, refuse_if, refuse5, or_refuse7, joined, with_value, without, find, define, change, remove, settle, Call, Find, Define, Change, Remove, Settle, does}
use Rattle.rules.specs.Limits.{Limited, CallsAreLimited, Untouched, RefusalsChangeNothing}
use Rattle.rules.proofs.Runs.{run_steps, run_moves}

-- what holds of every refusal, of every accepted call without steps and of every run within L holds of each call
module _ (n : Numbers) (s : Store) (P : Outcome → Type 0) (no_call : (number value : ℕ) → number ≢ 0 → (number ≢ 5 → value ≡ 0) → P (refused number value s)) (still : (value : ℕ) (u : Store) → P (accepted value u))
    (runs : (b : ℕ) → b ≤ n.L → (u : Store) → P (accepted_run (run n b u))) where
  tested : (b : Bool) (number : ℕ) (after : Outcome) → number ≢ 0 → P after → P (refuse_if b number s after)
  tested true number after nz p = no_call number 0 nz (λ ne. refl)
  tested false number after nz p = p

  found : (o : Option ℕ) (after : Store) → P (or_refuse7 o s after)
  found none after = no_call 7 0 (λ e. omega arith) (λ ne. refl)
  found (some held) after = still held after

  new : (o : Option ℕ) (after : Outcome) → P after → P (refuse5 o s after)
  new none after p = p
  new (some held) after p = no_call 5 held (λ e. omega arith) (λ ne. absurd (ne refl))

  by_outcome : (call : Call) → P (does n call s)
  unfolding find define change remove settle
  by_outcome (Find x) = tested (not (good_key x)) 4 _ (λ e. omega arith) (found (lookup n x s) s)
  by_outcome (Define x v) = tested (not (good_key x)) 4 _ (λ e. omega arith) (new (lookup n x s) _ (tested (leb n.Q (length s.waiting)) 6 _ (λ e. omega arith) (runs n.L (omega arith) (joined x v s))))
  by_outcome (Change x v) = tested (not (good_key x)) 4 _ (λ e. omega arith) (found (lookup n x s) (with_value (search n x s) v s))
  by_outcome (Remove x) = tested (not (good_key x)) 4 _ (λ e. omega arith) (found (lookup n x s) (without (search n x s) s))
  by_outcome (Settle b) = go (ltb n.L b) refl
    where
      go : (over : Bool) → ltb n.L b ≡ over → P (refuse_if over 8 s (accepted_run (run n b s)))
      go true e = no_call 8 0 (λ e. omega arith) (λ ne. refl)
      go false e = runs b (ltb-false _ _ e) s

pub calls_are_limited : CallsAreLimited
calls_are_limited n call s = by_outcome n s (Limited n)
    (λ number value nz held. record { steps_at_most_L = omega arith; moves_at_most_steps = omega arith })
    (λ value u. record { steps_at_most_L = omega arith; moves_at_most_steps = omega arith })
    (λ b l u. record { steps_at_most_L = omega (arith, run_steps n b u); moves_at_most_steps = run_moves n b u }) call

pub refusals_change_nothing : RefusalsChangeNothing
refusals_change_nothing n call s = by_outcome n s (λ o. o.answer.number ≢ 0 → Untouched s o)
    (λ number value nz held r. record { store = refl; value = held; no_steps = refl; no_moves = refl }) (λ value u r. absurd (r refl)) (λ b l u r. absurd (r refl)) call
