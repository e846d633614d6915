-- What an accepted record and accepted lengths say, and what refusals 1, 2 and 3 leave. Assumes nothing.
use Prim.Native.Nat.{ℕ, ◌≤◌}
use mathlib.Core.Path.{◌≡◌, refl, ap}
use mathlib.Core.Logic.{◌≢◌}
use mathlib.Core.Bool.{Bool, true, false, cond, not, ◌&&◌}
use native.Mathlib.Omega.{arith}
use lib.Dec.{leb}
use borrow.Author.Tests.{leb-true}
use Rattle.rules.specs.Calls.{answer}
use Rattle.layout.specs.Memory.{Lent}
use Rattle.faults.specs.Faults.{within_rooms, fault_of, lengths_fit}
use Rattle.faults.proofs.Accepted.{both, ranges, Sizes, sizes, accepted-tests}
use Rattle.finding.specs.Inner.{Fit}
use Rattle.store.specs.declared.Control.{Control}
use Rattle.store.specs.Memory.{setup_of}
use Rattle.store.specs.Inner.{fault_in}
use Rattle.store.specs.Refusals.{in_range, sized_in, lengths_within, Outcome, keeps, refuse_if, unless_fault}

-- the test behind `sized_in`, of four lengths
abbrev pub sized : Control → ℕ → ℕ → ℕ → ℕ → Bool
sized c n0 n1 nq nd = lengths_fit (setup_of c) n0 n1 nq nd

pub own_sizes : (c : Control) (n0 n1 nq nd : ℕ) → sized c n0 n1 nq nd ≡ true → Sizes (setup_of c) n0 n1 nq nd
own_sizes c n0 n1 nq nd h = sizes (setup_of c) n0 n1 nq nd h

pub no_fault : (c : Control) (n0 n1 nq nd : ℕ) → fault_of (setup_of c) n0 n1 nq nd ≡ 0 → Fit (setup_of c) n0 n1 nq nd
unfolding fault_of within_rooms
no_fault c n0 n1 nq nd h =
    let t = accepted-tests (in_range c) (sized c n0 n1 nq nd) (leb c.queue_len c.queue_room && leb c.detector_len c.detector_room) h in
    let r = ranges (setup_of c) t.0 in
    let s = own_sizes c n0 n1 nq nd t.1 in
    let f = both (leb c.queue_len c.queue_room) (leb c.detector_len c.detector_room) t.2 in
    record {
      some = r.some;
      small = r.small;
      limit_some = r.limit_some;
      limit_small = r.limit_small;
      first = s.first;
      second = s.second;
      rooms = record {
        queue_small = r.queue_small;
        detector_small = r.detector_small;
        queue = s.queue;
        detector = s.detector;
        queue_in = leb-true _ _ f.0;
        detector_in = leb-true _ _ f.1;
      };
    }

-- the first three refusals
pub fault_few : (c : Control) (m : Lent) → fault_in c m ≤ 3
unfolding fault_of
fault_few c m = go (in_range c) (sized_in c m) (lengths_within c)
  where
    go : (a b f : Bool) → cond a (cond b (cond f 0 3) 2) 1 ≤ 3
    go true true true = omega arith
    go true true false = omega arith
    go true false f = omega arith
    go false b f = omega arith

-- without a fault the call goes on, with one it keeps everything
module _ (c : Control) (m : Lent) (after : Outcome) where
  abbrev tests : Bool → Bool → Bool → Outcome
  tests a b f = refuse_if (not a) 1 c m (refuse_if (not b) 2 c m (refuse_if (not f) 3 c m after))

  pub goes_on_lem : fault_in c m ≡ 0 → unless_fault c m after ≡ after
  unfolding unless_fault fault_of
  goes_on_lem h = go (in_range c) (sized_in c m) (lengths_within c) h
    where
      go : (a b f : Bool) → ◌≡◌ {A = ℕ} (cond a (cond b (cond f 0 3) 2) 1) 0 → tests a b f ≡ after
      go true true true e = refl
      go true true false e = absurd (omega arith)
      go true false f e = absurd (omega arith)
      go false b f e = absurd (omega arith)

  pub keeps_all : (k : ℕ) → k ≡ fault_in c m → k ≢ 0 → keeps c m (answer k 0 0 0) ≡ unless_fault c m after
  unfolding unless_fault fault_of
  keeps_all k e nz = go (in_range c) (sized_in c m) (lengths_within c) e
    where
      go : (a b f : Bool) → k ≡ cond a (cond b (cond f 0 3) 2) 1 → keeps c m (answer k 0 0 0) ≡ tests a b f
      go true true true e = absurd (nz e)
      go true true false e = ap (λ j. keeps c m (answer j 0 0 0)) e
      go true false f e = ap (λ j. keeps c m (answer j 0 0 0)) e
      go false b f e = ap (λ j. keeps c m (answer j 0 0 0)) e
