-- What accepted numbers and accepted lengths say. Assumes nothing.
use Prim.Native.Nat.{ℕ, ◌*◌, ◌≤◌}
use mathlib.Core.Path.{◌≡◌, refl}
use mathlib.Core.Bool.{Bool, true, false, cond, ◌&&◌, and-eq-true_iff}
use native.Mathlib.Omega.{arith}
use lib.Dec.{eqb, leb}
use borrow.Author.Tests.{leb-true, eqb-true}
use Rattle.numbers.specs.Ranges.{cells_in_range, queue_room_in_range, detector_room_in_range, step_limit_in_range, multiplier_in_range, addend_in_range}
use Rattle.numbers.specs.declared.Setup.{Setup}
use Rattle.faults.specs.Faults.{numbers_in_range, lengths_fit}

pub both : (a b : Bool) → (a && b) ≡ true → (a ≡ true) × (b ≡ true)
both a b e = (and-eq-true_iff a b).0 e

-- the record's numbers, each in its range
pub record Ranges (setup : Setup) : Type 0 where
  pub some : 1 ≤ setup.functions.r
  pub small : setup.functions.r ≤ 32768
  pub queue_small : setup.rooms.queue_room ≤ 64
  pub detector_small : setup.rooms.detector_room ≤ 128
  pub limit_some : 1 ≤ setup.rooms.step_limit
  pub limit_small : setup.rooms.step_limit ≤ 64

pub ranges : (setup : Setup) → numbers_in_range setup ≡ true → Ranges setup
unfolding numbers_in_range cells_in_range queue_room_in_range detector_room_in_range step_limit_in_range
ranges setup h =
    let h4 = (both _ (addend_in_range setup.functions.b1) h).0 in
    let h3 = (both _ (multiplier_in_range setup.functions.a1) h4).0 in
    let h2 = (both _ (addend_in_range setup.functions.b0) h3).0 in
    let h1 = (both _ (multiplier_in_range setup.functions.a0) h2).0 in
    let l = both _ (leb 1 setup.rooms.step_limit && leb setup.rooms.step_limit 64) h1 in
    let d = both _ (leb 2 setup.rooms.detector_room && leb setup.rooms.detector_room 128) l.0 in
    let q = both (leb 1 setup.functions.r && leb setup.functions.r 32768) (leb 1 setup.rooms.queue_room && leb setup.rooms.queue_room 64) d.0 in
    record {
      some = leb-true _ _ (both (leb 1 setup.functions.r) (leb setup.functions.r 32768) q.0).0;
      small = leb-true _ _ (both (leb 1 setup.functions.r) (leb setup.functions.r 32768) q.0).1;
      queue_small = leb-true _ _ (both (leb 1 setup.rooms.queue_room) (leb setup.rooms.queue_room 64) q.1).1;
      detector_small = leb-true _ _ (both (leb 2 setup.rooms.detector_room) (leb setup.rooms.detector_room 128) d.1).1;
      limit_some = leb-true _ _ (both (leb 1 setup.rooms.step_limit) (leb setup.rooms.step_limit 64) l.1).0;
      limit_small = leb-true _ _ (both (leb 1 setup.rooms.step_limit) (leb setup.rooms.step_limit 64) l.1).1;
    }

pub record Sizes (setup : Setup) (n0 n1 nq nd : ℕ) : Type 0 where
  pub first : n0 ≡ 2 * setup.functions.r
  pub second : n1 ≡ 2 * setup.functions.r
  pub queue : nq ≡ 3 * setup.rooms.queue_room
  pub detector : nd ≡ 2 * setup.rooms.detector_room

pub sizes : (setup : Setup) (n0 n1 nq nd : ℕ) → lengths_fit setup n0 n1 nq nd ≡ true → Sizes setup n0 n1 nq nd
unfolding lengths_fit
sizes setup n0 n1 nq nd h =
    let d = both _ (eqb nd (2 * setup.rooms.detector_room)) h in
    let q = both _ (eqb nq (3 * setup.rooms.queue_room)) d.0 in
    let t = both (eqb n0 (2 * setup.functions.r)) (eqb n1 (2 * setup.functions.r)) q.0 in
    record { first = eqb-true _ _ t.0; second = eqb-true _ _ t.1; queue = eqb-true _ _ q.1; detector = eqb-true _ _ d.1 }

pub accepted-tests : (a b c : Bool) → ◌≡◌ {A = ℕ} (cond a (cond b (cond c 0 3) 2) 1) 0 → (a ≡ true) × (b ≡ true) × (c ≡ true)
accepted-tests true true true e = (refl, refl, refl)
accepted-tests true true false e = absurd (omega arith)
accepted-tests true false c e = absurd (omega arith)
accepted-tests false b c e = absurd (omega arith)
