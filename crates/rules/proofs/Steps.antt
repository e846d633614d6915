-- The step, case by case: all that the theorems know of it. Assumes nothing.
use Prim.Native.Nat.{ℕ, ◌≤◌, ◌<◌}
use mathlib.Core.Path.{◌≡◌, refl, sym}
use mathlib.Core.Logic.{◌⊎◌, inl, inr, ◌≢◌}
use mathlib.Core.Bool.{Bool, true, false, cond, ◌||◌}
use mathlib.Core.List.{List, [], ◌∷◌}
use lib.Dec.{eqb, leb}
use lib.ListN.{length}
use borrow.Author.Tests.{eqb-true, eqb-false, leb-true, leb-false}
use Rattle.rules.specs.Store.{Table, meant, Entry, cell_at, Store, Numbers}
use Rattle.rules.specs.Step.{is_marked, landed, set_aside, moved, Stepped, done, step_at, step_from, step}

-- what holds of each kind, with what its tests say, holds of a step with e in front
module _ (P : Stepped → Type 0) (D : ℕ) (t : Table) (i : ℕ) (e : Entry) (q : List Entry) (s : Store)
    (one : (cell_at s.tables t i).key ≡ 0 → P (done 1 (landed t i e q s)))
    (two : (cell_at s.tables t i).key ≢ 0 → (is_marked e.key t s.marked ≡ true) ⊎ (D ≤ length s.marked) → P (done 2 (set_aside t e q s)))
    (three : (cell_at s.tables t i).key ≢ 0 → is_marked e.key t s.marked ≡ false → length s.marked < D → P (done 3 (moved t i e q s))) where
  by_tests : (free marked full : Bool) → free ≡ eqb (cell_at s.tables t i).key 0 → marked ≡ is_marked e.key t s.marked → full ≡ leb D (length s.marked)
      → P (cond free (done 1 (landed t i e q s)) (cond (marked || full) (done 2 (set_aside t e q s)) (done 3 (moved t i e q s))))
  by_tests true marked full f m l = one (eqb-true _ _ (sym f))
  by_tests false true full f m l = two (eqb-false _ _ (sym f)) (inl (sym m))
  by_tests false false true f m l = two (eqb-false _ _ (sym f)) (inr (leb-true _ _ (sym l)))
  by_tests false false false f m l = three (eqb-false _ _ (sym f)) (sym m) (leb-false _ _ (sym l))

  pub by_kind : P (step_at D t i e q s)
  unfolding step_at
  by_kind = by_tests (eqb (cell_at s.tables t i).key 0) (is_marked e.key t s.marked) (leb D (length s.marked)) refl refl refl

-- a property of stores that an empty queue and each kind of step keep is kept by a step
pub by_front : (P : Stepped → Type 0) (n : Numbers) (s : Store)
    → (s.waiting ≡ [] → P (done 0 s))
    → ((e : Entry) (q : List Entry) → s.waiting ≡ e ∷ q → P (step_at n.D (meant e.side) (n.home (meant e.side) e.key) e q s))
    → P (step n s)
unfolding step step_from
by_front P n s none some = go s.waiting refl
  where
    go : (w : List Entry) → s.waiting ≡ w → P (step_from n s w)
    go [] w = none w
    go (e ∷ q) w = some e q w
