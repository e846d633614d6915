-- Lists as finite sets: a member, no member twice, each member once. Assumes nothing.
use Rattle.std.specs.Prelude.{Bool, false, cond, ◌||◌}
use mathlib.Core.List.{List, [], ◌∷◌, Memᴰ}

infix 45 ◌∈◌
-- a is a member of l
abbrev pub ◌∈◌ : {A : Type 0} → A → List A → Type 0
◌∈◌ a l = Memᴰ a l

-- no member of the list stands in it twice
pub data NoDup {A : Type 0} : List A → Type 0 where
  nil : NoDup []
  more : {a : A} {l : List A} → (a ∈ l → ⊥) → NoDup l → NoDup (a ∷ l)

-- by a test of equality
module _ {A : Type 0} (same : A → A → Bool) where
  -- whether a is a member of l
  unfoldable pub is_among : A → List A → Bool
  is_among a [] = false
  is_among a (x ∷ l) = same a x || is_among a l

  -- each member once
  unfoldable pub each_once : List A → List A
  each_once [] = []
  each_once (x ∷ l) = cond (is_among x (each_once l)) (each_once l) (x ∷ each_once l)
