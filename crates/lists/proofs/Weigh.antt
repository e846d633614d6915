-- Lists weighed: a weight for each member, summed. How often a number stands in a list is an instance. Assumes nothing.
use mathlib.Core.Path.{◌≡◌, refl, sym, ap, subst}
use mathlib.Core.Logic.{◌≢◌}
use mathlib.Core.Bool.{Bool, true, false, cond}
use mathlib.Core.List.Memᴰ.{head as here}
use mathlib.Core.List.Memᴰ.{tail as there}
use mathlib.Core.List.{List, [], ◌∷◌, ◌++◌, map}
use Prim.Native.Nat.{ℕ, zero, suc, ◌+◌, ◌≤◌, ◌<◌}
use native.Mathlib.Omega.{arith}
use native.Mathlib.Decide.{dec_le}
use borrow.Author.Tests.{eqb-true, eq-eqb, ne_eqb}
use lib.Dec.{eqb}
use lib.ListN.{length, get_or, set}
use Rattle.lists.specs.Lists.{◌∈◌, NoDup, nil, more}

module _ {A : Type 0} (w : A → ℕ) where
  unfoldable pub weigh : List A → ℕ
  weigh [] = 0
  weigh (x ∷ l) = w x + weigh l

  pub weigh-append : (s t : List A) → weigh (s ++ t) ≡ weigh s + weigh t
  unfolding weigh
  weigh-append [] t = omega arith
  weigh-append (x ∷ s) t = omega (arith, weigh-append s t)

  -- a member replaced by another
  pub weigh-set : (l : List A) (i : ℕ) (a d : A) → i < length l → weigh (set l i a) + w (get_or l i d) ≡ weigh l + w a
  unfolding weigh
  weigh-set [] i a d h = absurd (omega arith)
  weigh-set (x ∷ l) zero a d h = omega arith
  weigh-set (x ∷ l) (suc i) a d h = omega (arith, weigh-set l i a d (omega arith))

  pub weigh_mem : {x : A} {l : List A} → x ∈ l → w x ≤ weigh l
  unfolding weigh
  weigh_mem {x} (here {x = y} {xs = l} e) = let f : w x ≡ w y = ap w e in omega arith
  weigh_mem (there m) = omega (arith, weigh_mem m)

  pub weigh_some : (l : List A) → 1 ≤ weigh l → (x : A) × (x ∈ l) × (1 ≤ w x)
  unfolding weigh
  weigh_some [] h = absurd (omega arith)
  weigh_some (x ∷ l) h = go (dec_le 1 (w x)) (weigh_some l)
    where
      go : Dec (1 ≤ w x) → (1 ≤ weigh l → (y : A) × (y ∈ l) × (1 ≤ w y)) → (y : A) × (y ∈ x ∷ l) × (1 ≤ w y)
      go (yes p) f = (x, here refl, p)
      go (no p) f = let t = f (omega arith) in (t.0, there t.1, t.2)

pub weigh-map : {A B : Type 0} (f : A → B) (w : B → ℕ) (l : List A) → weigh w (map f l) ≡ weigh (λ a. w (f a)) l
unfolding weigh
weigh-map f w [] = refl
weigh-map f w (x ∷ l) = ap (λ m. w (f x) + m) (weigh-map f w l)

-- 1 for k and 0 for any other number
abbrev pub is_one : ℕ → ℕ → ℕ
is_one k x = cond (eqb x k) 1 0

pub is_one_same : (k x : ℕ) → x ≡ k → is_one k x ≡ 1
is_one_same k x e = simp (eq-eqb x k e)

pub is_one-other : (k x : ℕ) → x ≢ k → is_one k x ≡ 0
is_one-other k x e = simp (ne_eqb x k e)

pub of_is_one : (k x : ℕ) → 1 ≤ is_one k x → x ≡ k
of_is_one k x h = go (eqb x k) refl h
  where
    go : (b : Bool) → eqb x k ≡ b → 1 ≤ cond b 1 0 → x ≡ k
    go true e l = eqb-true x k e
    go false e l = absurd (omega arith)

pub is_one_small : (k x : ℕ) → is_one k x ≤ 1
is_one_small k x = go (eqb x k)
  where
    go : (b : Bool) → cond b 1 0 ≤ 1
    go true = omega arith
    go false = omega arith

-- how often k stands in the list
abbrev pub times : ℕ → List ℕ → ℕ
times k l = weigh (is_one k) l

pub to_times : (k : ℕ) {l : List ℕ} → k ∈ l → 1 ≤ times k l
to_times k m = omega (arith, weigh_mem (is_one k) m, is_one_same k k refl)

pub of_times : (k : ℕ) (l : List ℕ) → 1 ≤ times k l → k ∈ l
of_times k l h = let t = weigh_some (is_one k) l h in subst (λ x. x ∈ l) (of_is_one k t.0 t.2) t.1

pub times_none : (k : ℕ) (l : List ℕ) → (k ∈ l → ⊥) → times k l ≡ 0
times_none k l n = go (dec_le 1 (times k l))
  where
    go : Dec (1 ≤ times k l) → times k l ≡ 0
    go (yes h) = absurd (n (of_times k l h))
    go (no h) = omega arith

-- no member twice: each stands there at most once
pub nodup_times : {l : List ℕ} → NoDup l → (k : ℕ) → times k l ≤ 1
unfolding weigh
nodup_times nil k = omega arith
nodup_times (more {a = x} {l = l} n d) k = go (dec_le 1 (is_one k x)) (nodup_times d k)
  where
    go : Dec (1 ≤ is_one k x) → times k l ≤ 1 → is_one k x + times k l ≤ 1
    go (yes h) r = let e = of_is_one k x h in omega (arith, times_none k l (λ m. n (subst (λ y. y ∈ l) (sym e) m)), is_one_small k x)
    go (no h) r = omega arith

pub times_nodup : (l : List ℕ) → ((k : ℕ) → times k l ≤ 1) → NoDup l
unfolding weigh
times_nodup [] f = nil
times_nodup (x ∷ l) f = more {l = l} (λ m. omega (arith, f x, to_times x m, is_one_same x x refl)) (times_nodup l (λ k. omega (arith, f k)))
