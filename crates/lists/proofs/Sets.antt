-- Laws of lists as finite sets: what counting gives, lists end to end, a list turned round, each member once. Assumes nothing.
use mathlib.Core.Path.{◌≡◌, refl, sym, ◌∙◌, ap, subst}
use mathlib.Core.Bool.{Bool, true, false, cond, ◌||◌, true≢false}
use mathlib.Core.Logic.{◌⊎◌, inl, inr, ⊎_elim, ⊎_map}
use mathlib.Core.List.Memᴰ
use mathlib.Core.List.Memᴰ.{append_cases}
use mathlib.Core.List.Memᴰ.{append_left}
use mathlib.Core.List.Memᴰ.{append_right}
use mathlib.Core.List.Memᴰ.{cases_cons as split}
use mathlib.Core.List.Memᴰ.{cast}
use mathlib.Core.List.Memᴰ.{eq_of_singleton}
use mathlib.Core.List.Memᴰ.{head as here}
use mathlib.Core.List.Memᴰ.{not-nil}
use mathlib.Core.List.Memᴰ.{tail as there}
use mathlib.Core.List.{List, [], ◌∷◌, ◌++◌, map}
use Prim.Native.Nat.{suc, ◌+◌, ◌≤◌, ◌<◌}
use native.Mathlib.Omega.{arith}
use lib.ListN.{length, length-append}
use Rattle.lists.specs.Lists.{◌∈◌, NoDup, nil, more, is_among, each_once}

module _ {A : Type 0} where
  -- l without one place of x
  abbrev pub Cut : A → List A → Type 0
  Cut x l = (r : List A) × (length l ≡ suc (length r)) × ((a : A) → a ∈ l → (a ≡ x) ⊎ (a ∈ r)) × ((a : A) → a ∈ r → a ∈ l)

  pub cut : {x : A} {l : List A} → x ∈ l → Cut x l
  cut (here {xs = r} e) = (r, refl, λ a m. ⊎_map (λ p. p ∙ sym e) (λ i. i) (split m), λ a m. there m)
  cut {x} (there {x = y} {xs = l} m) = add (cut m)
    where
      add : Cut x l → Cut x (y ∷ l)
      add c = (
        y ∷ c.0,
        ap suc c.1,
        λ a i. ⊎_elim (λ p. inr (here p)) (λ j. ⊎_map (λ p. p) there (c.2 a j)) (split i),
        λ a i. ⊎_elim here (λ j. there (c.3 a j)) (split i),
      )

  -- what a list holds beyond a part of it
  abbrev pub Rest : List A → List A → Type 0
  Rest xs ys = (r : List A) × (length ys ≡ length xs + length r) × ((a : A) → a ∈ ys → (a ∈ xs) ⊎ (a ∈ r)) × ((a : A) → a ∈ r → a ∈ ys)

  pub rest : {xs : List A} (ys : List A) → NoDup xs → ((a : A) → a ∈ xs → a ∈ ys) → Rest xs ys
  rest ys nil f = (ys, omega arith, λ a m. inr m, λ a m. m)
  rest ys (more {a = x} {l = xs} n d) f = add (cut (f x (here refl))) (λ zs g. rest zs d g)
    where
      add : Cut x ys → ((zs : List A) → ((a : A) → a ∈ xs → a ∈ zs) → Rest xs zs) → Rest (x ∷ xs) ys
      add c ih = let r = ih c.0 (λ a m. ⊎_elim (λ p. absurd (n (cast (sym p) m))) (λ j. j) (c.2 a (f a (there m)))) in (
        r.0,
        omega (arith, c.1, r.1),
        λ a m. ⊎_elim (λ p. inl (here p)) (λ j. ⊎_map there (λ i. i) (r.2 a j)) (c.2 a m),
        λ a m. c.3 a (r.3 a m),
      )

  pub pigeonhole : {xs : List A} (ys : List A) → NoDup xs → ((a : A) → a ∈ xs → a ∈ ys) → length xs ≤ length ys
  pigeonhole ys d f = omega (arith, (rest ys d f).1)

  pub nodup_head : {a : A} {l : List A} → NoDup (a ∷ l) → a ∈ l → ⊥
  nodup_head (more n d) = n

  pub nodup_tail : {a : A} {l : List A} → NoDup (a ∷ l) → NoDup l
  nodup_tail (more n d) = d

  -- the first put last
  pub rotate : (a : A) (l : List A) → NoDup l → (a ∈ l → ⊥) → NoDup (l ++ (a ∷ []))
  rotate a [] d n = more (λ m. not-nil m) nil
  rotate a (x ∷ l) d n = more (λ m. ⊎_elim (nodup_head d) (λ i. n (here (sym (eq_of_singleton i)))) (append_cases l m)) (rotate a l (nodup_tail d) (λ m. n (there m)))

  -- two lists end to end
  pub nodup_left : (s t : List A) → NoDup (s ++ t) → NoDup s
  nodup_left [] t d = nil
  nodup_left (x ∷ s) t d = more (λ m. nodup_head d (append_left _ m)) (nodup_left s t (nodup_tail d))

  pub nodup_right : (s : List A) {t : List A} → NoDup (s ++ t) → NoDup t
  nodup_right [] d = d
  nodup_right (x ∷ s) d = nodup_right s (nodup_tail d)

  pub disjoint : (s : List A) {t : List A} → NoDup (s ++ t) → {a : A} → a ∈ s → a ∈ t → ⊥
  disjoint [] d m i = not-nil m
  disjoint (x ∷ s) d m i = ⊎_elim (λ e. nodup_head d (append_right s (cast (sym e) i))) (λ j. disjoint s (nodup_tail d) j i) (split m)

  pub nodup_append : (s : List A) {t : List A} → NoDup s → NoDup t → ((a : A) → a ∈ s → a ∈ t → ⊥) → NoDup (s ++ t)
  nodup_append [] d e n = e
  nodup_append (x ∷ s) d e n = more (λ m. ⊎_elim (nodup_head d) (n x (here refl)) (append_cases s m)) (nodup_append s (nodup_tail d) e (λ a m. n a (there m)))

  -- the last first
  unfoldable pub turned : List A → List A
  turned [] = []
  turned (x ∷ l) = turned l ++ (x ∷ [])

  pub turned_snoc : (l : List A) (a : A) → turned (l ++ (a ∷ [])) ≡ a ∷ turned l
  unfolding turned
  turned_snoc [] a = refl
  turned_snoc (x ∷ l) a = ap (λ r. r ++ (x ∷ [])) (turned_snoc l a)

  pub length-turned : (l : List A) → length (turned l) ≡ length l
  unfolding turned
  length-turned [] = refl
  length-turned (x ∷ l) = length-append (turned l) (x ∷ []) ∙ omega (arith, length-turned l)

  pub to_turned : {a : A} {l : List A} → a ∈ l → a ∈ turned l
  unfolding turned
  to_turned (here {xs = l} e) = append_right (turned l) (here e)
  to_turned (there m) = append_left _ (to_turned m)

  pub of_turned : {a : A} (l : List A) → a ∈ turned l → a ∈ l
  unfolding turned
  of_turned [] m = m
  of_turned (x ∷ l) m = ⊎_elim (λ i. there (of_turned l i)) (λ i. here (eq_of_singleton i)) (append_cases (turned l) m)

  pub some : (l : List A) → 0 < length l → (a : A) × (a ∈ l)
  some [] n = absurd (omega arith)
  some (x ∷ l) n = (x, here refl)

  -- a member with a property, or none
  unfoldable pub any? : {P : A → Type 0} → ((a : A) → Dec (P a)) → (l : List A) → ((a : A) × (a ∈ l) × P a) ⊎ ((a : A) → a ∈ l → P a → ⊥)
  any? d [] = inr (λ a m p. not-nil m)
  any? {P} d (x ∷ l) = go (d x) (any? d l)
    where
      go : Dec (P x) → ((a : A) × (a ∈ l) × P a) ⊎ ((a : A) → a ∈ l → P a → ⊥) → ((a : A) × (a ∈ x ∷ l) × P a) ⊎ ((a : A) → a ∈ x ∷ l → P a → ⊥)
      go (yes p) s = inl (x, here refl, p)
      go (no n) (inl t) = inl (t.0, there t.1, t.2)
      go (no n) (inr f) = inr (λ a m p. ⊎_elim (λ e. n (subst P e p)) (λ i. f a i p) (split m))

  -- whether a is a member of l
  unfoldable pub mem? : Discrete A → (a : A) (l : List A) → Dec (a ∈ l)
  mem? d a l = ⊎_elim (λ t. yes (cast t.2 t.1)) (λ f. no (λ m. f a m refl)) (any? (d a) l)

  -- a test of equality
  pub record Tells (same : A → A → Bool) : Type 0 where
    pub equal : (a b : A) → same a b ≡ true → a ≡ b
    pub itself : (a : A) → same a a ≡ true

  module _ {same : A → A → Bool} (tells : Tells same) where
    among : (a : A) (l : List A) → is_among same a l ≡ true → a ∈ l
    unfolding is_among
    among a [] e = absurd (true≢false (sym e))
    among a (x ∷ l) e = go (same a x) refl e (among a l)
      where
        go : (b : Bool) → same a x ≡ b → (b || is_among same a l) ≡ true → (is_among same a l ≡ true → a ∈ l) → a ∈ x ∷ l
        go true h e' below = here (tells.equal a x h)
        go false h e' below = there (below e')

    not_among : (a : A) (l : List A) → is_among same a l ≡ false → a ∈ l → ⊥
    unfolding is_among
    not_among a [] e m = not-nil m
    not_among a (x ∷ l) e m = go (same a x) refl e (not_among a l) (split m)
      where
        go : (b : Bool) → same a x ≡ b → (b || is_among same a l) ≡ false → (is_among same a l ≡ false → a ∈ l → ⊥) → (a ≡ x) ⊎ (a ∈ l) → ⊥
        go true h e' not_in i = true≢false e'
        go false h e' not_in (inl p) = true≢false (sym (ap (same a) (sym p) ∙ tells.itself a) ∙ h)
        go false h e' not_in (inr i) = not_in e' i

    Once : List A → List A → Type 0
    Once l r = NoDup r × ((a : A) → a ∈ l → a ∈ r) × ((a : A) → a ∈ r → a ∈ l)

    once : (l : List A) → Once l (each_once same l)
    unfolding Once each_once
    once [] = (nil, λ a m. m, λ a m. m)
    once (x ∷ l) = go (is_among same x (each_once same l)) refl (once l)
      where
        go : (b : Bool) → is_among same x (each_once same l) ≡ b → Once l (each_once same l) → Once (x ∷ l) (cond b (each_once same l) (x ∷ each_once same l))
        go true e o = (o.0, λ a i. ⊎_elim (λ p. cast p (among x (each_once same l) e)) (o.1 a) (split i), λ a i. there (o.2 a i))
        go false e o = (
          more (not_among x (each_once same l) e) o.0,
          λ a i. ⊎_elim here (λ j. there (o.1 a j)) (split i),
          λ a i. ⊎_elim here (λ j. there (o.2 a j)) (split i),
        )

    pub each_once_nodup : (l : List A) → NoDup (each_once same l)
    unfolding Once
    each_once_nodup l = (once l).0

    pub to_each_once : {a : A} (l : List A) → a ∈ l → a ∈ each_once same l
    unfolding Once
    to_each_once {a} l m = (once l).1 a m

    pub of_each_once : {a : A} (l : List A) → a ∈ each_once same l → a ∈ l
    unfolding Once
    of_each_once {a} l m = (once l).2 a m

  -- the members with a property
  abbrev pub Sieve : (A → Type 0) → List A → Type 0
  Sieve P l = (r : List A) × ((a : A) → a ∈ r → (a ∈ l) × P a) × ((a : A) → a ∈ l → P a → a ∈ r)

  pub sieve : {P : A → Type 0} → ((a : A) → Dec (P a)) → (l : List A) → Sieve P l
  sieve p [] = ([], λ a m. absurd (not-nil m), λ a m q. m)
  sieve {P} p (x ∷ l) = go (p x) (sieve p l)
    where
      go : Dec (P x) → Sieve P l → Sieve P (x ∷ l)
      go (yes q) t = (x ∷ t.0, λ a m. ⊎_elim (λ e. (here e, subst P (sym e) q)) (λ i. (there (t.1 a i).0, (t.1 a i).1)) (split m), λ a m k. ⊎_elim here (λ i. there (t.2 a i k)) (split m))
      go (no n) t = (t.0, λ a m. (there (t.1 a m).0, (t.1 a m).1), λ a m k. ⊎_elim (λ e. absurd (n (subst P e k))) (λ i. t.2 a i k) (split m))

module _ {A B : Type 0} (f : A → B) where
  pub to_map : {a : A} {l : List A} → a ∈ l → f a ∈ map f l
  to_map m = Memᴰ.map f m

  pub of_map : {b : B} (l : List A) → b ∈ map f l → (a : A) × (a ∈ l) × (f a ≡ b)
  of_map l m = Memᴰ.of_map f l m

  -- an injective image has no duplicates
  pub map_nodup : {l : List A} → ((a b : A) → a ∈ l → b ∈ l → f a ≡ f b → a ≡ b) → NoDup l → NoDup (map f l)
  map_nodup i nil = nil
  map_nodup i (more {a = x} {l = l} n d) = more (λ m. let t = of_map l m in n (cast (i x t.0 (here refl) (there t.1) (sym t.2)) t.1)) (map_nodup (λ a b m k. i a b (there m) (there k)) d)

  pub map-append : (s t : List A) → map f (s ++ t) ≡ map f s ++ map f t
  map-append [] t = refl
  map-append (x ∷ s) t = ap (λ l. f x ∷ l) (map-append s t)
