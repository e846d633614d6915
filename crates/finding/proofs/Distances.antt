-- Neither of two keys is x: by the product of their distances from x, and what it says of each. Assumes nothing.
use Rattle.std.proofs.Common.{◌≡◌, ℕ, zero, suc, ◌+◌, ◌*◌, ◌%◌, ◌^◌, ◌<◌, Bool, true, false, not, ◌&&◌, eqb}
use Rattle.std.proofs.Common.{◌≢◌, sym, refl, ap, ◌∙◌, true≢false, mul-pos, mul-zero, zero-mul, arith, eq-eqb, ne_eqb, eqb-true}
use mathlib.Core.Bool.{and-eq-true_iff}
use borrow.Author.Tests.{eqb-false, not-true}
use Rattle.finding.specs.Inner.{is_neither}

-- o is the distance of k from x, which wraps
module _ {x k o : ℕ} (word : x < 2 ^ 32) (small : o < 2 ^ 32) (wraps : (o + x) % 2 ^ 32 ≡ k) where
  off_none : k ≡ x → o ≡ 0
  off_none e = omega arith

  off_some : k ≢ x → 0 < o
  off_some ne = go o refl
    where
      go : (n : ℕ) → o ≡ n → 0 < n
      go zero e = absurd (ne (omega arith))
      go (suc n) e = omega arith

pub product_tells : (k0 k1 x o0 o1 : ℕ) → x < 2 ^ 32 → o0 < 2 ^ 32 → o1 < 2 ^ 32 → (o0 + x) % 2 ^ 32 ≡ k0 → (o1 + x) % 2 ^ 32 ≡ k1
    → not (eqb (o0 * o1) 0) ≡ is_neither k0 k1 x
product_tells k0 k1 x o0 o1 word small0 small1 wraps0 wraps1 = go (eqb k0 x) (eqb k1 x) refl refl
  where
    go : (b0 b1 : Bool) → eqb k0 x ≡ b0 → eqb k1 x ≡ b1 → not (eqb (o0 * o1) 0) ≡ not b0 && not b1
    go true b1 e0 e1 = ap not (eq-eqb _ _ (ap (λ n. n * o1) (off_none word small0 wraps0 (eqb-true _ _ e0)) ∙ zero-mul o1))
    go false true e0 e1 = ap not (eq-eqb _ _ (ap (λ n. o0 * n) (off_none word small1 wraps1 (eqb-true _ _ e1)) ∙ mul-zero o0))
    go false false e0 e1 =
        let some : 0 < o0 * o1 = mul-pos (off_some word small0 wraps0 (eqb-false _ _ e0)) (off_some word small1 wraps1 (eqb-false _ _ e1)) in
        ap not (ne_eqb _ _ (λ (e : o0 * o1 ≡ 0). omega arith))

pub neither_is : {k0 k1 x : ℕ} → is_neither k0 k1 x ≡ true → (k0 ≢ x) × (k1 ≢ x)
neither_is {k0} {k1} {x} e =
    let both = (and-eq-true_iff _ _).0 e in
    (eqb-false k0 x (not-true _ both.0), eqb-false k1 x (not-true _ both.1))

pub other_is : {k0 k1 x : ℕ} → is_neither k0 k1 x ≡ false → k0 ≢ x → k1 ≡ x
other_is {k0} {k1} {x} e ne = go (eqb k1 x) refl (ap (λ b. not b && not (eqb k1 x)) (sym (ne_eqb k0 x ne)) ∙ e)
  where
    go : (b : Bool) → eqb k1 x ≡ b → not false && not (eqb k1 x) ≡ false → k1 ≡ x
    go true h e' = eqb-true k1 x h
    go false h e' = absurd (true≢false (ap (λ b. not false && not b) (sym h) ∙ e'))
