-- What the test of a mark says. Assumes nothing.
use Prim.Native.Nat.{ℕ}
use mathlib.Core.Path.{◌≡◌, refl, sym}
use mathlib.Core.Bool.{true, and-eq-true_iff}
use lib.Dec.{eqb}
use borrow.Author.Tests.{eqb-true}
use Rattle.records.specs.Record.{fields, is_mark}

-- records with equal parts are equal
pub same_fields : {a a' b b' k k' v v' : ℕ} → a ≡ a' → b ≡ b' → k ≡ k' → v ≡ v' → fields a b k v ≡ fields a' b' k' v'
same_fields p q r s = rw (p, q, r, s)

-- a mark that passes the test has the letters
pub mark_is : (a b first second key value : ℕ) → is_mark a b (fields first second key value) ≡ true → fields a b key value ≡ fields first second key value
mark_is a b first second key value h =
    let both = (and-eq-true_iff (eqb first a) (eqb second b)).0 h in
    same_fields (sym (eqb-true first a both.0)) (sym (eqb-true second b both.1)) refl refl
