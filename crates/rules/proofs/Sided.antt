-- Numbers, and cells by table and place, told apart: decided, and by a test. Assumes nothing.
use mathlib.Core.Path.{◌≡◌, refl, sym, ap, subst}
use mathlib.Core.Bool.{true, and-eq-true_iff, true≢false}
use native.Mathlib.Decide.{ℕ_discrete}
use borrow.Author.Tests.{eqb-true, eq-eqb}
use lib.Dec.{eqb}
use Rattle.lists.proofs.Sets.{Tells}
use Rattle.rules.specs.Store.{Table, table_0, table_1, same_table}
use Rattle.rules.specs.Groups.{Sided, same_sided}

-- the two tables told apart
abbrev IsTable0 : Table → Type 0
IsTable0 table_0 = Unit {0}
IsTable0 table_1 = ⊥

table? : Discrete Table
table? table_0 table_0 = yes refl
table? table_0 table_1 = no (λ e. subst IsTable0 e tt)
table? table_1 table_0 = no (λ e. subst IsTable0 (sym e) tt)
table? table_1 table_1 = yes refl

pub sided_path : {p q : Sided} → p.0 ≡ q.0 → p.1 ≡ q.1 → p ≡ q
sided_path e f = λ i. (e i, f i)

pub sided? : Discrete Sided
sided? p q = go (ℕ_discrete p.0 q.0) (table? p.1 q.1)
  where
    go : Dec (p.0 ≡ q.0) → Dec (p.1 ≡ q.1) → Dec (p ≡ q)
    go (no n) d = no (λ e. n (ap (λ x. x.0) e))
    go (yes e) (no n) = no (λ f. n (ap (λ x. x.1) f))
    go (yes e) (yes f) = yes (sided_path e f)

pub same_table_lem : (t u : Table) → same_table t u ≡ true → t ≡ u
same_table_lem table_0 table_0 e = refl
same_table_lem table_0 table_1 e = absurd (true≢false (sym e))
same_table_lem table_1 table_0 e = absurd (true≢false (sym e))
same_table_lem table_1 table_1 e = refl

own_table : (t : Table) → same_table t t ≡ true
own_table table_0 = refl
own_table table_1 = refl

pub sided_tells : Tells same_sided
sided_tells = record {
  equal = λ p q e. let both = (and-eq-true_iff _ _).0 e in sided_path (eqb-true _ _ both.0) (same_table_lem p.1 q.1 both.1);
  itself = λ p. rw (eq-eqb p.0 p.0 refl) (own_table p.1);
}

pub eqb_tells : Tells eqb
eqb_tells = record { equal = eqb-true; itself = λ n. eq-eqb n n refl }
