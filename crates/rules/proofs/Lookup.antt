-- The search answers the one place where a key lies, so lookup answers what a sound store holds. Assumes nothing.
use Prim.Native.Nat.{ℕ, suc, ◌+◌}
use mathlib.Core.Path.{◌≡◌, refl, sym, ◌∙◌, ap, subst}
use mathlib.Core.Logic.{◌⊎◌, inl, inr, ◌≢◌, ⊎_elim}
use mathlib.Core.Bool.{Bool, true, false, cond}
use mathlib.Core.List.Memᴰ.{cases_cons as split}
use mathlib.Core.List.Memᴰ.{not-nil}
use mathlib.Core.List.{List, [], ◌∷◌}
use mathlib.Core.Option.{Option, none, some}
use native.Mathlib.Omega.{arith}
use borrow.Author.Tests.{eqb-true, eqb-false}
use lib.Dec.{eqb}
use Rattle.lists.specs.Lists.{◌∈◌}
use Rattle.numbers.proofs.Ranges.{good_nonzero}
use Rattle.rules.specs.Store.{Table, table_0, table_1, Entry, cell_at, Store, Numbers}
use Rattle.rules.specs.Search.{Place, in_table, waiting_at, nowhere, search_queue, search, entry_at, key_at, value_at, lookup}
use Rattle.rules.specs.Sound.{present, IsGood, SoundContents}
use Rattle.rules.specs.Contents.{contents, ContentsAreWhatIsFound}
use Rattle.rules.proofs.Places.{entry-within, entry_in, of_present, one_place, in_present, in_contents, of_contents}

-- what a search in the queue from place j on answers
abbrev Nobody : ℕ → List Entry → Type 0
Nobody x q = (e : Entry) → e ∈ q → e.key ≢ x

QueueSearch : ℕ → ℕ → List Entry → Place → Type 0
QueueSearch j x q p = ((p ≡ nowhere) × Nobody x q) ⊎ ((i : ℕ) × (p ≡ waiting_at (j + i)) × ((entry_at q i).key ≡ x))

search_queue_lem : (j x : ℕ) (q : List Entry) → QueueSearch j x q (search_queue j x q)
unfolding search_queue QueueSearch
search_queue_lem j x [] = inl (refl, λ e m. absurd (not-nil m))
search_queue_lem j x (e ∷ q) = go (eqb e.key x) refl (search_queue_lem (suc j) x q)
  where
    go : (b : Bool) → eqb e.key x ≡ b → QueueSearch (suc j) x q (search_queue (suc j) x q) → QueueSearch j x (e ∷ q) (cond b (waiting_at j) (search_queue (suc j) x q))
    go true t r = inr (0, ap waiting_at (omega arith), eqb-true e.key x t)
    go false t (inl (w, f)) = inl (w, λ d m. ⊎_elim (λ p z. eqb-false e.key x t (ap (λ (y : Entry). y.key) (sym p) ∙ z)) (f d) (split m))
    go false t (inr (i, w, f)) = inr (suc i, w ∙ ap waiting_at (omega arith), f)

module _ (n : Numbers) (x : ℕ) (s : Store) where
  -- the home of x in a table does not have it
  abbrev Misses : Table → Type 0
  Misses t = (cell_at s.tables t (n.home t x)).key ≢ x

  Searched : Place → Type 0
  Searched p = (key_at p s ≡ x) ⊎ ((p ≡ nowhere) × Misses table_0 × Misses table_1 × Nobody x s.waiting)

  searched : Searched (search n x s)
  unfolding search Searched QueueSearch
  searched = first (eqb (cell_at s.tables table_0 (n.home table_0 x)).key x) refl
    where
      third : Misses table_0 → Misses table_1 → Searched (search_queue 0 x s.waiting)
      third f g = ⊎_elim (λ t. inr (t.0, f, g, t.1)) (λ t. inl (ap (λ p. key_at p s) (t.1 ∙ ap waiting_at (omega arith)) ∙ t.2)) (search_queue_lem 0 x s.waiting)

      second : (b : Bool) → eqb (cell_at s.tables table_1 (n.home table_1 x)).key x ≡ b → Misses table_0
          → Searched (cond b (in_table table_1 (n.home table_1 x)) (search_queue 0 x s.waiting))
      second true e f = inl (eqb-true _ x e)
      second false e f = third f (eqb-false _ x e)

      first : (b : Bool) → eqb (cell_at s.tables table_0 (n.home table_0 x)).key x ≡ b
          → Searched (cond b (in_table table_0 (n.home table_0 x)) (cond (eqb (cell_at s.tables table_1 (n.home table_1 x)).key x) (in_table table_1 (n.home table_1 x)) (search_queue 0 x s.waiting)))
      first true e = inl (eqb-true _ x e)
      first false e = second (eqb (cell_at s.tables table_1 (n.home table_1 x)).key x) refl (eqb-false _ x e)

module _ (n : Numbers) (s : Store) (sound : SoundContents n s) (x : ℕ) (good : IsGood x) where
  missed : (t : Table) (i : ℕ) → Misses n x s t → (cell_at s.tables t i).key ≢ x
  missed t i f e = f (ap (λ j. (cell_at s.tables t j).key) (ap (n.home t) (sym e) ∙ sound.at_home t i (λ z. good_nonzero x good (sym e ∙ z))) ∙ e)

  -- where a key lies, there the search finds it
  pub search_finds : (p : Place) → key_at p s ≡ x → search n x s ≡ p
  unfolding Searched
  search_finds p e = ⊎_elim (λ k. one_place n s sound (search n x s) p (λ z. good_nonzero x good (sym k ∙ z)) (k ∙ sym e)) (λ t. absurd (nobody p e t)) (searched n x s)
    where
      nobody : (p : Place) → key_at p s ≡ x → (search n x s ≡ nowhere) × Misses n x s table_0 × Misses n x s table_1 × Nobody x s.waiting → ⊥
      nobody (in_table table_0 i) e t = missed table_0 i t.1 e
      nobody (in_table table_1 i) e t = missed table_1 i t.2 e
      nobody (waiting_at j) e t = t.3 (entry_at s.waiting j) (entry_in s.waiting j (entry-within s.waiting j (λ z. good_nonzero x good (sym e ∙ z)))) e
      nobody nowhere e t = good_nonzero x good (sym e)

  -- what is held is looked up, and a key that is not present is not
  pub lookup-held : (v : ℕ) → record { key = x; value = v } ∈ contents s → lookup n x s ≡ some v
  unfolding lookup
  lookup-held v m = let t = of_contents s (record { key = x; value = v }) m in ap (λ p. value_at p s) (search_finds t.0 t.1) ∙ t.2

  pub lookup_absent : (x ∈ present s → ⊥) → lookup n x s ≡ none
  unfolding lookup Searched
  lookup_absent f = ⊎_elim (λ k. absurd (f (subst (λ y. y ∈ present s) k (in_present s (search n x s) (λ z. good_nonzero x good (sym k ∙ z)))))) (λ t. ap (λ p. value_at p s) t.0) (searched n x s)

  -- a key is held with a value, which lookup answers, or it lies nowhere
  unfoldable pub Looked : Option ℕ → Type 0
  Looked o = ((v : ℕ) × (o ≡ some v) × (key_at (search n x s) s ≡ x) × (record { key = x; value = v } ∈ contents s)) ⊎ ((o ≡ none) × (x ∈ present s → ⊥))

  pub looked : Looked (lookup n x s)
  unfolding lookup Searched Looked
  looked = ⊎_elim found (λ t. inr (ap (λ p. value_at p s) t.0, absent t.0)) (searched n x s)
    where
      absent : search n x s ≡ nowhere → x ∈ present s → ⊥
      absent w m = let t = of_present n s sound x m in
          good_nonzero x good (sym t.1 ∙ ap (λ p. key_at p s) (sym (search_finds t.0 t.1) ∙ w))

      value : (p : Place) → key_at p s ≡ x → (v : ℕ) × (value_at p s ≡ some v)
      value (in_table t i) e = ((cell_at s.tables t i).value, refl)
      value (waiting_at j) e = ((entry_at s.waiting j).value, refl)
      value nowhere e = absurd (good_nonzero x good (sym e))

      found : key_at (search n x s) s ≡ x → Looked (value_at (search n x s) s)
      found k = let u = value (search n x s) k in
          inl (u.0, u.1, k, subst (λ y. record { key = y; value = u.0 } ∈ contents s) k (in_contents s (search n x s) u.0 (λ z. good_nonzero x good (sym k ∙ z)) u.1))

  -- what is looked up is held
  pub held_found : (v : ℕ) → lookup n x s ≡ some v → record { key = x; value = v } ∈ contents s
  unfolding Looked
  held_found v e = ⊎_elim held (λ t. absurd (never t.0)) looked
    where
      held : (u : ℕ) × (lookup n x s ≡ some u) × (key_at (search n x s) s ≡ x) × (record { key = x; value = u } ∈ contents s)
          → record { key = x; value = v } ∈ contents s
      held t = let same : t.0 ≡ v = cc t.1 in subst (λ w. record { key = x; value = w } ∈ contents s) same t.3

      never : lookup n x s ≡ none → ⊥
      never f = let z : ◌≡◌ {A = ℕ} 0 1 = cc in omega arith

pub contents_are_what_is_found : ContentsAreWhatIsFound
contents_are_what_is_found n s sound k v good = (held_found n s sound k good v, lookup-held n s sound k good v)
