-- Where the present keys lie: each at a place, and at one only. Assumes nothing.
use Prim.Native.Nat.{ℕ, zero, suc, ◌≤◌, ◌<◌}
use mathlib.Core.Path.{◌≡◌, refl, sym, ◌∙◌, ap, subst}
use mathlib.Core.Logic.{◌≢◌, ⊎_elim}
use mathlib.Core.Bool.{Bool, true, false, cond}
use mathlib.Core.List.Memᴰ.{append_cases}
use mathlib.Core.List.Memᴰ.{append_left}
use mathlib.Core.List.Memᴰ.{append_right}
use mathlib.Core.List.Memᴰ.{cases_cons as split}
use mathlib.Core.List.Memᴰ.{cast}
use mathlib.Core.List.Memᴰ.{head as here}
use mathlib.Core.List.Memᴰ.{not-nil}
use mathlib.Core.List.Memᴰ.{tail as there}
use mathlib.Core.List.{List, [], ◌∷◌, map}
use mathlib.Core.Option.{some}
use native.Mathlib.Omega.{arith}
use native.Mathlib.Decide.{dec_le}
use borrow.Author.Tests.{eqb-true, eqb-false}
use lib.Dec.{eqb}
use lib.ListN.{length, get_or, get_or-eq_default}
use Rattle.lists.specs.Lists.{◌∈◌, NoDup}
use Rattle.lists.proofs.Sets.{to_map, of_map, nodup_head, nodup_tail, nodup_right, disjoint}
use Rattle.rules.specs.Store.{Table, table_0, table_1, Cell, free_cell, Entry, table_of, cell_at, Store, Numbers}
use Rattle.rules.specs.Step.{taken}
use Rattle.rules.specs.Search.{Place, in_table, waiting_at, nowhere, no_entry, entry_at, key_at, value_at}
use Rattle.rules.specs.Sound.{occupied, cell_keys, entry_keys, present, SoundContents}
use Rattle.rules.specs.Contents.{contents}
use Rattle.numbers.proofs.Ranges.{good_nonzero}

-- an occupied cell is listed, and what is listed is an occupied cell
pub in_occupied : (cs : List Cell) (i : ℕ) → (get_or cs i free_cell).key ≢ 0 → get_or cs i free_cell ∈ occupied cs
unfolding occupied
in_occupied [] i nz = absurd (nz refl)
in_occupied (c ∷ cs) zero nz = go (eqb c.key 0) refl
  where
    go : (b : Bool) → eqb c.key 0 ≡ b → c ∈ cond b (occupied cs) (c ∷ occupied cs)
    go true e = absurd (nz (eqb-true c.key 0 e))
    go false e = here refl
in_occupied (c ∷ cs) (suc i) nz = go (eqb c.key 0) (in_occupied cs i nz)
  where
    go : (b : Bool) → get_or cs i free_cell ∈ occupied cs → get_or cs i free_cell ∈ cond b (occupied cs) (c ∷ occupied cs)
    go true m = m
    go false m = there m

abbrev Lists : List Cell → Cell → Type 0
Lists cs c = (i : ℕ) × (get_or cs i free_cell ≡ c) × (c.key ≢ 0)

pub of_occupied : (cs : List Cell) (c : Cell) → c ∈ occupied cs → Lists cs c
unfolding occupied
of_occupied [] c m = absurd (not-nil m)
of_occupied (d ∷ cs) c m = go (eqb d.key 0) refl (of_occupied cs c) m
  where
    later : Lists cs c → Lists (d ∷ cs) c
    later (i, e, nz) = (suc i, e, nz)

    go : (b : Bool) → eqb d.key 0 ≡ b → (c ∈ occupied cs → Lists cs c) → c ∈ cond b (occupied cs) (d ∷ occupied cs) → Lists (d ∷ cs) c
    go true e f m = later (f m)
    go false e f m = ⊎_elim (λ p. (0, sym p, λ z. eqb-false d.key 0 e (ap (λ (x : Cell). x.key) (sym p) ∙ z))) (λ i. later (f i)) (split m)

-- an entry that is there, and where it is
pub entry-within : (q : List Entry) (j : ℕ) → (entry_at q j).key ≢ 0 → j < length q
entry-within q j nz = go (dec_le (length q) j)
  where
    go : Dec (length q ≤ j) → j < length q
    go (yes l) = absurd (nz (ap (λ (e : Entry). e.key) (get_or-eq_default q no_entry l)))
    go (no l) = omega arith

pub entry_in : (q : List Entry) (j : ℕ) → j < length q → entry_at q j ∈ q
entry_in [] j l = absurd (omega arith)
entry_in (e ∷ q) zero l = here refl
entry_in (e ∷ q) (suc j) l = there (entry_in q j (omega arith))

pub entry_place : {e : Entry} {q : List Entry} → e ∈ q → (j : ℕ) × (entry_at q j ≡ e) × (j < length q)
entry_place (here p) = (0, sym p, omega arith)
entry_place (there m) = let t = entry_place m in (suc t.0, t.1, omega (arith, t.2))

pub entry_once : (q : List Entry) → NoDup (entry_keys q) → (i j : ℕ) → i < length q → j < length q → (entry_at q i).key ≡ (entry_at q j).key → i ≡ j
entry_once [] d i j a b e = absurd (omega arith)
entry_once (x ∷ q) d zero zero a b e = refl
entry_once (x ∷ q) d zero (suc j) a b e = absurd (nodup_head d (cast e (to_map (λ (y : Entry). y.key) (entry_in q j (omega arith)))))
entry_once (x ∷ q) d (suc i) zero a b e = absurd (nodup_head d (cast (sym e) (to_map (λ (y : Entry). y.key) (entry_in q i (omega arith)))))
entry_once (x ∷ q) d (suc i) (suc j) a b e = ap suc (entry_once q (nodup_tail d) i j (omega arith) (omega arith) e)

module _ (s : Store) where
  abbrev table_keys : Table → List ℕ
  table_keys t = cell_keys (table_of t s.tables)

  abbrev queue_keys : List ℕ
  queue_keys = entry_keys s.waiting

  cell_key_in : (t : Table) (i : ℕ) → (cell_at s.tables t i).key ≢ 0 → (cell_at s.tables t i).key ∈ table_keys t
  cell_key_in t i nz = to_map (λ (c : Cell). c.key) (in_occupied (table_of t s.tables) i nz)

  entry_key_in : (j : ℕ) → (entry_at s.waiting j).key ≢ 0 → (entry_at s.waiting j).key ∈ queue_keys
  entry_key_in j nz = to_map (λ (e : Entry). e.key) (entry_in s.waiting j (entry-within s.waiting j nz))

  -- a key at a place is present
  pub in_present : (p : Place) → key_at p s ≢ 0 → key_at p s ∈ present s
  unfolding present
  in_present (in_table table_0 i) nz = append_left _ (cell_key_in table_0 i nz)
  in_present (in_table table_1 i) nz = append_right (table_keys table_0) (append_left _ (cell_key_in table_1 i nz))
  in_present (waiting_at j) nz = append_right (table_keys table_0) (append_right (table_keys table_1) (entry_key_in j nz))
  in_present nowhere nz = absurd (nz refl)

  -- a key that is held lies at a place, with its value
  abbrev LiesAt : Cell → Type 0
  LiesAt c = (p : Place) × (key_at p s ≡ c.key) × (value_at p s ≡ some c.value)

  pub of_contents : (c : Cell) → c ∈ contents s → LiesAt c
  unfolding contents
  of_contents c m = ⊎_elim (in_cell table_0) (λ i. ⊎_elim (in_cell table_1) in_queue (append_cases (occupied s.tables.table1) i)) (append_cases (occupied s.tables.table0) m)
    where
      in_cell : (t : Table) → c ∈ occupied (table_of t s.tables) → LiesAt c
      in_cell t m = let u = of_occupied (table_of t s.tables) c m in (in_table t u.0, ap (λ (d : Cell). d.key) u.1, ap (λ (d : Cell). some d.value) u.1)

      in_queue : c ∈ map taken s.waiting → LiesAt c
      in_queue m = let u = of_map taken s.waiting m in let v = entry_place u.1 in
          (waiting_at v.0, ap (λ (e : Entry). e.key) v.1 ∙ ap (λ (d : Cell). d.key) u.2, ap (λ (e : Entry). some e.value) v.1 ∙ ap (λ (d : Cell). some d.value) u.2)

  -- what lies at a place is held
  pub in_contents : (p : Place) (v : ℕ) → key_at p s ≢ 0 → value_at p s ≡ some v → record { key = key_at p s; value = v } ∈ contents s
  unfolding contents
  in_contents (in_table t i) v nz e =
      let f : (cell_at s.tables t i).value ≡ v = cc in
      subst (λ u. record { key = (cell_at s.tables t i).key; value = u } ∈ contents s) f (in_cell t i (in_occupied (table_of t s.tables) i nz))
    where
      in_cell : (t : Table) (i : ℕ) → cell_at s.tables t i ∈ occupied (table_of t s.tables) → cell_at s.tables t i ∈ contents s
      in_cell table_0 i m = append_left _ m
      in_cell table_1 i m = append_right (occupied s.tables.table0) (append_left _ m)
  in_contents (waiting_at j) v nz e =
      let f : (entry_at s.waiting j).value ≡ v = cc in
      subst (λ u. record { key = (entry_at s.waiting j).key; value = u } ∈ contents s) f
      (append_right (occupied s.tables.table0) (append_right (occupied s.tables.table1) (to_map taken (entry_in s.waiting j (entry-within s.waiting j nz)))))
  in_contents nowhere v nz e = absurd (nz refl)

module _ (n : Numbers) (s : Store) (sound : SoundContents n s) where
  -- a present key lies at a place
  pub of_present : (k : ℕ) → k ∈ present s → (p : Place) × (key_at p s ≡ k) × (k ≢ 0)
  unfolding present
  of_present k m = ⊎_elim (in_cell table_0) (λ i. ⊎_elim (in_cell table_1) in_queue (append_cases (table_keys s table_1) i)) (append_cases (table_keys s table_0) m)
    where
      in_cell : (t : Table) → k ∈ table_keys s t → (p : Place) × (key_at p s ≡ k) × (k ≢ 0)
      in_cell t m = let u = of_map (λ (c : Cell). c.key) (occupied (table_of t s.tables)) m in let v = of_occupied (table_of t s.tables) u.0 u.1 in
          (in_table t v.0, ap (λ (c : Cell). c.key) v.1 ∙ u.2, λ z. v.2 (u.2 ∙ z))

      in_queue : k ∈ queue_keys s → (p : Place) × (key_at p s ≡ k) × (k ≢ 0)
      in_queue m = let u = of_map (λ (e : Entry). e.key) s.waiting m in let v = entry_place u.1 in
          (waiting_at v.0, ap (λ (e : Entry). e.key) v.1 ∙ u.2, subst (λ x. x ≢ 0) u.2 (good_nonzero _ (sound.good_entry u.0 u.1)))

  cells_apart : (i j : ℕ) → (cell_at s.tables table_0 i).key ≢ 0 → (cell_at s.tables table_0 i).key ≡ (cell_at s.tables table_1 j).key → ⊥
  unfolding present
  cells_apart i j nz e = disjoint (table_keys s table_0) sound.no_key_twice (cell_key_in s table_0 i nz)
      (append_left _ (cast e (cell_key_in s table_1 j (λ z. nz (e ∙ z)))))

  queue_apart : (t : Table) (i j : ℕ) → (cell_at s.tables t i).key ≢ 0 → (cell_at s.tables t i).key ≡ (entry_at s.waiting j).key → ⊥
  unfolding present
  queue_apart table_0 i j nz e = disjoint (table_keys s table_0) sound.no_key_twice (cell_key_in s table_0 i nz)
      (append_right (table_keys s table_1) (cast e (entry_key_in s j (λ z. nz (e ∙ z)))))
  queue_apart table_1 i j nz e = disjoint (table_keys s table_1) (nodup_right (table_keys s table_0) sound.no_key_twice) (cell_key_in s table_1 i nz)
      (cast e (entry_key_in s j (λ z. nz (e ∙ z))))

  same_cell : (t : Table) (i j : ℕ) → (cell_at s.tables t i).key ≢ 0 → (cell_at s.tables t i).key ≡ (cell_at s.tables t j).key → i ≡ j
  same_cell t i j nz e = sym (sound.at_home t i nz) ∙ ap (n.home t) e ∙ sound.at_home t j (λ z. nz (e ∙ z))

  -- a key lies at one place only
  pub one_place : (p q : Place) → key_at p s ≢ 0 → key_at p s ≡ key_at q s → p ≡ q
  one_place (in_table table_0 i) (in_table table_0 j) nz e = ap (in_table table_0) (same_cell table_0 i j nz e)
  one_place (in_table table_1 i) (in_table table_1 j) nz e = ap (in_table table_1) (same_cell table_1 i j nz e)
  one_place (in_table table_0 i) (in_table table_1 j) nz e = absurd (cells_apart i j nz e)
  one_place (in_table table_1 i) (in_table table_0 j) nz e = absurd (cells_apart j i (λ z. nz (e ∙ z)) (sym e))
  one_place (in_table t i) (waiting_at j) nz e = absurd (queue_apart t i j nz e)
  one_place (in_table t i) nowhere nz e = absurd (nz e)
  one_place (waiting_at i) (in_table t j) nz e = absurd (queue_apart t j i (λ z. nz (e ∙ z)) (sym e))
  one_place (waiting_at i) (waiting_at j) nz e = ap waiting_at (entry_once s.waiting once i j (entry-within s.waiting i nz) (entry-within s.waiting j (λ z. nz (e ∙ z))) e)
    where
      once : NoDup (entry_keys s.waiting)
      once = unfold present in nodup_right (table_keys s table_1) (nodup_right (table_keys s table_0) sound.no_key_twice)
  one_place (waiting_at i) nowhere nz e = absurd (nz e)
  one_place nowhere q nz e = absurd (nz refl)
