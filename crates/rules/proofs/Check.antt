-- The linear check is exact: the facts that its test says of a store are, with the sizes, sound contents. Assumes nothing.
use Prim.Native.Nat.{ℕ, suc}
use mathlib.Core.Path.{◌≡◌, refl, sym, ◌∙◌, ap}
use mathlib.Core.Logic.Iff
use mathlib.Core.Logic.{inl, inr, ◌≢◌, ⊎_elim}
use mathlib.Core.Bool.{Bool, true, false, cond}
use mathlib.Core.List.Memᴰ.{append_cases}
use mathlib.Core.List.{List, [], ◌∷◌, map}
use native.Mathlib.Omega.{arith}
use borrow.Author.Tests.{eqb-false}
use lib.Dec.{eqb}
use lib.ListN.{get_or}
use Rattle.lists.specs.Lists.{◌∈◌, NoDup, nil, more}
use Rattle.lists.proofs.Sets.{nodup_head, nodup_tail, nodup_right, nodup_append, to_map, of_map, map_nodup}
use Rattle.numbers.proofs.Ranges.{good_nonzero}
use Rattle.rules.specs.Store.{Table, table_0, table_1, other, meant, side_of, Cell, free_cell, Entry, Pair, table_of, cell_at, Store, Numbers}
use Rattle.rules.specs.Search.{in_table, waiting_at, entry_at}
use Rattle.rules.specs.Sound.{IsSide, occupied, cell_keys, entry_keys, present, SoundContents}
use Rattle.rules.specs.Check.{Sized, CheckIsExact}
use Rattle.rules.proofs.Places.{of_occupied, entry_place, one_place}
use Rattle.rules.proofs.View.{marking, other_differs}
use Rattle.rules.proofs.CheckTests.{entry_key, Held, EntryFits, CellFits, Fits, says_sound}

-- members differ where their names do
named_apart : {A B : Type 0} (name : A → B) (l : List A) → NoDup (map name l) → NoDup l
named_apart name [] d = nil
named_apart name (a ∷ l) d = more (λ m. nodup_head d (to_map name m)) (named_apart name l (nodup_tail d))

-- with sides 0 or 1, a pair is known by its key and the table meant
side_meant : (side : ℕ) → IsSide side → side_of (meant side) ≡ side
side_meant side (inl e) = rw e
side_meant side (inr e) = rw e

same_marking : (p q : Pair) → IsSide p.side → IsSide q.side → marking p ≡ marking q → p ≡ q
same_marking p q a b e =
    let f : p.side ≡ q.side = sym (side_meant p.side a) ∙ ap (λ x. side_of x.1) e ∙ side_meant q.side b in
    λ i. record { key = (e i).0; side = f i }

-- a cell that has a key of a table
cell_with : (cs : List Cell) (k : ℕ) → k ∈ cell_keys cs → (i : ℕ) × ((get_or cs i free_cell).key ≡ k) × (k ≢ 0)
cell_with cs k m =
    let u = of_map (λ (c : Cell). c.key) (occupied cs) m in
    let v = of_occupied cs u.0 u.1 in
    (v.0, ap (λ (c : Cell). c.key) v.1 ∙ u.2, λ z. v.2 (u.2 ∙ z))

-- a table in which no two cells have one key
cells_differ : (cs : List Cell)
    → ((i j : ℕ) → (get_or cs i free_cell).key ≢ 0 → (get_or cs i free_cell).key ≡ (get_or cs j free_cell).key → i ≡ j) → NoDup (cell_keys cs)
unfolding occupied
cells_differ [] one = nil
cells_differ (c ∷ cs) one = go (eqb c.key 0) refl (cells_differ cs (λ i j nz e. let p = one (suc i) (suc j) nz e in omega arith))
  where
    go : (b : Bool) → eqb c.key 0 ≡ b → NoDup (cell_keys cs) → NoDup (map (λ (d : Cell). d.key) (cond b (occupied cs) (c ∷ occupied cs)))
    go true e d = d
    go false e d = more (λ m. let u = cell_with cs c.key m in let p = one 0 (suc u.0) (eqb-false c.key 0 e) (sym u.1) in absurd (omega arith)) d

module _ (n : Numbers) (s : Store) (fits : Fits n s) where
  abbrev keys : Table → List ℕ
  keys t = cell_keys (table_of t s.tables)

  at_home : (t : Table) (i : ℕ) → (cell_at s.tables t i).key ≢ 0 → n.home t (cell_at s.tables t i).key ≡ i
  at_home t i nz = ((fits.cells t i).1 nz).0.1

  once : (t : Table) → NoDup (keys t)
  once t = cells_differ (table_of t s.tables) (λ i j nz e. sym (at_home t i nz) ∙ ap (n.home t) e ∙ at_home t j (λ z. nz (e ∙ z)))

  -- a table's key is held at its home, so neither its other home nor the queue has it too
  held : (t : Table) (k : ℕ) → k ∈ keys t → Held n s.tables t k
  held t k m =
      let u = cell_with (table_of t s.tables) k m in
      let h : n.home t k ≡ u.0 = rw u.1 at (at_home t u.0 (rw u.1 u.2)) in
      rw h u.1

  no_twin : (t : Table) (k : ℕ) → k ∈ keys t → k ∈ keys (other t) → ⊥
  no_twin t k m i =
      let u = cell_with (table_of t s.tables) k m in
      let unheld : Held n s.tables (other t) k → ⊥ = rw u.1 at ((fits.cells t u.0).1 (rw u.1 u.2)).1 in
      unheld (held (other t) k i)

  not_waiting : (t : Table) (k : ℕ) → k ∈ keys t → k ∈ entry_keys s.waiting → ⊥
  not_waiting t k m i = let u = of_map entry_key s.waiting i in unheld t u.0 (fits.queue.0 u.0 u.1) (rw u.2 (held t k m))
    where
      unheld : (t : Table) (e : Entry) → EntryFits n s.tables e → Held n s.tables t e.key → ⊥
      unheld table_0 e f = f.0.1
      unheld table_1 e f = f.1

  no_key_twice : NoDup (present s)
  unfolding present
  no_key_twice = nodup_append (keys table_0) (once table_0)
      (nodup_append (keys table_1) (once table_1) fits.queue.1 (not_waiting table_1))
      (λ k m i. ⊎_elim (no_twin table_0 k m) (not_waiting table_0 k m) (append_cases (keys table_1) i))

  fits_sound : Sized n s → SoundContents n s
  fits_sound sized = record {
    table_size = sized.table_size;
    queue_fits = sized.queue_fits;
    detector_fits = sized.detector_fits;
    good_cell = λ t i nz. ((fits.cells t i).1 nz).0.0;
    at_home = at_home;
    free_value = λ t i. (fits.cells t i).0;
    good_entry = λ e m. (fits.queue.0 e m).0.0.0;
    entry_side = λ e m. (fits.queue.0 e m).0.0.1;
    good_pair = λ p m. (fits.marks.0 p m).0;
    pair_side = λ p m. (fits.marks.0 p m).1;
    pairs_differ = named_apart marking s.marked fits.marks.1;
    no_key_twice = no_key_twice;
  }

-- the other way, as a key lies at one place only
module _ (n : Numbers) (s : Store) (sound : SoundContents n s) where
  cell_fits : (t : Table) (i : ℕ) → CellFits n s.tables t i (cell_at s.tables t i)
  cell_fits t i = (sound.free_value t i, λ nz. ((sound.good_cell t i nz, sound.at_home t i nz), λ h. other_differs t (twin nz h)))
    where
      twin : (cell_at s.tables t i).key ≢ 0 → Held n s.tables (other t) (cell_at s.tables t i).key → other t ≡ t
      twin nz h = let p = one_place n s sound (in_table t i) (in_table (other t) (n.home (other t) (cell_at s.tables t i).key)) nz (sym h) in cc

  entry_fits : (e : Entry) → e ∈ s.waiting → EntryFits n s.tables e
  entry_fits e m = (((sound.good_entry e m, sound.entry_side e m), unheld table_0), unheld table_1)
    where
      unheld : (t : Table) → Held n s.tables t e.key → ⊥
      unheld t h =
          let u = entry_place m in
          let k : (entry_at s.waiting u.0).key ≡ e.key = ap entry_key u.1 in
          let p = one_place n s sound (waiting_at u.0) (in_table t (n.home t e.key)) (rw k (good_nonzero e.key (sound.good_entry e m))) (k ∙ sym h) in
          let z : ◌≡◌ {A = ℕ} 0 1 = cc in
          omega arith

  sound_fits : Fits n s
  unfolding present
  sound_fits = record {
    cells = cell_fits;
    queue = (entry_fits, nodup_right (cell_keys s.tables.table1) (nodup_right (cell_keys s.tables.table0) sound.no_key_twice));
    marks = (
      λ p m. (sound.good_pair p m, sound.pair_side p m),
      map_nodup marking (λ p q m i. same_marking p q (sound.pair_side p m) (sound.pair_side q i)) sound.pairs_differ,
    );
  }

pub check_is_exact : CheckIsExact
check_is_exact n s sized = Iff.trans (says_sound n s) (λ f. fits_sound n s f sized, sound_fits n s)
