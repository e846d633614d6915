-- The parts of a sound store, tables, queue and detector, each by itself, and what keeps each. Assumes nothing.
use Prim.Native.Nat.{ℕ, ◌≤◌, ◌<◌}
use mathlib.Core.Path.{◌≡◌, refl, sym, ◌∙◌, ap, subst}
use mathlib.Core.Logic.{◌⊎◌, inl, inr, ◌≢◌, ⊎_elim}
use mathlib.Core.Bool.{Bool, true, false, ◌||◌, true≢false}
use mathlib.Core.List.Memᴰ.{append_cases}
use mathlib.Core.List.Memᴰ.{cases_cons as split}
use mathlib.Core.List.Memᴰ.{eq_of_singleton}
use mathlib.Core.List.Memᴰ.{head as here}
use mathlib.Core.List.Memᴰ.{not-nil}
use mathlib.Core.List.Memᴰ.{tail as there}
use mathlib.Core.List.{List, [], ◌∷◌, ◌++◌}
use native.Mathlib.Omega.{arith}
use native.Mathlib.Decide.{ℕ_discrete}
use borrow.Author.Tests.{eq-eqb}
use lib.ListN.{length, length-append, length-set, get_or, set}
use lib.Seq.{get_or-set_same, get_or-set_other}
use Rattle.lists.specs.Lists.{◌∈◌, NoDup, nil}
use Rattle.lists.proofs.Sets.{rotate}
use Rattle.rules.specs.Store.{Table, table_0, table_1, same_table, meant, side_of, Cell, free_cell, Entry, Pair, Tables, table_of, cell_at, put_cell, Store, Numbers}
use Rattle.rules.specs.Step.{pair, is_pair, is_marked}
use Rattle.rules.specs.Sound.{IsGood, IsSide, present, SoundContents}

pub record TablesSound (n : Numbers) (ts : Tables) : Type 0 where
  pub size : (t : Table) → length (table_of t ts) ≡ n.r
  pub good : (t : Table) (i : ℕ) → (cell_at ts t i).key ≢ 0 → IsGood (cell_at ts t i).key
  pub at_home : (t : Table) (i : ℕ) → (cell_at ts t i).key ≢ 0 → n.home t (cell_at ts t i).key ≡ i
  pub free : (t : Table) (i : ℕ) → (cell_at ts t i).key ≡ 0 → (cell_at ts t i).value ≡ 0

abbrev pub EntrySound : Entry → Type 0
EntrySound e = IsGood e.key × IsSide e.side

pub record QueueSound (n : Numbers) (q : List Entry) : Type 0 where
  pub fits : length q ≤ n.Q
  pub entries : (e : Entry) → e ∈ q → EntrySound e

pub record MarksSound (n : Numbers) (ps : List Pair) : Type 0 where
  pub fits : length ps ≤ n.D
  pub good : (p : Pair) → p ∈ ps → IsGood p.key
  pub sides : (p : Pair) → p ∈ ps → IsSide p.side
  pub differ : NoDup ps

module _ (n : Numbers) (s : Store) where
  pub parts : TablesSound n s.tables → QueueSound n s.waiting → MarksSound n s.marked → NoDup (present s) → SoundContents n s
  parts ts q ps once = record {
    table_size = ts.size;
    queue_fits = q.fits;
    detector_fits = ps.fits;
    good_cell = ts.good;
    at_home = ts.at_home;
    free_value = ts.free;
    good_entry = λ e m. (q.entries e m).0;
    entry_side = λ e m. (q.entries e m).1;
    good_pair = ps.good;
    pair_side = ps.sides;
    pairs_differ = ps.differ;
    no_key_twice = once;
  }

  module _ (sound : SoundContents n s) where
    pub tables_of : TablesSound n s.tables
    tables_of = record { size = sound.table_size; good = sound.good_cell; at_home = sound.at_home; free = sound.free_value }

    pub queue_of : QueueSound n s.waiting
    queue_of = record { fits = sound.queue_fits; entries = λ e m. (sound.good_entry e m, sound.entry_side e m) }

    pub marks_of : MarksSound n s.marked
    marks_of = record { fits = sound.detector_fits; good = sound.good_pair; sides = sound.pair_side; differ = sound.pairs_differ }

-- a cell put: that cell is the new one, and every other is as it was
pub set_cases : (cs : List Cell) (i j : ℕ) (c : Cell) → i < length cs → ((j ≡ i) × (get_or (set cs i c) j free_cell ≡ c)) ⊎ ((j ≢ i) × (get_or (set cs i c) j free_cell ≡ get_or cs j free_cell))
set_cases cs i j c l = go (ℕ_discrete j i)
  where
    go : Dec (j ≡ i) → ((j ≡ i) × (get_or (set cs i c) j free_cell ≡ c)) ⊎ ((j ≢ i) × (get_or (set cs i c) j free_cell ≡ get_or cs j free_cell))
    go (yes e) = inl (e, ap (λ k. get_or (set cs i c) k free_cell) e ∙ get_or-set_same cs i c free_cell l)
    go (no d) = inr (d, get_or-set_other cs i j c free_cell d)

abbrev pub PutCases : Tables → Table → ℕ → Cell → Table → ℕ → Type 0
PutCases ts t i c u j = ((u ≡ t) × (j ≡ i) × (cell_at (put_cell ts t i c) u j ≡ c)) ⊎ ((u ≡ t → j ≢ i) × (cell_at (put_cell ts t i c) u j ≡ cell_at ts u j))

apart : table_1 ≡ table_0 → ⊥
apart e = let z : ◌≡◌ {A = ℕ} 1 0 = ap side_of e in omega arith

pub put_cases : (ts : Tables) (t : Table) (i : ℕ) (c : Cell) → i < length (table_of t ts) → (u : Table) (j : ℕ) → PutCases ts t i c u j
put_cases ts table_0 i c l table_0 j = ⊎_elim (λ e. inl (refl, e.0, e.1)) (λ e. inr (λ same. e.0, e.1)) (set_cases ts.table0 i j c l)
put_cases ts table_0 i c l table_1 j = inr (λ e. absurd (apart e), refl)
put_cases ts table_1 i c l table_0 j = inr (λ e. absurd (apart (sym e)), refl)
put_cases ts table_1 i c l table_1 j = ⊎_elim (λ e. inl (refl, e.0, e.1)) (λ e. inr (λ same. e.0, e.1)) (set_cases ts.table1 i j c l)

-- a cell that may stand at place i of table t
pub record CellSound (n : Numbers) (t : Table) (i : ℕ) (c : Cell) : Type 0 where
  pub good : c.key ≢ 0 → IsGood c.key
  pub at_home : c.key ≢ 0 → n.home t c.key ≡ i
  pub free : c.key ≡ 0 → c.value ≡ 0

pub put_size : (ts : Tables) (t : Table) (i : ℕ) (c : Cell) (u : Table) → length (table_of u (put_cell ts t i c)) ≡ length (table_of u ts)
put_size ts table_0 i c table_0 = length-set ts.table0 i c
put_size ts table_0 i c table_1 = refl
put_size ts table_1 i c table_0 = refl
put_size ts table_1 i c table_1 = length-set ts.table1 i c

pub put_sound : (n : Numbers) (ts : Tables) → TablesSound n ts → (t : Table) (i : ℕ) (c : Cell) → i < n.r → CellSound n t i c → TablesSound n (put_cell ts t i c)
put_sound n ts sound t i c l new = record {
  size = λ u. put_size ts t i c u ∙ sound.size u;
  good = λ u j. (cell u j).good;
  at_home = λ u j. (cell u j).at_home;
  free = λ u j. (cell u j).free;
}
  where
    old : (u : Table) (j : ℕ) → CellSound n u j (cell_at ts u j)
    old u j = record { good = sound.good u j; at_home = sound.at_home u j; free = sound.free u j }

    cell : (u : Table) (j : ℕ) → CellSound n u j (cell_at (put_cell ts t i c) u j)
    cell u j = ⊎_elim (λ e. rw (e.2, e.1, e.0) new) (λ e. rw e.1 (old u j)) (put_cases ts t i c (omega (arith, sound.size t)) u j)

-- sides that a step writes
pub side_sound : (t : Table) → IsSide (side_of t)
side_sound table_0 = inl refl
side_sound table_1 = inr refl

pub meant_side : (t : Table) → meant (side_of t) ≡ t
meant_side table_0 = refl
meant_side table_1 = refl

pub same_table_refl : (t : Table) → same_table t t ≡ true
same_table_refl table_0 = refl
same_table_refl table_1 = refl

-- the queue with an entry behind, and in front
pub queue_behind : (n : Numbers) (q : List Entry) (e : Entry) → length q < n.Q → ((d : Entry) → d ∈ q → EntrySound d) → EntrySound e → QueueSound n (q ++ e ∷ [])
queue_behind n q e l old new = record { fits = simp length-append (omega arith); entries = λ d m. ⊎_elim (old d) (λ i. subst EntrySound (sym (eq_of_singleton i)) new) (append_cases q m) }

pub queue_front : (n : Numbers) (q : List Entry) (e : Entry) → length q < n.Q → ((d : Entry) → d ∈ q → EntrySound d) → EntrySound e → QueueSound n (e ∷ q)
queue_front n q e l old new = record { fits = omega arith; entries = λ d m. ⊎_elim (λ i. subst EntrySound (sym i) new) (old d) (split m) }

-- an empty detector, and one mark more
pub no_marks : (n : Numbers) → MarksSound n []
no_marks n = record { fits = omega arith; good = λ p m. absurd (not-nil m); sides = λ p m. absurd (not-nil m); differ = nil }

pub or_right : (a b : Bool) → b ≡ true → (a || b) ≡ true
or_right true b e = refl
or_right false b e = e

pub or_left : (a b : Bool) → a ≡ true → (a || b) ≡ true
or_left true b e = refl
or_left false b e = absurd (true≢false (sym e))

-- a pair that is there is marked
pub marked_in : (y : ℕ) (t : Table) {p : Pair} {ps : List Pair} → p ∈ ps → is_pair y t p ≡ true → is_marked y t ps ≡ true
unfolding is_marked
marked_in y t (here {x = q} {xs = ps} e) h = or_left (is_pair y t q) (is_marked y t ps) (subst (λ x. is_pair y t x ≡ true) e h)
marked_in y t (there {x = q} {xs = ps} m) h = or_right (is_pair y t q) (is_marked y t ps) (marked_in y t m h)

pub own_pair : (y : ℕ) (t : Table) → is_pair y t (pair y t) ≡ true
own_pair y t = simp (eq-eqb y y refl, meant_side t, same_table_refl t)

pub mark_more : (n : Numbers) (ps : List Pair) (y : ℕ) (t : Table) → MarksSound n ps → length ps < n.D → is_marked y t ps ≡ false → IsGood y → MarksSound n (ps ++ pair y t ∷ [])
mark_more n ps y t old l fresh good = record {
  fits = simp length-append (omega arith);
  good = λ p m. ⊎_elim (old.good p) (λ i. subst (λ (x : Pair). IsGood x.key) (sym (eq_of_singleton i)) good) (append_cases ps m);
  sides = λ p m. ⊎_elim (old.sides p) (λ i. subst (λ (x : Pair). IsSide x.side) (sym (eq_of_singleton i)) (side_sound t)) (append_cases ps m);
  differ = rotate (pair y t) ps old.differ (λ m. true≢false (sym (marked_in y t m (own_pair y t)) ∙ fresh));
}
