-- What the settling argument sees of a store: the key in each cell, where a waiting key heads, the marked pairs; and a step, seen so. Assumes nothing.
use Prim.Native.Nat.{ℕ, suc, ◌≤◌, ◌<◌}
use mathlib.Core.Path.{◌≡◌, refl, sym, ◌∙◌, ap}
use mathlib.Core.Logic.{◌⊎◌, inl, inr, ◌≢◌, ⊎_elim, ⊎_map}
use mathlib.Core.Bool.{Bool, true, false, true≢false, ◌||◌, and-eq-true_iff}
use mathlib.Core.List.Memᴰ.{head as here}
use mathlib.Core.List.Memᴰ.{tail as there}
use mathlib.Core.List.{List, [], ◌∷◌, map}
use native.Mathlib.Omega.{arith}
use lib.Dec.{eqb}
use lib.ListN.{length, length-map, length-append}
use borrow.Author.Tests.{eqb-true}
use Rattle.lists.specs.Lists.{◌∈◌}
use Rattle.lists.proofs.Sets.{map-append, turned, turned_snoc, length-turned, to_turned}
use Rattle.numbers.proofs.Ranges.{good_nonzero}
use Rattle.rules.specs.Store.{Table, table_0, table_1, other, same_table, meant, Cell, Entry, Pair, Tables, table_of, cell_at, put_cell, Store, Numbers, IntoCells}
use Rattle.rules.specs.Step.{is_pair, is_marked, pair, headed, taken, moved, step_at, step}
use Rattle.rules.specs.Search.{in_table, waiting_at, key_at}
use Rattle.rules.specs.Sound.{present, SoundContents}
use Rattle.rules.specs.Groups.{Sided, home_cell}
use Rattle.rules.proofs.Sided.{sided_path, same_table_lem}
use Rattle.rules.proofs.Steps.{by_kind, by_front}
use Rattle.rules.proofs.Places.{in_present, one_place}
use Rattle.rules.proofs.Parts.{meant_side, put_cases}

-- an entry's key and the table that it heads for
abbrev pub heading : Entry → Sided
heading e = (e.key, meant e.side)

abbrev pub marking : Pair → Sided
marking p = (p.key, meant p.side)

-- the key in a cell, 0 in a free one
abbrev pub key_in : Store → Sided → ℕ
key_in s c = (cell_at s.tables c.1 c.0).key

-- the marked pairs, the last in front
abbrev pub marks : Store → List Sided
marks s = turned (map marking s.marked)

-- the cell that a key with its table heads for
abbrev pub aim : (Table → ℕ → ℕ) → Sided → Sided
aim home f = home_cell home f.1 f.0

-- K' is K but for key y in cell c: at cell d, which had key `before` and has key `now`, and everywhere
abbrev pub WrittenAt : Sided → ℕ → Sided → ℕ → ℕ → Type 0
WrittenAt c y d before now = ((d ≡ c) × (now ≡ y)) ⊎ ((d ≢ c) × (now ≡ before))

abbrev pub Written : (Sided → ℕ) → Sided → ℕ → (Sided → ℕ) → Type 0
Written K c y K' = (d : Sided) → WrittenAt c y d (K d) (K' d)

pub other_differs : (t : Table) → other t ≢ t
other_differs table_0 e = let z : ◌≡◌ {A = ℕ} 0 1 = cc in omega arith
other_differs table_1 e = let z : ◌≡◌ {A = ℕ} 0 1 = cc in omega arith

-- a cell put into the tables is its key written there
put_written : (ts : Tables) (t : Table) (i : ℕ) (c : Cell) → i < length (table_of t ts)
    → Written (λ d. (cell_at ts d.1 d.0).key) (i, t) c.key (λ d. (cell_at (put_cell ts t i c) d.1 d.0).key)
put_written ts t i c l d =
    ⊎_elim
    (λ e. inl (sided_path e.1 e.0, ap (λ (x : Cell). x.key) e.2))
    (λ e. inr (λ p. e.0 (ap (λ x. x.1) p) (ap (λ x. x.0) p), ap (λ (x : Cell). x.key) e.1))
    (put_cases ts t i c l d.1 d.0)

-- a pair that the detector's test finds is a marked pair
or_true : (a b : Bool) → a || b ≡ true → (a ≡ true) ⊎ (b ≡ true)
or_true true b e = inl e
or_true false b e = inr e

same_pair : (y : ℕ) (t : Table) (p : Pair) → is_pair y t p ≡ true → marking p ≡ (y, t)
same_pair y t p e =
    let b = (and-eq-true_iff (eqb p.key y) (same_table (meant p.side) t)).0 e in
    sided_path (eqb-true p.key y b.0) (same_table_lem (meant p.side) t b.1)

pub found-marked : (y : ℕ) (t : Table) (ps : List Pair) → is_marked y t ps ≡ true → (y, t) ∈ map marking ps
unfolding is_marked
found-marked y t [] e = absurd (true≢false (sym e))
found-marked y t (p ∷ ps) e =
    ⊎_elim (λ i. here (sym (same_pair y t p i))) (λ i. there (found-marked y t ps i)) (or_true (is_pair y t p) (is_marked y t ps) e)

-- what the argument needs of a sound store with key y in front
pub record Seen (home : Table → ℕ → ℕ) (K : Sided → ℕ) (y : ℕ) : Type 0 where
  pub at_home : (c : Sided) → K c ≢ 0 → home_cell home c.1 (K c) ≡ c
  pub one_cell : (c d : Sided) → K c ≢ 0 → K c ≡ K d → c ≡ d
  pub front_not_0 : y ≢ 0
  pub front_apart : (c : Sided) → K c ≢ y

module _ (n : Numbers) (s : Store) (sound : SoundContents n s) (e : Entry) (q : List Entry) (w : s.waiting ≡ e ∷ q) where
  not_0 : e.key ≢ 0
  not_0 = good_nonzero e.key (sound.good_entry e (rw w (here refl)))

  at_front : key_at (waiting_at 0) s ≡ e.key
  at_front = rw w

  pub front_present : e.key ∈ present s
  front_present = rw at_front at (in_present s (waiting_at 0) (rw at_front not_0))

  pub seen : Seen n.home (key_in s) e.key
  seen = record { at_home = λ c nz. sided_path (sound.at_home c.1 c.0 nz) refl; one_cell = one_cell; front_not_0 = not_0; front_apart = apart }
    where
      one_cell : (c d : Sided) → key_in s c ≢ 0 → key_in s c ≡ key_in s d → c ≡ d
      one_cell c d nz i =
          let p : in_table c.1 c.0 ≡ in_table d.1 d.0 = one_place n s sound (in_table c.1 c.0) (in_table d.1 d.0) nz i in
          sided_path (cc) (cc)

      apart : (c : Sided) → key_in s c ≢ e.key
      apart c i =
          let p : waiting_at 0 ≡ in_table c.1 c.0 = one_place n s sound (waiting_at 0) (in_table c.1 c.0) (rw at_front not_0) (at_front ∙ sym i) in
          let z : ◌≡◌ {A = ℕ} 0 1 = cc in
          omega arith

-- the cell that an entry heads for
abbrev pub target : Numbers → Entry → Sided
target n e = aim n.home (heading e)

-- what the argument sees of a step of kind 3 from s to s', with e in front and q behind it
pub record Moves (n : Numbers) (s : Store) (e : Entry) (q : List Entry) (s' : Store) : Type 0 where
  pub next : Entry
  pub waits : s'.waiting ≡ next ∷ q
  pub heads : heading next ≡ (key_in s (target n e), other (meant e.side))
  pub written : Written (key_in s) (target n e) e.key (key_in s')
  pub marked : marks s' ≡ heading e ∷ marks s

module _ (n : Numbers) (into : IntoCells n) (s : Store) (sound : SoundContents n s) (e : Entry) (q : List Entry) (w : s.waiting ≡ e ∷ q) where
  -- the table that e's side means, and its key's home there
  abbrev t : Table
  t = meant e.side

  abbrev i : ℕ
  i = n.home t e.key

  moves : Moves n s e q (moved t i e q s)
  moves = record {
    next = headed (other t) (cell_at s.tables t i);
    waits = refl;
    heads = sided_path refl (meant_side (other t));
    written = put_written s.tables t i (taken e) (omega (arith, sound.table_size t, into t e.key));
    marked = ap turned (map-append marking s.marked (pair e.key t ∷ []) ∙ rw (meant_side t)) ∙ turned_snoc (map marking s.marked) (heading e);
  }

  marks-length : length (marks s) ≡ length s.marked
  marks-length = length-turned (map marking s.marked) ∙ length-map s.marked marking

  -- a step with e in front, by what the argument sees after each of the three kinds: the front key has a cell, is set aside, or has pushed out another
  pub by_view : (P : Store → Type 0)
      → ((s' : Store) → length s'.waiting ≡ length q → marks s' ≡ [] → P s')
      → ((heading e ∈ marks s) ⊎ (n.D ≤ length (marks s)) → (s' : Store) → length s'.waiting ≡ suc (length q) → marks s' ≡ [] → P s')
      → (key_in s (target n e) ≢ 0 → length (marks s) < n.D → (s' : Store) → Moves n s e q s' → P s')
      → P (step n s).store
  unfolding turned
  by_view P one two three = by_front (λ x. P x.store) n s
      (λ none. let z : ◌≡◌ {A = ℕ} 0 1 = cc in absurd (omega arith))
      (λ e' q' w'. let a : e' ≡ e = cc in let b : q' ≡ q = cc in rw (a, b) kinds)
    where
      aside : (is_marked e.key t s.marked ≡ true) ⊎ (n.D ≤ length s.marked) → (heading e ∈ marks s) ⊎ (n.D ≤ length (marks s))
      aside = ⊎_map (λ b. to_turned (found-marked e.key t s.marked b)) (λ d. omega (arith, marks-length))

      kinds : P (step_at n.D t i e q s).store
      kinds = by_kind (λ x. P x.store) n.D t i e q s
          (λ free. one _ refl refl)
          (λ nz m. two (aside m) _ (omega (arith, length-append q (headed t (taken e) ∷ []))) refl)
          (λ nz m d. three nz (omega (arith, marks-length)) _ moves)
