-- What a store holds, weighed: a key with its value, from both tables and the queue. Assumes nothing.
use Prim.Native.Nat.{ℕ, ◌+◌, ◌≤◌, ◌<◌}
use mathlib.Core.Path.{◌≡◌, refl, sym, ◌∙◌, ap, subst}
use mathlib.Core.Logic.{◌≢◌}
use mathlib.Core.Bool.{Bool, true, false, cond, ◌&&◌}
use mathlib.Core.List.{List, [], ◌∷◌, ◌++◌, map, map-map}
use native.Mathlib.Omega.{arith}
use borrow.Author.Tests.{eqb-true, eq-eqb, ne_eqb}
use lib.Dec.{eqb}
use lib.ListN.{length}
use Rattle.lists.specs.Lists.{◌∈◌, NoDup}
use Rattle.lists.proofs.Sets.{map-append}
use Rattle.lists.proofs.Weigh.{weigh, weigh-append, weigh-set, weigh_mem, weigh_some, weigh-map, is_one, times, to_times, of_times, nodup_times, times_nodup}
use Rattle.rules.specs.Store.{Table, table_0, table_1, Cell, free_cell, Entry, Tables, table_of, cell_at, put_cell, Store}
use Rattle.rules.specs.Step.{taken}
use Rattle.rules.specs.Sound.{occupied, present}
use Rattle.rules.specs.Contents.{contents, ContentsHaveThePresentKeys}

abbrev key_of : Cell → ℕ
key_of c = c.key

pub contents_have_the_present_keys : ContentsHaveThePresentKeys
unfolding present contents
contents_have_the_present_keys s = map-append key_of (occupied s.tables.table0) _
    ∙ ap (λ l. map key_of (occupied s.tables.table0) ++ l) (map-append key_of (occupied s.tables.table1) (map taken s.waiting)
    ∙ ap (λ l. map key_of (occupied s.tables.table1) ++ l) (map-map key_of taken s.waiting))

-- a weight of occupied cells alone
abbrev pub only : (Cell → ℕ) → Cell → ℕ
only w c = cond (eqb c.key 0) 0 (w c)

pub only_free : (w : Cell → ℕ) (c : Cell) → c.key ≡ 0 → only w c ≡ 0
only_free w c e = simp (eq-eqb c.key 0 e)

pub only-held : (w : Cell → ℕ) (c : Cell) → c.key ≢ 0 → only w c ≡ w c
only-held w c e = simp (ne_eqb c.key 0 e)

weigh-occupied : (w : Cell → ℕ) (cs : List Cell) → weigh w (occupied cs) ≡ weigh (only w) cs
unfolding weigh occupied
weigh-occupied w [] = refl
weigh-occupied w (c ∷ cs) = go (eqb c.key 0) (weigh-occupied w cs)
  where
    go : (b : Bool) → weigh w (occupied cs) ≡ weigh (only w) cs → weigh w (cond b (occupied cs) (c ∷ occupied cs)) ≡ cond b 0 (w c) + weigh (only w) cs
    go true e = omega arith
    go false e = omega arith

-- both tables; tables and queue
abbrev pub weight_in : (Cell → ℕ) → Tables → ℕ
weight_in w ts = weigh (only w) ts.table0 + weigh (only w) ts.table1

abbrev pub waiting_weight : (Cell → ℕ) → List Entry → ℕ
waiting_weight w q = weigh (λ e. w (taken e)) q

unfoldable pub weight : (Cell → ℕ) → Store → ℕ
weight w s = weight_in w s.tables + waiting_weight w s.waiting

pub weigh-contents : (w : Cell → ℕ) (s : Store) → weigh w (contents s) ≡ weight w s
unfolding contents weight
weigh-contents w s =
    let a = weigh-append w (occupied s.tables.table0) (occupied s.tables.table1 ++ map taken s.waiting) in
    let b = weigh-append w (occupied s.tables.table1) (map taken s.waiting) in
    omega (arith, a, b, weigh-occupied w s.tables.table0, weigh-occupied w s.tables.table1, weigh-map taken w s.waiting)

-- a cell replaced by another
pub weight_put : (w : Cell → ℕ) (ts : Tables) (t : Table) (i : ℕ) (c : Cell) → i < length (table_of t ts)
    → weight_in w (put_cell ts t i c) + only w (cell_at ts t i) ≡ weight_in w ts + only w c
weight_put w ts table_0 i c h = let e = weigh-set (only w) ts.table0 i c free_cell h in omega arith
weight_put w ts table_1 i c h = let e = weigh-set (only w) ts.table1 i c free_cell h in omega arith

-- how often a key is present
pub times-present : (k : ℕ) (s : Store) → times k (present s) ≡ weight (λ c. is_one k c.key) s
times-present k s = ap (times k) (sym (contents_have_the_present_keys s)) ∙ weigh-map key_of (is_one k) (contents s) ∙ weigh-contents (λ c. is_one k c.key) s

pub to_present : (k : ℕ) (s : Store) → 1 ≤ weight (λ c. is_one k c.key) s → k ∈ present s
to_present k s h = of_times k (present s) (omega (arith, times-present k s))

pub of_present_weight : (k : ℕ) (s : Store) → k ∈ present s → 1 ≤ weight (λ c. is_one k c.key) s
of_present_weight k s m = omega (arith, to_times k m, times-present k s)

pub once_weight : (s : Store) → ((k : ℕ) → weight (λ c. is_one k c.key) s ≤ 1) → NoDup (present s)
once_weight s f = times_nodup (present s) (λ k. omega (arith, f k, times-present k s))

pub weight_once : (s : Store) → NoDup (present s) → (k : ℕ) → weight (λ c. is_one k c.key) s ≤ 1
weight_once s d k = omega (arith, nodup_times d k, times-present k s)

-- 1 for a key with this value and 0 for anything else
abbrev pub is_cell : Cell → Cell → ℕ
is_cell c d = cond (eqb d.key c.key && eqb d.value c.value) 1 0

of_is_cell : (c d : Cell) → 1 ≤ is_cell c d → d ≡ c
of_is_cell c d h = go (eqb d.key c.key) (eqb d.value c.value) refl refl h
  where
    go : (a b : Bool) → eqb d.key c.key ≡ a → eqb d.value c.value ≡ b → 1 ≤ cond (a && b) 1 0 → d ≡ c
    go true true e f l = λ i. record { key = eqb-true d.key c.key e i; value = eqb-true d.value c.value f i }
    go true false e f l = absurd (omega arith)
    go false b e f l = absurd (omega arith)

pub is_cell_same : (c : Cell) → is_cell c c ≡ 1
is_cell_same c = simp (eq-eqb c.key c.key refl, eq-eqb c.value c.value refl)

pub to_contents : (c : Cell) (s : Store) → 1 ≤ weight (is_cell c) s → c ∈ contents s
to_contents c s h = let t = weigh_some (is_cell c) (contents s) (omega (arith, weigh-contents (is_cell c) s)) in
    subst (λ d. d ∈ contents s) (of_is_cell c t.0 t.2) t.1

pub of_contents_weight : (c : Cell) (s : Store) → c ∈ contents s → 1 ≤ weight (is_cell c) s
of_contents_weight c s m = omega (arith, weigh_mem (is_cell c) m, is_cell_same c, weigh-contents (is_cell c) s)

-- what is held weighs at least its own weight
pub held-weight : (w : Cell → ℕ) (c : Cell) (s : Store) → c ∈ contents s → w c ≤ weight w s
held-weight w c s m = omega (arith, weigh_mem w m, weigh-contents w s)

pub is_cell-other : (c d : Cell) → d.key ≢ c.key → is_cell c d ≡ 0
is_cell-other c d e = simp (ne_eqb d.key c.key e)
