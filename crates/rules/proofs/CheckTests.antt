-- What each part of the linear check says: a test of a cell, an entry or a pair passes exactly where a fact of it holds. Assumes nothing.
use Prim.Native.Nat.{ℕ, zero, suc, ◌+◌, ◌≤◌}
use mathlib.Core.Path.{◌≡◌, refl, sym, ap, subst}
use mathlib.Core.Logic.Iff
use mathlib.Core.Logic.{◌⊎◌, inl, inr, ◌≢◌, ◌↔◌, ⊎_elim}
use mathlib.Core.Bool.{Bool, true, false, false≢true, cond, not, ◌&&◌, ◌||◌, and-eq-true_iff}
use mathlib.Core.List.Memᴰ.{cases_cons as split}
use mathlib.Core.List.Memᴰ.{head as here}
use mathlib.Core.List.Memᴰ.{not-nil}
use mathlib.Core.List.Memᴰ.{tail as there}
use mathlib.Core.List.{List, [], ◌∷◌, map}
use native.Mathlib.Nat.{zero-add, add-zero}
use native.Mathlib.Omega.{arith}
use borrow.Author.Tests.{eqb-true, eq-eqb, leb-true, le-leb}
use lib.Dec.{eqb, leb}
use lib.ListN.{get_or}
use Rattle.lists.specs.Lists.{◌∈◌, NoDup, nil, more}
use Rattle.lists.proofs.Sets.{nodup_head, nodup_tail, of_map}
use Rattle.rules.specs.Store.{Table, table_0, table_1, other, same_table, meant, Cell, free_cell, Entry, Pair, Tables, table_of, cell_at, Store, Numbers}
use Rattle.rules.specs.Step.{is_pair, is_marked}
use Rattle.rules.specs.Sound.{IsGood, IsSide, entry_keys}
use Rattle.rules.specs.Check.{is_held, cell_ok, cells_ok, waits_in, entry_ok, queue_ok, marks_ok, is_sound}
use Rattle.rules.proofs.Parts.{same_table_refl, marked_in}
use Rattle.rules.proofs.View.{marking, found-marked}

infixl 35 ◌also◌
-- a test passes exactly where a fact holds
abbrev pub Says : Bool → Type 0 → Type 0
Says b A = (b ≡ true) ↔ A

◌also◌ : {a b : Bool} {A B : Type 0} → Says a A → Says b B → Says (a && b) (A × B)
◌also◌ {a} {b} p q = Iff.trans (and-eq-true_iff a b) (Iff.and p q)

says_not : {a : Bool} {A : Type 0} → Says a A → Says (not a) (A → ⊥)
says_not {a = true} p = (λ e. absurd (false≢true e), λ f. absurd (f (p.0 refl)))
says_not {a = false} p = (λ e x. false≢true (p.1 x), λ f. refl)

says_or : {a b : Bool} {A B : Type 0} → Says a A → Says b B → Says (a || b) (A ⊎ B)
says_or {a = true} p q = (λ e. inl (p.0 refl), λ s. refl)
says_or {a = false} p q = (λ e. inr (q.0 e), ⊎_elim (λ x. absurd (false≢true (p.1 x))) q.1)

says_cond : {a b c : Bool} {A B C : Type 0} → Says a A → Says b B → Says c C → Says (cond a b c) ((A → B) × ((A → ⊥) → C))
says_cond {a = true} p q r = (λ e. (λ x. q.0 e, λ f. absurd (f (p.0 refl))), λ k. q.1 (k.0 (p.0 refl)))
says_cond {a = false} p q r = (λ e. (λ x. absurd (false≢true (p.1 x)), λ f. r.0 e), λ k. r.1 (k.1 (λ x. false≢true (p.1 x))))

says_equal : (a b : ℕ) → Says (eqb a b) (a ≡ b)
says_equal a b = (eqb-true a b, eq-eqb a b)

says_side : (side : ℕ) → Says (leb side 1) (IsSide side)
says_side side = (λ e. small side (leb-true side 1 e), λ s. le-leb side 1 (⊎_elim (λ e. omega arith) (λ e. omega arith) s))
  where
    small : (x : ℕ) → x ≤ 1 → IsSide x
    small zero l = inl refl
    small (suc x) l = inr (omega arith)

-- What the tests of queue and detector say: every member fits, and no two have one name.
module _ {A B : Type 0} (name : A → B) (Fits : A → Type 0) where
  abbrev pub Apart : List A → Type 0
  Apart l = ((a : A) → a ∈ l → Fits a) × NoDup (map name l)

  apart_none : Apart []
  apart_none = (λ a m. absurd (not-nil m), nil)

  apart_more : (a : A) (l : List A) → (Fits a × (name a ∈ map name l → ⊥)) × Apart l ↔ Apart (a ∷ l)
  apart_more a l = (
    λ k. (λ b m. ⊎_elim (λ e. subst Fits (sym e) k.0.0) (k.1.0 b) (split m), more k.0.1 k.1.1),
    λ k. ((k.0 a (here refl), nodup_head k.1), (λ b m. k.0 b (there m), nodup_tail k.1)),
  )

-- the detector, whose pairs are named by key and table meant
own_marking : (y : ℕ) (t : Table) (p : Pair) → marking p ≡ (y, t) → is_pair y t p ≡ true
own_marking y t p e =
    let same : same_table (meant p.side) t ≡ true = subst (λ u. same_table (meant p.side) u ≡ true) (ap (λ x. x.1) e) (same_table_refl (meant p.side)) in
    (and-eq-true_iff (eqb p.key y) (same_table (meant p.side) t)).1 (eq-eqb p.key y (ap (λ x. x.0) e), same)

says_marked : (y : ℕ) (t : Table) (ps : List Pair) → Says (is_marked y t ps) ((y, t) ∈ map marking ps)
says_marked y t ps = (found-marked y t ps, λ m. let u = of_map marking ps m in marked_in y t u.1 (own_marking y t u.0 u.2))

abbrev pub PairFits : Pair → Type 0
PairFits p = IsGood p.key × IsSide p.side

says_marks : (ps : List Pair) → Says (marks_ok ps) (Apart marking PairFits ps)
unfolding marks_ok
says_marks [] = (λ e. apart_none marking PairFits, λ k. refl)
says_marks (p ∷ ps) = Iff.trans (Iff.rfl also says_side p.side also says_not (says_marked p.key (meant p.side) ps) also says_marks ps) (apart_more marking PairFits p ps)

-- the queue, whose entries are named by key
abbrev pub entry_key : Entry → ℕ
entry_key e = e.key

says_waits : (x : ℕ) (q : List Entry) → Says (waits_in x q) (x ∈ entry_keys q)
unfolding waits_in
says_waits x [] = (λ e. absurd (false≢true e), λ m. absurd (not-nil m))
says_waits x (e ∷ q) = Iff.trans (says_or (says_equal e.key x) (says_waits x q)) (⊎_elim (λ i. here (sym i)) there, λ m. ⊎_elim (λ i. inl (sym i)) inr (split m))

module _ (n : Numbers) (ts : Tables) where
  -- the home of k in table t has it
  abbrev pub Held : Table → ℕ → Type 0
  Held t k = (cell_at ts t (n.home t k)).key ≡ k

  says_unheld : (t : Table) (k : ℕ) → Says (not (is_held n ts t k)) (Held t k → ⊥)
  says_unheld t k = says_not (says_equal (cell_at ts t (n.home t k)).key k)

  abbrev pub EntryFits : Entry → Type 0
  EntryFits e = ((IsGood e.key × IsSide e.side) × (Held table_0 e.key → ⊥)) × (Held table_1 e.key → ⊥)

  says_entry : (e : Entry) (q : List Entry) → Says (entry_ok n ts e q) (EntryFits e × (e.key ∈ entry_keys q → ⊥))
  unfolding entry_ok
  says_entry e q = Iff.rfl also says_side e.side also says_unheld table_0 e.key also says_unheld table_1 e.key also says_not (says_waits e.key q)

  says_queue : (q : List Entry) → Says (queue_ok n ts q) (Apart entry_key EntryFits q)
  unfolding queue_ok
  says_queue [] = (λ e. apart_none entry_key EntryFits, λ k. refl)
  says_queue (e ∷ q) = Iff.trans (says_entry e q also says_queue q) (apart_more entry_key EntryFits e q)

  -- the tables, cell by cell; past a table's end every cell is free
  abbrev pub CellFits : Table → ℕ → Cell → Type 0
  CellFits t i c = (c.key ≡ 0 → c.value ≡ 0) × (c.key ≢ 0 → (IsGood c.key × (n.home t c.key ≡ i)) × (Held (other t) c.key → ⊥))

  says_cell : (t : Table) (i : ℕ) (c : Cell) → Says (cell_ok n ts t i c) (CellFits t i c)
  unfolding cell_ok
  says_cell t i c =
      says_cond (says_equal c.key 0) (says_equal c.value 0) (Iff.rfl also says_equal (n.home t c.key) i also says_unheld (other t) c.key)

  says_cells : (t : Table) (i : ℕ) (cs : List Cell) → Says (cells_ok n ts t i cs) ((j : ℕ) → CellFits t (i + j) (get_or cs j free_cell))
  unfolding cells_ok
  says_cells t i [] = (λ e j. (λ z. refl, λ nz. absurd (nz refl)), λ f. refl)
  says_cells t i (c ∷ cs) = Iff.trans (says_cell t i c also says_cells t (suc i) cs) (λ k. each k.0 k.1, λ f. (rw add-zero at (f 0), λ j. rw (next j) (f (suc j))))
    where
      next : (j : ℕ) → suc i + j ≡ i + suc j
      next j = omega arith

      each : CellFits t i c → ((j : ℕ) → CellFits t (suc i + j) (get_or cs j free_cell)) → (j : ℕ) → CellFits t (i + j) (get_or (c ∷ cs) j free_cell)
      each f g zero = rw add-zero f
      each f g (suc j) = rw (← next j) (g j)

  says_table : (t : Table) → Says (cells_ok n ts t 0 (table_of t ts)) ((i : ℕ) → CellFits t i (cell_at ts t i))
  says_table t = Iff.trans (says_cells t 0 (table_of t ts)) (λ f i. rw zero-add at (f i), λ f i. rw zero-add (f i))

-- what the whole test says of a store
pub record Fits (n : Numbers) (s : Store) : Type 0 where
  pub cells : (t : Table) (i : ℕ) → CellFits n s.tables t i (cell_at s.tables t i)
  pub queue : Apart entry_key (EntryFits n s.tables) s.waiting
  pub marks : Apart marking PairFits s.marked

pub says_sound : (n : Numbers) (s : Store) → Says (is_sound n s) (Fits n s)
unfolding is_sound
says_sound n s = Iff.trans (says_table n s.tables table_0 also says_table n s.tables table_1 also says_queue n s.tables s.waiting also says_marks s.marked) (
  λ k. record { cells = elim [ table_0 ↦ k.0.0.0 | table_1 ↦ k.0.0.1 ]; queue = k.0.1; marks = k.1 },
  λ f. (((f.cells table_0, f.cells table_1), f.queue), f.marks),
)
