-- From the words that each kind of step leaves to what the rules leave, in one table. Assumes nothing.
use Prim.Native.Nat.{ℕ, ◌+◌, ◌-◌, ◌*◌, ◌≤◌, ◌<◌}
use mathlib.Core.Path.{◌≡◌, refl, sym, ap, ◌∙◌}
use mathlib.Core.Logic.{◌≢◌, ⊎_elim}
use mathlib.Core.Bool.{Bool, true, false, ◌||◌, true≢false}
use mathlib.Core.List.{List, [], ◌∷◌, ◌++◌}
use native.Mathlib.Omega.{arith}
use native.Mathlib.Nat.{add-zero}
use borrow.Author.Tests.{leb-true, leb-false}
use lib.Dec.{leb}
use lib.ListN.{length, get_or, set, drop, length-append}
use lib.Seq.{sets, get_or-drop}
use Rattle.numbers.specs.declared.Table.{Table as CodeTable}
use Rattle.numbers.specs.declared.Table.TheVariants.{Zero, One}
use Rattle.numbers.specs.Tables.{side_of as word_of}
use Rattle.rules.specs.Store.{Table, table_0, table_1, other, side_of, Cell, free_cell, Entry, cell_at, put_cell, Store, meant}
use Rattle.rules.specs.Step.{taken, is_marked, Stepped, step_at}
use Rattle.rules.proofs.Steps.{by_kind}
use Rattle.layout.specs.Memory.{rules_table, cells_in, entries_in, pairs_in}
use Rattle.layout.specs.Forms.{cell_form, entry_form, pair_form, packed}
use Rattle.layout.proofs.Forms.{cell_lawful, entry_lawful, length-read_many, read_at, read_set}
use Rattle.layout.proofs.Ready.{rest_count}
use Rattle.kinds.specs.declared.Turn.{Turn}
use Rattle.kinds.specs.Shape.{entry, pair, kind_number, Ready, Landed, Aside, Swapped}
use Rattle.steps.specs.Shape.{with_table, tables_with, After}

-- a cell of the table in hand
pub cell_in : (t : Table) (cs o : List Cell) (i : ℕ) → cell_at (with_table t cs o) t i ≡ get_or cs i free_cell
cell_in table_0 cs o i = refl
cell_in table_1 cs o i = refl

put_in : (t : Table) (cs o : List Cell) (i : ℕ) (c : Cell) → with_table t (set cs i c) o ≡ put_cell (with_table t cs o) t i c
put_in table_0 cs o i c = refl
put_in table_1 cs o i c = refl

pub cell_read : (r i : ℕ) (t : List ℕ) → i < r → get_or (cells_in r t) i free_cell ≡ record { key = get_or t (2 * i) 0; value = get_or t (2 * i + 1) 0 }
cell_read r i t h = read_at cell_form r i t free_cell h ∙ simp (get_or-drop, add-zero)

-- the side words of a table and of the other
side_meant : (t : CodeTable) → side_of (rules_table t) ≡ word_of t
side_meant Zero = refl
side_meant One = refl

-- what a table's side word means
pub meant_side : (t : CodeTable) → meant (word_of t) ≡ rules_table t
meant_side Zero = refl
meant_side One = refl

side_other : (t : CodeTable) → side_of (other (rules_table t)) ≡ 1 - word_of t
side_other Zero = refl
side_other One = refl

module _ (r room i ql dl : ℕ) (code : CodeTable) (t q d : List ℕ) (o : List Cell) (size : length t ≡ 2 * r) (inside : i < r) (ready : Ready ql dl q d) (some : 0 < ql) where
  abbrev tb : Table
  tb = rules_table code

  abbrev b : ℕ
  b = word_of code

  abbrev e : Entry
  e = entry (get_or q 0 0) (get_or q 1 0) b

  abbrev rest : List Entry
  rest = drop 1 (entries_in ql q)

  abbrev s : Store
  s = tables_with r ql dl tb o t q d

  abbrev stepped : Stepped
  stepped = step_at room tb i e rest s

  here : cell_at s.tables tb i ≡ record { key = get_or t (2 * i) 0; value = get_or t (2 * i + 1) 0 }
  here = cell_in tb (cells_in r t) o i ∙ cell_read r i t inside

  key_here : (cell_at s.tables tb i).key ≡ get_or t (2 * i) 0
  key_here = ap (λ (c : Cell). c.key) here

  taken_in : (t' : List ℕ) → t' ≡ sets t (2 * i) (get_or q 0 0 ∷ get_or q 1 0 ∷ []) → with_table tb (cells_in r t') o ≡ put_cell s.tables tb i (taken e)
  taken_in t' w = ap (λ cs. with_table tb cs o) (ap (cells_in r) w ∙ read_set cell_form cell_lawful r i t (taken e) inside (omega arith)) ∙ put_in tb (cells_in r t) o i (taken e)

  waits : length rest ≡ ql - 1
  waits = rest_count entry_form entry_lawful ql q ready.queue ready.queue_in some

  marks : length s.marked ≡ dl
  marks = length-read_many pair_form dl d

  module _ (t' q' d' : List ℕ) (a : Turn) where
    abbrev Leaves : Stepped → Type 0
    Leaves x = After r x tb o (length q) (length d) t' q' d' a

    pub lands : get_or t (2 * i) 0 ≡ 0 → Landed i (get_or q 0 0) (get_or q 1 0) ql t q d t' q' d' a → Leaves stepped
    lands free w = by_kind Leaves room tb i e rest s
        (λ z. record { tables = taken_in t' w.table; queue = w.queue; detector = w.detector; kind = ap (λ (x : Turn). kind_number x.kind) w.answer; queue_len = ap (λ (x : Turn). x.lengths.queue) w.answer ∙ sym waits; detector_len = ap (λ (x : Turn). x.lengths.detector) w.answer })
        (λ nz m. absurd (nz (key_here ∙ free)))
        (λ nz m l. absurd (nz (key_here ∙ free)))

    pub sets_aside : get_or t (2 * i) 0 ≢ 0 → (is_marked (get_or q 0 0) tb (pairs_in dl d) || leb room dl) ≡ true
        → Aside (get_or q 0 0) (get_or q 1 0) b ql q d q' d' a → t' ≡ t → Leaves stepped
    sets_aside held stop w same = by_kind Leaves room tb i e rest s
        (λ z. absurd (held (sym key_here ∙ z)))
        (λ nz m. record {
          tables = ap (λ us. with_table tb (cells_in r us) o) same;
          queue = w.queue ∙ ap (λ k. packed entry_form (length q) (rest ++ entry (get_or q 0 0) (get_or q 1 0) k ∷ [])) (sym (side_meant code));
          detector = w.detector;
          kind = ap (λ (x : Turn). kind_number x.kind) w.answer;
          queue_len = ap (λ (x : Turn). x.lengths.queue) w.answer ∙ omega (arith, waits, length-append rest (entry (get_or q 0 0) (get_or q 1 0) (side_of tb) ∷ []));
          detector_len = ap (λ (x : Turn). x.lengths.detector) w.answer;
        })
        (λ nz m l. absurd (go (is_marked (get_or q 0 0) tb (pairs_in dl d)) (leb room dl) refl m l stop))
      where
        go : (m f : Bool) → leb room dl ≡ f → m ≡ false → length s.marked < room → (m || f) ≡ true → ⊥
        go m false e n l h = true≢false (sym h ∙ ap (λ x. x || false) n)
        go m true e n l h = omega (arith, leb-true room dl e, marks)

    pub swaps : get_or t (2 * i) 0 ≢ 0 → (is_marked (get_or q 0 0) tb (pairs_in dl d) || leb room dl) ≡ false
        → Swapped i (get_or q 0 0) (get_or q 1 0) b ql dl t q d t' q' d' a → Leaves stepped
    swaps held go_on w = by_kind Leaves room tb i e rest s
        (λ z. absurd (held (sym key_here ∙ z)))
        (λ nz m. absurd (⊎_elim (λ x. stopped x) (λ l. full l) m))
        (λ nz m l. record {
          tables = taken_in t' w.table;
          queue = w.queue ∙ ap (λ (x : Entry). packed entry_form (length q) (x ∷ rest)) pushed;
          detector = w.detector ∙ ap (λ k. packed pair_form (length d) (pairs_in dl d ++ pair (get_or q 0 0) k ∷ [])) (sym (side_meant code));
          kind = ap (λ (x : Turn). kind_number x.kind) w.answer;
          queue_len = ap (λ (x : Turn). x.lengths.queue) w.answer ∙ omega (arith, waits);
          detector_len = ap (λ (x : Turn). x.lengths.detector) w.answer ∙ omega (arith, marks, length-append (pairs_in dl d) (pair (get_or q 0 0) (side_of tb) ∷ []));
        })
      where
        go : (m f : Bool) → (m || f) ≡ false → (m ≡ true → ⊥) × (f ≡ true → ⊥)
        go false false h = (λ x. true≢false (sym x), λ x. true≢false (sym x))
        go false true h = absurd (true≢false h)
        go true f h = absurd (true≢false h)

        stopped : is_marked (get_or q 0 0) tb (pairs_in dl d) ≡ true → ⊥
        stopped = (go (is_marked (get_or q 0 0) tb (pairs_in dl d)) (leb room dl) go_on).0

        full : room ≤ length s.marked → ⊥
        full l = (go (is_marked (get_or q 0 0) tb (pairs_in dl d)) (leb room dl) go_on).1 (borrow.Author.Tests.le-leb room dl (omega (arith, marks)))

        pushed : entry (get_or t (2 * i) 0) (get_or t (2 * i + 1) 0) (1 - b) ≡ record { key = (cell_at s.tables tb i).key; value = (cell_at s.tables tb i).value; side = side_of (other tb) }
        pushed = ap (λ k. entry (get_or t (2 * i) 0) (get_or t (2 * i + 1) 0) k) (sym (side_other code)) ∙ ap (λ (c : Cell). entry c.key c.value (side_of (other tb))) (sym here)

-- a step that goes on has room for one mark more
pub has_room : (room y dl : ℕ) (b : Table) (d : List ℕ) → length d ≡ 2 * room → (is_marked y b (pairs_in dl d) || leb room dl) ≡ false → 2 * dl + 1 < length d
has_room room y dl b d e h = go (is_marked y b (pairs_in dl d)) (leb room dl) refl h
  where
    or_true : (m : Bool) → (m || true) ≡ true
    or_true true = refl
    or_true false = refl

    go : (m f : Bool) → leb room dl ≡ f → (m || f) ≡ false → 2 * dl + 1 < length d
    go m true x h = absurd (true≢false (sym (or_true m) ∙ h))
    go m false x h = omega (arith, leb-false room dl x)
