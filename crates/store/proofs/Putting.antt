-- Change: a value put into the words is the value put into the store; sizes, and zeros past the lengths, stay. Assumes nothing.
use Prim.Native.Nat.{ℕ, suc, ◌+◌, ◌*◌, ◌≤◌, ◌<◌}
use mathlib.Core.Path.{◌≡◌, refl, sym, ◌∙◌, ap}
use mathlib.Core.Bool.{true}
use mathlib.Core.List.{List}
use native.Mathlib.Omega.{arith}
use native.Mathlib.Numerals.{add-one}
use lib.ListN.{length, get_or, set, drop, length-set}
use lib.Seq.{get_or-drop, get_or-set_other, set-get_or}
use Rattle.rules.specs.Store.{table_0, table_1, Cell, free_cell, Entry, store}
use Rattle.rules.specs.Search.{Place, in_table, waiting_at, nowhere, no_entry, entry_at}
use Rattle.rules.specs.Calls.{with_entry_value, with_value}
use Rattle.layout.specs.Forms.{cell_form, entry_form}
use Rattle.layout.proofs.Forms.{cell_lawful, entry_lawful, read_at, read_set}
use Rattle.store.specs.declared.Control.{Control}
use Rattle.layout.specs.Memory.{Lent, cells_in, entries_in}
use Rattle.store.specs.Memory.{setup_of, store_of}
use Rattle.changing.specs.Change.{put_value}
use Rattle.store.specs.Refusals.{sized_in}
use Rattle.faults.proofs.Accepted.{Sizes}

abbrev cell : ℕ → ℕ → Cell
cell k v = record { key = k; value = v }

-- a word behind a place
word_behind : (l : List ℕ) (i k j : ℕ) → i + k ≡ j → get_or (drop i l) k 0 ≡ get_or l j 0
word_behind l i k j e = get_or-drop i l k 0 ∙ ap (λ n. get_or l n 0) e

-- a value put into a table's words
pub put_in_cell : (r i v : ℕ) (t : List ℕ) → i < r → 2 * r ≤ length t → cells_in r (set t (2 * i + 1) v) ≡ set (cells_in r t) i (cell (get_or (cells_in r t) i free_cell).key v)
put_in_cell r i v t h l =
    let key : (get_or (cells_in r t) i free_cell).key ≡ get_or t (2 * i) 0 = ap (λ (c : Cell). c.key) (read_at cell_form r i t free_cell h) ∙ word_behind t (2 * i) 0 (2 * i) (omega arith) in
    ap (λ k. cells_in r (set t k v)) (add-one (2 * i))
    ∙ ap (λ ws. cells_in r (set ws (suc (2 * i)) v)) (sym (set-get_or t (2 * i) 0))
    ∙ read_set cell_form cell_lawful r i t (cell (get_or t (2 * i) 0) v) h l
    ∙ ap (λ k. set (cells_in r t) i (cell k v)) (sym key)

-- a value put into the queue's words
pub put_in_entry : (n j v : ℕ) (q : List ℕ) → j < n → 3 * n ≤ length q → entries_in n (set q (3 * j + 1) v) ≡ with_entry_value (entries_in n q) j v
put_in_entry n j v q h l =
    let at = read_at entry_form n j q no_entry h in
    let key : (entry_at (entries_in n q) j).key ≡ get_or q (3 * j) 0 = ap (λ (e : Entry). e.key) at ∙ word_behind q (3 * j) 0 (3 * j) (omega arith) in
    let side : (entry_at (entries_in n q) j).side ≡ get_or q (suc (suc (3 * j))) 0 = ap (λ (e : Entry). e.side) at ∙ word_behind q (3 * j) 2 (suc (suc (3 * j))) (omega arith) in
    let put : List ℕ = set q (suc (3 * j)) v in
    let still : get_or put (suc (suc (3 * j))) 0 ≡ get_or q (suc (suc (3 * j))) 0 = get_or-set_other q (suc (3 * j)) (suc (suc (3 * j))) v 0 (λ e. omega arith) in
    ap (λ k. entries_in n (set q k v)) (add-one (3 * j))
    ∙ ap (entries_in n) (sym (set-get_or put (suc (suc (3 * j))) 0))
    ∙ ap (λ k. entries_in n (set put (suc (suc (3 * j))) k)) still
    ∙ ap (λ ws. entries_in n (set (set ws (suc (3 * j)) v) (suc (suc (3 * j))) (get_or q (suc (suc (3 * j))) 0))) (sym (set-get_or q (3 * j) 0))
    ∙ read_set entry_form entry_lawful n j q (record { key = get_or q (3 * j) 0; value = v; side = get_or q (suc (suc (3 * j))) 0 }) h l
    ∙ (λ i. set (entries_in n q) j (record { key = sym key i; value = v; side = sym side i }))

-- a place within the record's tables and the waiting entries
abbrev pub Inside : Control → Place → Type 0
Inside c (in_table t i) = i < c.r
Inside c (waiting_at j) = j < c.queue_len
Inside c nowhere = Unit {0}

module _ (c : Control) (m : Lent) (v : ℕ) where
  -- the words hold the store with the value replaced
  pub put_store : Sizes (setup_of c) (length m.table0) (length m.table1) (length m.queue) (length m.detector) → c.queue_len ≤ c.queue_room
      → (p : Place) → Inside c p → store_of c (put_value p v m) ≡ with_value p v (store_of c m)
  put_store sizes fits (in_table table_0 i) h =
      ap (λ cs. store (record { table0 = cs; table1 = cells_in c.r m.table1 }) (store_of c m).waiting (store_of c m).marked) (put_in_cell c.r i v m.table0 h (omega (arith, sizes.first)))
  put_store sizes fits (in_table table_1 i) h =
      ap (λ cs. store (record { table0 = cells_in c.r m.table0; table1 = cs }) (store_of c m).waiting (store_of c m).marked) (put_in_cell c.r i v m.table1 h (omega (arith, sizes.second)))
  put_store sizes fits (waiting_at j) h =
      ap (λ es. store (store_of c m).tables es (store_of c m).marked) (put_in_entry c.queue_len j v m.queue h (omega (arith, sizes.queue)))
  put_store sizes fits nowhere h = refl

  pub put_sized : (p : Place) → sized_in c m ≡ true → sized_in c (put_value p v m) ≡ true
  put_sized (in_table table_0 i) e = simp length-set e
  put_sized (in_table table_1 i) e = simp length-set e
  put_sized (waiting_at j) e = simp length-set e
  put_sized nowhere e = e

  -- past the lengths nothing is put
  pub put_behind : (p : Place) → Inside c p → (i : ℕ) → 3 * c.queue_len ≤ i → get_or (put_value p v m).queue i 0 ≡ get_or m.queue i 0
  put_behind (in_table table_0 i) h k l = refl
  put_behind (in_table table_1 i) h k l = refl
  put_behind (waiting_at j) h k l = get_or-set_other m.queue (3 * j + 1) k v 0 (λ e. omega arith)
  put_behind nowhere h k l = refl

  pub put_detector : (p : Place) → (put_value p v m).detector ≡ m.detector
  put_detector (in_table table_0 i) = refl
  put_detector (in_table table_1 i) = refl
  put_detector (waiting_at j) = refl
  put_detector nowhere = refl
