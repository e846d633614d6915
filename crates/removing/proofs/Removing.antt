-- Remove: one entry gone from packed words, and the cases of remove by the place that the search answers. Assumes nothing.
use Prim.Native.Nat.{ℕ, zero, suc, ◌+◌, ◌-◌, ◌*◌, ◌≤◌, ◌<◌}
use mathlib.Core.Path.{◌≡◌, refl, sym, ap, ◌∙◌}
use mathlib.Core.Bool.{Bool, true, false, not, true≢false}
use mathlib.Core.List.{List, [], ◌∷◌, ◌++◌}
use mathlib.Core.Option.{some}
use native.Mathlib.Omega.{arith}
use lib.ListN.{length, get_or, set, take, drop}
use lib.Seq.{sets, split_at, length-take-le, get_or-drop}
use Rattle.numbers.specs.Ranges.{good_key}
use Rattle.words.specs.Words.{closed}
use Rattle.rules.specs.Store.{table_0, table_1, Cell, free_cell, Entry, Store, Numbers}
use Rattle.rules.specs.Search.{Place as RulesPlace, in_table, waiting_at, nowhere, search, no_entry, entry_at, value_at, lookup}
use Rattle.rules.specs.Calls.{answer, refused, accepted, refuse_if, or_refuse7, drop_at, without, remove}
use Rattle.layout.specs.Forms.{cell_form, entry_form, pair_form, write_many, packed}
use Rattle.layout.proofs.Forms.{cell_lawful, entry_lawful, length-read_many, read_at, write_all, write_set}
use Rattle.layout.proofs.Packed.{packed_close}
use Rattle.steps.proofs.InTable.{cell_read}
use Rattle.layout.specs.Memory.{Lent, lent, words_in, Tidied, cells_in, entries_in, pairs_in}
use Rattle.numbers.specs.declared.Rooms.{Rooms}
use Rattle.numbers.specs.declared.Setup.{Setup}
use Rattle.finding.specs.declared.Place.TheVariants.{Table0, Table1, Waiting, Nowhere}
use Rattle.finding.specs.Inner.{numbers_of, store_of, with_lens, answered, Outcome, outcome, leaves, RoomsFit, FitIn, Located, Told}
use Rattle.removing.specs.Gone.{CellGone, EntryGone}

-- those before an entry and those behind it
dropped : (es : List Entry) (j : ℕ) → j < length es → drop_at es j ≡ take j es ++ drop (suc j) es
dropped [] j h = absurd (omega arith)
dropped (e ∷ es) zero h = refl
dropped (e ∷ es) (suc j) h = ap (λ l. e ∷ l) (dropped es j (omega arith))

dropped_length : (es : List Entry) (j : ℕ) → j < length es → length (drop_at es j) + 1 ≡ length es
dropped_length [] j h = absurd (omega arith)
dropped_length (e ∷ es) zero h = omega arith
dropped_length (e ∷ es) (suc j) h = omega (arith, dropped_length es j (omega arith))

entry_closed : (room n j : ℕ) (es : List Entry) → length es ≡ n → j < n → 3 * n ≤ room
    → closed (3 * j) 3 (3 * n) (packed entry_form room es) ≡ packed entry_form room (drop_at es j)
entry_closed room n j es e h fits =
    let l : List Entry = take j es in
    let m : List Entry = drop (suc j) es in
    let a : Entry = entry_at es j in
    let k : j < length es = omega arith in
    let whole : es ≡ l ++ a ∷ m = split_at es j no_entry k in
    let first : length l ≡ j = length-take-le j es (omega arith) in
    let all : length (l ++ a ∷ m) ≡ n = ap length (sym whole) ∙ e in
    (λ i. closed (3 * sym first i) 3 (3 * sym all i) (packed entry_form room (whole i)))
    ∙ packed_close entry_form entry_lawful room l m a (omega arith)
    ∙ ap (packed entry_form room) (sym (dropped es j k))

-- the words tidied, then the entry's gap closed
pub entry_gone : (c : Rooms) (j : ℕ) (q d q₁ d' q' : List ℕ) {a : Told} → j < c.lengths.queue → RoomsFit c (length q) (length d) → Tidied c.lengths.queue c.lengths.detector q d q₁ d'
    → q' ≡ closed (3 * j) 3 (3 * c.lengths.queue) q₁ → a ≡ answered (with_lens c (c.lengths.queue - 1) c.lengths.detector) (answer 0 (get_or q (3 * j + 1) 0) 0 0)
    → EntryGone c j q d q' d' a
entry_gone c j q d q₁ d' q' h w t e is = record {
  queue = e ∙ ap (closed (3 * j) 3 (3 * c.lengths.queue)) t.queue
      ∙ entry_closed (length q) c.lengths.queue j (entries_in c.lengths.queue q) (length-read_many entry_form c.lengths.queue q) h (omega arith);
  detector = t.detector;
  answer = is;
}

-- remove, by the place that the search answers
module _ (n : Numbers) (x : ℕ) (s : Store) where
  remove_bad : good_key x ≡ false → remove n x s ≡ refused 4 0 s
  unfolding remove
  remove_bad bad = ap (λ b. refuse_if (not b) 4 s (or_refuse7 (lookup n x s) s (without (search n x s) s))) bad

  module _ (good : good_key x ≡ true) where
    remove_by : (p : RulesPlace) → search n x s ≡ p → remove n x s ≡ or_refuse7 (value_at p s) s (without p s)
    unfolding remove lookup
    remove_by p e =
        ap (λ b. refuse_if (not b) 4 s (or_refuse7 (lookup n x s) s (without (search n x s) s))) good
        ∙ ap (λ k. or_refuse7 (value_at k s) s (without k s)) e

    remove_at : (p : RulesPlace) (u : ℕ) → search n x s ≡ p → value_at p s ≡ some u → remove n x s ≡ accepted u (without p s)
    remove_at p u e is = remove_by p e ∙ ap (λ o. or_refuse7 o s (without p s)) is

-- what the code's test of the key says
pub bad_key : (k : Bool) {b : Bool} → k ≡ b → not k ≡ true → b ≡ false
bad_key false e h = sym e
bad_key true e h = absurd (true≢false (sym h))

pub good_key_lem : (k : Bool) {b : Bool} → k ≡ b → not k ≡ false → b ≡ true
good_key_lem true e h = sym e
good_key_lem false e h = absurd (true≢false h)

-- the same of words
cell_written : (r i : ℕ) (t : List ℕ) → length t ≡ 2 * r → i < r → sets t (2 * i) (0 ∷ 0 ∷ []) ≡ write_many cell_form (set (cells_in r t) i free_cell)
cell_written r i t size h =
    ap (λ ws. sets ws (2 * i) (0 ∷ 0 ∷ [])) (sym (write_all cell_form cell_lawful r t size))
    ∙ sym (write_set cell_form cell_lawful (cells_in r t) i free_cell (omega (arith, length-read_many cell_form r t)))

entry_value : (ql j : ℕ) (q : List ℕ) → j < ql → (entry_at (entries_in ql q) j).value ≡ get_or q (3 * j + 1) 0
entry_value ql j q h = ap (λ (e : Entry). e.value) (read_at entry_form ql j q no_entry h) ∙ simp get_or-drop

module _ (setup : Setup) (x : ℕ) (m : Lent) where
  abbrev t0 : List ℕ
  t0 = m.table0

  abbrev t1 : List ℕ
  t1 = m.table1

  abbrev q : List ℕ
  q = m.queue

  abbrev d : List ℕ
  d = m.detector

  abbrev s : Store
  s = store_of setup m

  abbrev Removes : Outcome → Type 0
  Removes o = o ≡ leaves setup.rooms m (remove (numbers_of setup) x s)

  pub refuses_bad : good_key x ≡ false → Removes (outcome m (answered setup.rooms (answer 4 0 0 0)))
  unfolding leaves
  refuses_bad bad = sym (ap (leaves setup.rooms m) (remove_bad (numbers_of setup) x s bad))

  module _ (good : good_key x ≡ true) where
    pub refuses_absent : Located setup x m Nowhere → Removes (outcome m (answered setup.rooms (answer 7 0 0 0)))
    unfolding leaves
    refuses_absent l = sym (ap (leaves setup.rooms m) (remove_by (numbers_of setup) x s good nowhere (sym l.is)))

    module _ (fit : FitIn setup m) where
      waits : setup.rooms.lengths.queue ≡ length (entries_in setup.rooms.lengths.queue q)
      waits = sym (length-read_many entry_form setup.rooms.lengths.queue q)

      -- each of the words, and the record
      removes : (p : RulesPlace) (u ql : ℕ) {t0' t1' q' d' : List ℕ} {a : Told} → p ≡ search (numbers_of setup) x s → value_at p s ≡ some u
          → t0' ≡ write_many cell_form (without p s).tables.table0 → t1' ≡ write_many cell_form (without p s).tables.table1
          → q' ≡ packed entry_form (length q) (without p s).waiting → d' ≡ packed pair_form (length d) (without p s).marked
          → ql ≡ length (without p s).waiting → setup.rooms.lengths.detector ≡ length (without p s).marked
          → a ≡ answered (with_lens setup.rooms ql setup.rooms.lengths.detector) (answer 0 u 0 0) → Removes (outcome (lent t0' t1' q' d') a)
      unfolding leaves words_in
      removes p u ql is value e0 e1 eq ed lq ld ea =
          let fq = eq ∙ ap (λ k. packed entry_form k (without p s).waiting) fit.rooms.queue in
          let fd = ed ∙ ap (λ k. packed pair_form k (without p s).marked) fit.rooms.detector in
          let fa = ea ∙ (λ i. answered (with_lens setup.rooms (lq i) (ld i)) (answer 0 u 0 0)) in
          (λ i. outcome (lent (e0 i) (e1 i) (fq i) (fd i)) (fa i))
          ∙ sym (ap (leaves setup.rooms m) (remove_at (numbers_of setup) x s good p u (sym is) value))

      marks : setup.rooms.lengths.detector ≡ length (pairs_in setup.rooms.lengths.detector d)
      marks = sym (length-read_many pair_form setup.rooms.lengths.detector d)

      module _ {i : ℕ} {t' q' d' : List ℕ} {a : Told} where
        pub removes_first : Located setup x m (Table0 i) → CellGone setup.rooms i t0 q d t' q' d' a → Removes (outcome (lent t' t1 q' d') a)
        removes_first l g =
            removes (in_table table_0 i) (get_or t0 (2 * i + 1) 0) setup.rooms.lengths.queue l.is
            (ap (λ (k : Cell). some k.value) (cell_read setup.functions.r i t0 l.within))
            (g.table ∙ cell_written setup.functions.r i t0 fit.first l.within) (sym (write_all cell_form cell_lawful setup.functions.r t1 fit.second))
            g.tidied.queue g.tidied.detector waits marks g.answer

        pub removes_second : Located setup x m (Table1 i) → CellGone setup.rooms i t1 q d t' q' d' a → Removes (outcome (lent t0 t' q' d') a)
        removes_second l g =
            removes (in_table table_1 i) (get_or t1 (2 * i + 1) 0) setup.rooms.lengths.queue l.is
            (ap (λ (k : Cell). some k.value) (cell_read setup.functions.r i t1 l.within))
            (sym (write_all cell_form cell_lawful setup.functions.r t0 fit.first)) (g.table ∙ cell_written setup.functions.r i t1 fit.second l.within)
            g.tidied.queue g.tidied.detector waits marks g.answer

      pub removes_waiting : {j : ℕ} {q' d' : List ℕ} {a : Told} → Located setup x m (Waiting j) → EntryGone setup.rooms j q d q' d' a
          → Removes (outcome (lent t0 t1 q' d') a)
      removes_waiting {j} l g =
          removes (waiting_at j) (get_or q (3 * j + 1) 0) (setup.rooms.lengths.queue - 1) l.is (ap some (entry_value setup.rooms.lengths.queue j q l.within))
          (sym (write_all cell_form cell_lawful setup.functions.r t0 fit.first)) (sym (write_all cell_form cell_lawful setup.functions.r t1 fit.second))
          g.queue g.detector
          (let h : j < setup.rooms.lengths.queue = l.within in omega (
            arith,
            waits,
            dropped_length (entries_in setup.rooms.lengths.queue q) j (omega (arith, waits)),
          ))
          marks g.answer
