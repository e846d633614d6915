-- Laws of the searches: a side compared, and a search through pairs or entries that goes on from place i. Assumes nothing.
use Prim.Native.Nat.{ℕ, ◌+◌, ◌-◌, ◌*◌, ◌≤◌, ◌<◌}
use mathlib.Core.Path.{◌≡◌, ap, ◌∙◌}
use mathlib.Core.Bool.{Bool, true, false, cond, ◌&&◌, ◌||◌}
use mathlib.Core.List.{List}
use native.Mathlib.Nat.{add-zero}
use native.Mathlib.Numerals.{add-one}
use borrow.Author.Tests.{eq-eqb, ne_eqb}
use lib.Dec.{eqb}
use lib.ListN.{get_or, drop}
use lib.Seq.{get_or-drop}
use Rattle.rules.specs.Store.{Table, same_table, meant, Entry, Pair}
use Rattle.rules.specs.Step.{is_marked}
use Rattle.rules.specs.Search.{waiting_at, nowhere, search_queue}
use Rattle.layout.specs.Forms.{entry_form, pair_form, read_many}
use Rattle.layout.proofs.Forms.{read_from, read_none}

-- the pairs, and the entries, from place i on
abbrev pub pairs_from : List ℕ → ℕ → ℕ → List Pair
pairs_from ws n i = read_many pair_form (n - i) (drop (2 * i) ws)

abbrev pub entries_from : List ℕ → ℕ → ℕ → List Entry
entries_from ws n i = read_many entry_form (n - i) (drop (3 * i) ws)

-- the test of the pair at place i
abbrev pub pair_test : ℕ → Table → List ℕ → ℕ → Bool
pair_test y t ws i = eqb (get_or ws (2 * i) 0) y && same_table (meant (get_or ws (2 * i + 1) 0)) t

module _ (y : ℕ) (b : Table) (ws : List ℕ) (n i : ℕ) where
  marked_step : i < n → is_marked y b (pairs_from ws n i) ≡ pair_test y b ws i || is_marked y b (pairs_from ws n (i + 1))
  unfolding is_marked
  marked_step h = ap (is_marked y b) (read_from pair_form n i ws h) ∙ simp (get_or-drop, add-zero)

  pub marked_here : i < n → pair_test y b ws i ≡ true → is_marked y b (pairs_from ws n i) ≡ true
  marked_here h t = simp t at (marked_step h)

  pub marked_past : i < n → pair_test y b ws i ≡ false → is_marked y b (pairs_from ws n i) ≡ is_marked y b (pairs_from ws n (i + 1))
  marked_past h t = simp t at (marked_step h)

  pub marked_end : n ≤ i → is_marked y b (pairs_from ws n i) ≡ false
  unfolding is_marked
  marked_end h = ap (is_marked y b) (read_none pair_form n i (drop (2 * i) ws) h)

module _ (x : ℕ) (ws : List ℕ) (n i : ℕ) where
  place_step : i < n
      → search_queue i x (entries_from ws n i) ≡ cond (eqb (get_or ws (3 * i) 0) x) (waiting_at i) (search_queue (i + 1) x (entries_from ws n (i + 1)))
  unfolding search_queue
  place_step h = ap (search_queue i x) (read_from entry_form n i ws h) ∙ simp (get_or-drop, add-zero, add-one)

  pub place_here : i < n → get_or ws (3 * i) 0 ≡ x → search_queue i x (entries_from ws n i) ≡ waiting_at i
  place_here h e = simp (eq-eqb _ _ e) at (place_step h)

  pub place_past : i < n → (get_or ws (3 * i) 0 ≡ x → ⊥) → search_queue i x (entries_from ws n i) ≡ search_queue (i + 1) x (entries_from ws n (i + 1))
  place_past h e = simp (ne_eqb _ _ e) at (place_step h)

  pub place_end : n ≤ i → search_queue i x (entries_from ws n i) ≡ nowhere
  unfolding search_queue
  place_end h = ap (search_queue i x) (read_none entry_form n i (drop (3 * i) ws) h)
