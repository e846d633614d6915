-- Laws of the test of queue and detector: a key that waits, and all entries or pairs by those from place j on. Assumes nothing.
use Prim.Native.Nat.{ℕ, zero, suc, ◌+◌, ◌-◌, ◌*◌, ◌≤◌, ◌<◌}
use mathlib.Core.Path.{◌≡◌, refl, sym, ap, ◌∙◌}
use mathlib.Core.Bool.{Bool, true, false, not, cond, ◌&&◌, ◌||◌}
use mathlib.Core.List.{List, [], ◌∷◌}
use native.Mathlib.Omega.{arith}
use Rattle.std.specs.Prelude.{Option, Some, None, is_some}
use Rattle.std.specs.List.{list_all, range_with_len}
use native.Mathlib.Nat.{add-zero}
use lib.Dec.{eqb, leb}
use lib.ListN.{length, get_or, take, drop, length-drop}
use lib.Seq.{get_or-drop, take_all}
use Rattle.numbers.specs.Ranges.{good_key}
use Rattle.rules.specs.Store.{meant, Entry, Pair, Tables, Numbers}
use Rattle.rules.specs.Step.{is_marked}
use Rattle.rules.specs.Search.{Place, in_table, waiting_at, nowhere, search_queue}
use Rattle.rules.specs.Check.{waits_in, entry_ok, queue_ok, marks_ok}
use Rattle.layout.specs.Memory.{entries_in, pairs_in}
use Rattle.layout.specs.Forms.{entry_form, pair_form, read_many}
use Rattle.layout.specs.Places.{place_in_queue, FirstPlace}
use Rattle.layout.proofs.Forms.{read_from, read_none}

-- whether a place is in the queue
abbrev in_queue : Place → Bool
in_queue (in_table t i) = false
in_queue (waiting_at j) = true
in_queue nowhere = false

-- a key waits exactly if the search finds it
found_waits : (x j : ℕ) (q : List Entry) → in_queue (search_queue j x q) ≡ waits_in x q
unfolding search_queue waits_in
found_waits x j [] = refl
found_waits x j (e ∷ q) = go (eqb e.key x) (found_waits x (suc j) q)
  where
    go : (t : Bool) → in_queue (search_queue (suc j) x q) ≡ waits_in x q → in_queue (cond t (waiting_at j) (search_queue (suc j) x q)) ≡ t || waits_in x q
    go true h = refl
    go false h = h

-- the words from place k on, as a slice is lent
pub rest_of : (k : ℕ) (ws : List ℕ) → take (length ws - k) (drop k ws) ≡ drop k ws
rest_of k ws = take_all (length ws - k) (drop k ws) (omega (arith, length-drop k ws))

pub waits : (x n k : ℕ) (place : Option ℕ) (ws : List ℕ) → FirstPlace x (read_many entry_form n (take (length ws - k) (drop k ws))) n place
    → is_some place ≡ waits_in x (read_many entry_form n (drop k ws))
waits x n k place ws w = go place ∙ ap in_queue w.place ∙ found_waits x 0 _ ∙ ap (λ vs. waits_in x (read_many entry_form n vs)) (rest_of k ws)
  where
    go : (found : Option ℕ) → is_some found ≡ in_queue (place_in_queue found)
    go None = refl
    go (Some i) = refl

-- the entry at place j, and the entries from there on
abbrev pub entry_of : List ℕ → ℕ → Entry
entry_of q j = record { key = get_or q (3 * j) 0; value = get_or q (3 * j + 1) 0; side = get_or q (3 * j + 2) 0 }

abbrev pub entries_from : ℕ → List ℕ → ℕ → List Entry
entries_from n q j = read_many entry_form (n - j) (drop (3 * j) q)

module _ (m : Numbers) (ts : Tables) (n : ℕ) (q : List ℕ) where
  -- the test of the entry at place j
  abbrev pub passes_at : ℕ → Bool
  passes_at j = entry_ok m ts (entry_of q j) (entries_from n q (j + 1))

  queue_step : (j : ℕ) → j < n → queue_ok m ts (entries_from n q j) ≡ passes_at j && queue_ok m ts (entries_from n q (j + 1))
  unfolding queue_ok
  queue_step j l = ap (queue_ok m ts) (read_from entry_form n j q l) ∙ simp (get_or-drop, add-zero)

  queue_end : (j : ℕ) → n ≤ j → queue_ok m ts (entries_from n q j) ≡ true
  unfolding queue_ok
  queue_end j l = ap (queue_ok m ts) (read_none entry_form n j (drop (3 * j) q) l)

  -- the entries from place j on pass exactly if each does
  each_entry : (k j : ℕ) → j + k ≡ n → list_all passes_at (range_with_len j k) ≡ queue_ok m ts (entries_from n q j)
  each_entry zero j e = sym (queue_end j (omega arith))
  each_entry (suc k) j e = ap (λ b. passes_at j && b) (each_entry k (j + 1) (omega arith)) ∙ sym (queue_step j (omega arith))

  pub all_entries : list_all passes_at (range_with_len 0 n) ≡ queue_ok m ts (entries_in n q)
  all_entries = let e : n - 0 ≡ n = omega arith in each_entry n 0 (omega arith) ∙ ap (λ k. queue_ok m ts (read_many entry_form k q)) e

-- the pairs from place j on
abbrev pub pairs_from : ℕ → List ℕ → ℕ → List Pair
pairs_from n d j = read_many pair_form (n - j) (drop (2 * j) d)

module _ (n : ℕ) (d : List ℕ) where
  -- the test of the pair at place j
  abbrev pub pair_passes : ℕ → Bool
  pair_passes j =
      good_key (get_or d (2 * j) 0) && leb (get_or d (2 * j + 1) 0) 1
      && not (is_marked (get_or d (2 * j) 0) (meant (get_or d (2 * j + 1) 0)) (pairs_from n d (j + 1)))

  marks-step : (j : ℕ) → j < n → marks_ok (pairs_from n d j) ≡ pair_passes j && marks_ok (pairs_from n d (j + 1))
  unfolding marks_ok
  marks-step j l = ap marks_ok (read_from pair_form n j d l) ∙ simp (get_or-drop, add-zero)

  marks_end : (j : ℕ) → n ≤ j → marks_ok (pairs_from n d j) ≡ true
  unfolding marks_ok
  marks_end j l = ap marks_ok (read_none pair_form n j (drop (2 * j) d) l)

  -- the pairs from place j on pass exactly if each does
  each_pair : (k j : ℕ) → j + k ≡ n → list_all pair_passes (range_with_len j k) ≡ marks_ok (pairs_from n d j)
  each_pair zero j e = sym (marks_end j (omega arith))
  each_pair (suc k) j e = ap (λ b. pair_passes j && b) (each_pair k (j + 1) (omega arith)) ∙ sym (marks-step j (omega arith))

  pub all_pairs : list_all pair_passes (range_with_len 0 n) ≡ marks_ok (pairs_in n d)
  all_pairs = let e : n - 0 ≡ n = omega arith in each_pair n 0 (omega arith) ∙ ap (λ k. marks_ok (read_many pair_form k d)) e
