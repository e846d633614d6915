-- What the three kinds of step ask of the words, and what they leave. Assumes nothing.
use Rattle.std.specs.Prelude.{ℕ, ◌+◌, ◌-◌, ◌*◌, ◌≤◌, ◌≡◌, List, [], ◌∷◌, ◌++◌, length, get_or, drop}
use Rattle.std.proofs.lemmas.List.Edits.{sets}
use Rattle.rules.specs.Store.{Entry, Pair}
use Rattle.layout.specs.Memory.{entries_in, pairs_in}
use Rattle.layout.specs.Forms.{entry_form, pair_form, packed}
use Rattle.kinds.specs.declared.Turn.{Turn}
use Rattle.kinds.specs.declared.Kind.{Kind}
use Rattle.kinds.specs.declared.Kind.TheVariants.{Lands, SetsAside, Moves}

abbrev pub entry : ℕ → ℕ → ℕ → Entry
entry k v s = record { key = k; value = v; side = s }

abbrev pub pair : ℕ → ℕ → Pair
pair k s = record { key = k; side = s }

abbrev pub turn : Kind → ℕ → ℕ → Turn
turn kind ql dl = record { kind = kind; lengths = record { detector = dl; queue = ql } }

-- the number of a kind
abbrev pub kind_number : Kind → ℕ
kind_number Lands = 1
kind_number SetsAside = 2
kind_number Moves = 3

-- queue and detector hold their entries and pairs, and zeros behind them
pub record Ready (ql dl : ℕ) (q d : List ℕ) : Type 0 where
  pub queue_in : 3 * ql ≤ length q
  pub queue_small : length q ≤ 192
  pub detector_in : 2 * dl ≤ length d
  pub detector_small : length d ≤ 256
  pub queue : q ≡ packed entry_form (length q) (entries_in ql q)
  pub detector : d ≡ packed pair_form (length d) (pairs_in dl d)

-- kind 1
pub record Landed (i y v ql : ℕ) (t q d t' q' d' : List ℕ) (a : Turn) : Type 0 where
  pub table : t' ≡ sets t (2 * i) (y ∷ v ∷ [])
  pub queue : q' ≡ packed entry_form (length q) (drop 1 (entries_in ql q))
  pub detector : d' ≡ packed pair_form (length d) []
  pub answer : a ≡ turn Lands (ql - 1) 0

-- kind 2
pub record Aside (y v b ql : ℕ) (q d q' d' : List ℕ) (a : Turn) : Type 0 where
  pub queue : q' ≡ packed entry_form (length q) (drop 1 (entries_in ql q) ++ entry y v b ∷ [])
  pub detector : d' ≡ packed pair_form (length d) []
  pub answer : a ≡ turn SetsAside ql 0

-- kind 3
pub record Swapped (i y v b ql dl : ℕ) (t q d t' q' d' : List ℕ) (a : Turn) : Type 0 where
  pub table : t' ≡ sets t (2 * i) (y ∷ v ∷ [])
  pub queue : q' ≡ packed entry_form (length q) (entry (get_or t (2 * i) 0) (get_or t (2 * i + 1) 0) (1 - b) ∷ drop 1 (entries_in ql q))
  pub detector : d' ≡ packed pair_form (length d) (pairs_in dl d ++ pair y b ∷ [])
  pub answer : a ≡ turn Moves ql (dl + 1)
