-- Demand 3, over records and words as settle calls give them back. The claims. Assumes nothing.
use Rattle.std.specs.Prelude.{ℕ, ◌+◌, ◌*◌, ◌≤◌, ◌<◌, ◌≡◌, ◌≢◌, List, [], ◌∷◌, length}
use Rattle.rules.specs.Sound.{present}
use Rattle.rules.specs.Groups.{IsGroup, cells_of}
use Rattle.rules.specs.Demand3.{granted, GroupsFit}
use Rattle.store.specs.declared.Control.{Control}
use Rattle.layout.specs.Memory.{Lent}
use Rattle.store.specs.Memory.{numbers_of, store_of}
use Rattle.store.specs.Calls.{settled}
use Rattle.store.specs.Sound.{SoundIn}
use Rattle.store.specs.Demand2.{Held, given}

-- settle calls, one after another: the record and words given on, and the steps answered in all
unfoldable pub settle_all : List ℕ → Held → Held
settle_all [] h = h
settle_all (b ∷ budgets) h = settle_all budgets (given (settled h.control b h.lent))

unfoldable pub steps_in_all : List ℕ → Held → ℕ
steps_in_all [] h = 0
steps_in_all (b ∷ budgets) h = (settled h.control b h.lent).answer.steps + steps_in_all budgets (given (settled h.control b h.lent))

-- "(q+1)·D", with q keys waiting
abbrev pub bound : Control → ℕ
bound c = (c.queue_len + 1) * c.detector_room

abbrev pub start : Control → Lent → Held
start c m = record { control = c; lent = m }

pub record Settles (c : Control) (m : Lent) : Type 0 where
  pub empties : (budgets : List ℕ) → bound c ≤ granted (numbers_of c) budgets → (settle_all budgets (start c m)).control.queue_len ≡ 0
  pub within : (budgets : List ℕ) → steps_in_all budgets (start c m) ≤ bound c
  pub calls_exist : (budgets : List ℕ) × (bound c ≤ granted (numbers_of c) budgets)

abbrev pub Demand3 : Type 0
Demand3 = (c : Control) (m : Lent) → SoundIn c m → GroupsFit (numbers_of c) (store_of c m) → Settles c m

-- "If some group has more keys than cells, no settling ever empties it."
abbrev pub Demand3Converse : Type 0
Demand3Converse =
    (c : Control) (m : Lent) → SoundIn c m
    → (x : ℕ) (G : List ℕ) → IsGroup (numbers_of c).home (present (store_of c m)) x G → length (cells_of (numbers_of c).home G) < length G
    → (budgets : List ℕ) → (settle_all budgets (start c m)).control.queue_len ≢ 0
