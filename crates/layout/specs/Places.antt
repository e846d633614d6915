-- What a search through the queue's words answers. Assumes nothing.
use Rattle.std.specs.Prelude.{ℕ, ◌<◌, ◌≡◌, List, Option, Some, None}
use Rattle.rules.specs.Store.{Entry}
use Rattle.rules.specs.Search.{Place, waiting_at, nowhere, search_queue}

-- a place that a search of the queue answers, as a place of the rules
abbrev pub place_in_queue : Option ℕ → Place
place_in_queue (Some k) = waiting_at k
place_in_queue None = nowhere

-- a place, if any, is one of n
abbrev pub IsAmong : ℕ → Option ℕ → Type 0
IsAmong n (Some k) = k < n
IsAmong n None = Unit {0}

-- the place that the rules' search through these n entries answers
pub record FirstPlace (x : ℕ) (q : List Entry) (n : ℕ) (k : Option ℕ) : Type 0 where
  pub within : IsAmong n k
  pub place : place_in_queue k ≡ search_queue 0 x q
