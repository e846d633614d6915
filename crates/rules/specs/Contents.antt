-- Document 01, the keys "in the tables and the queue together", each with its value: "every key of a store, waiting ones too" (2026-01). Assumes nothing.
use Rattle.std.specs.Prelude.{ℕ, ◌≡◌, ◌↔◌, List, ◌++◌, map}
use Rattle.std.proofs.Math.Option.{some}
use Rattle.lists.specs.Lists.{◌∈◌}
use Rattle.rules.specs.Store.{Cell, Store, Numbers}
use Rattle.rules.specs.Step.{taken}
use Rattle.rules.specs.Search.{lookup}
use Rattle.rules.specs.Sound.{IsGood, occupied, present, SoundContents}

-- each key with its value, as they lie: in table 0, in table 1, then waiting
unfoldable pub contents : Store → List Cell
contents s = occupied s.tables.table0 ++ (occupied s.tables.table1 ++ map taken s.waiting)

-- its keys are the present ones
abbrev pub ContentsHaveThePresentKeys : Type 0
ContentsHaveThePresentKeys = (s : Store) → map (λ (c : Cell). c.key) (contents s) ≡ present s

-- a key has a value exactly if they stand there together
abbrev pub ContentsAreWhatIsFound : Type 0
ContentsAreWhatIsFound =
    (n : Numbers) (s : Store) → SoundContents n s → (k v : ℕ) → IsGood k → (lookup n k s ≡ some v) ↔ (record { key = k; value = v } ∈ contents s)
