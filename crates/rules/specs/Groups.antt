-- Document 01, groups: "Two present keys are in one group if they share a cell, directly or through other present keys." Over any two functions
-- and any list of keys. Assumes nothing.
use Rattle.std.specs.Prelude.{◌≡◌, Bool, ◌&&◌, List, ◌++◌, map, ℕ, eqb}
use Rattle.lists.specs.Lists.{◌∈◌, NoDup, each_once}
use Rattle.rules.specs.Store.{Table, table_0, table_1, same_table}

-- a number with a table: a cell by its place in the table, or a key that heads for the table
abbrev pub Sided : Type 0
Sided = ℕ × Table

-- the same number and the same table
abbrev pub same_sided : Sided → Sided → Bool
same_sided p q = eqb p.0 q.0 && same_table p.1 q.1

module _ (home : Table → ℕ → ℕ) where
  -- the cell of table t that is the home of key k
  abbrev pub home_cell : Table → ℕ → Sided
  home_cell t k = (home t k, t)

  -- "they share a cell"
  abbrev pub Shares : ℕ → ℕ → Type 0
  Shares x y = (t : Table) × (home_cell t x ≡ home_cell t y)

  -- "directly or through other present keys"
  pub data Linked (keys : List ℕ) (x : ℕ) : ℕ → Type 0 where
    itself : Linked keys x x
    link : {y z : ℕ} → Linked keys x y → y ∈ keys → z ∈ keys → Shares y z → Linked keys x z

  -- G lists each key of x's group once
  pub record IsGroup (keys : List ℕ) (x : ℕ) (G : List ℕ) : Type 0 where
    pub once : NoDup G
    pub linked : (z : ℕ) → z ∈ G → (z ∈ keys) × Linked keys x z
    pub whole : (z : ℕ) → z ∈ keys → Linked keys x z → z ∈ G

  -- "The group's cells are all homes of its keys", each cell once
  unfoldable pub cells_of : List ℕ → List Sided
  cells_of G = each_once same_sided (map (home_cell table_0) G ++ map (home_cell table_1) G)

-- every key of a list has a group
abbrev pub EveryKeyHasAGroup : Type 0
EveryKeyHasAGroup = (home : Table → ℕ → ℕ) (keys : List ℕ) (x : ℕ) → x ∈ keys → (G : List ℕ) × IsGroup home keys x G
