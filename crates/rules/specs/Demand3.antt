-- Demand 3: when settling alone empties the queue. The claim, over any list of settle calls, any two functions into the cells, any D, and any sound
-- contents, whatever the detector holds. Assumes nothing.
use Rattle.std.specs.Prelude.{ℕ, ◌+◌, ◌*◌, ◌≤◌, ◌<◌, ◌≡◌, ◌≢◌, cond, List, [], ◌∷◌, leb, length}
use Rattle.lists.specs.Lists.{◌∈◌}
use Rattle.rules.specs.Store.{Store, Numbers, IntoCells}
use Rattle.rules.specs.Calls.{settle}
use Rattle.rules.specs.Sound.{present, SoundContents}
use Rattle.rules.specs.Groups.{IsGroup, cells_of}

-- what settle calls leave, one after another, and the steps that they answer in all
unfoldable pub settle_all : Numbers → List ℕ → Store → Store
settle_all n [] s = s
settle_all n (b ∷ budgets) s = settle_all n budgets (settle n b s).store

unfoldable pub steps_in_all : Numbers → List ℕ → Store → ℕ
steps_in_all n [] s = 0
steps_in_all n (b ∷ budgets) s = (settle n b s).answer.steps + steps_in_all n budgets (settle n b s).store

-- the budgets added up; one above L is refused and adds nothing
unfoldable pub granted : Numbers → List ℕ → ℕ
granted n [] = 0
granted n (b ∷ budgets) = cond (leb b n.L) b 0 + granted n budgets

-- "(q+1)·D", with q keys waiting
abbrev pub bound : Numbers → Store → ℕ
bound n s = (length s.waiting + 1) * n.D

-- "no group of present keys has more keys than cells and none has more than D/2 keys"
abbrev pub GroupsFit : Numbers → Store → Type 0
GroupsFit n s =
    (x : ℕ) (G : List ℕ) → x ∈ present s → IsGroup n.home (present s) x G
    → (length G ≤ length (cells_of n.home G)) × (2 * length G ≤ n.D)

-- "settling alone empties the queue within (q+1)·D steps, over as many calls as it takes"
pub record Settles (n : Numbers) (s : Store) : Type 0 where
  pub empties : (budgets : List ℕ) → bound n s ≤ granted n budgets → (settle_all n budgets s).waiting ≡ []
  pub within : (budgets : List ℕ) → steps_in_all n budgets s ≤ bound n s
  pub calls_exist : 1 ≤ n.L → (budgets : List ℕ) × (bound n s ≤ granted n budgets)

abbrev pub Demand3 : Type 0
Demand3 = (n : Numbers) → IntoCells n → (s : Store) → SoundContents n s → GroupsFit n s → Settles n s

-- "If some group has more keys than cells, no settling ever empties it."
abbrev pub Demand3Converse : Type 0
Demand3Converse =
    (n : Numbers) → IntoCells n → (s : Store) → SoundContents n s
    → (x : ℕ) (G : List ℕ) → IsGroup n.home (present s) x G → length (cells_of n.home G) < length G
    → (budgets : List ℕ) → (settle_all n budgets s).waiting ≢ []
