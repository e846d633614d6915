-- Steps until a budget is spent or the queue is empty, with their true counts. Assumes nothing.
use Rattle.std.specs.Prelude.{ℕ, zero, suc, ◌+◌, Bool, true, false, cond, List, [], ◌∷◌, eqb}
use Rattle.rules.specs.Store.{Entry, Store, Numbers}
use Rattle.rules.specs.Step.{step}

-- what some steps leave, "the number of steps above that were done, and how many of them were of kind 3"
pub record Ran : Type 0 where
  pub store : Store
  pub steps : ℕ
  pub moves : ℕ

abbrev pub ran : Store → ℕ → ℕ → Ran
ran s steps moves = record { store = s; steps = steps; moves = moves }

abbrev pub is_empty : List Entry → Bool
is_empty [] = true
is_empty (e ∷ q) = false

-- "This step is a move": 1 for kind 3
abbrev pub as_move : ℕ → ℕ
as_move kind = cond (eqb kind 3) 1 0

-- a step and the steps after it, counted
abbrev pub counted : ℕ → Ran → Ran
counted kind r = ran r.store (suc r.steps) (as_move kind + r.moves)

-- "steps run until n are done or the queue is empty"
unfoldable pub run : Numbers → ℕ → Store → Ran
run n zero s = ran s 0 0
run n (suc budget) s = cond (is_empty s.waiting) (ran s 0 0) (counted (step n s).kind (run n budget (step n s).store))
