-- "most steps in one call", and that a refusal changes nothing. The claims, of every store, sound or not. Assumes nothing.
use Rattle.std.specs.Prelude.{◌≤◌, ◌≡◌, ◌≢◌}
use Rattle.rules.specs.Store.{Store, Numbers}
use Rattle.rules.specs.Calls.{Call, Outcome, does}

pub record Limited (n : Numbers) (o : Outcome) : Type 0 where
  pub steps_at_most_L : o.answer.steps ≤ n.L
  pub moves_at_most_steps : o.answer.moves ≤ o.answer.steps

abbrev pub CallsAreLimited : Type 0
CallsAreLimited = (n : Numbers) (call : Call) (s : Store) → Limited n (does n call s)

-- "All refusals answer steps 0 and moves 0, and no word of any buffer differs"; the table's column "Value": only 5 has one
pub record Untouched (s : Store) (o : Outcome) : Type 0 where
  pub store : o.store ≡ s
  pub value : o.answer.number ≢ 5 → o.answer.value ≡ 0
  pub no_steps : o.answer.steps ≡ 0
  pub no_moves : o.answer.moves ≡ 0

abbrev pub RefusalsChangeNothing : Type 0
RefusalsChangeNothing = (n : Numbers) (call : Call) (s : Store) → (does n call s).answer.number ≢ 0 → Untouched s (does n call s)
