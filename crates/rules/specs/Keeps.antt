-- What every step and every call keeps: a sound store sound, and what lookup answers but for what the call says. The claims; each holds over any two
-- functions into the cells and any numbers. Assumes nothing.
use Rattle.std.specs.Prelude.{ℕ, ◌≡◌, Bool, cond, ◌&&◌, eqb}
use Rattle.std.proofs.Math.Option.{Option, none, some}
use Rattle.rules.specs.Store.{Store, Numbers, IntoCells, fresh}
use Rattle.rules.specs.Step.{step}
use Rattle.rules.specs.Search.{lookup}
use Rattle.rules.specs.Calls.{Answer, Call, Find, Define, Change, Remove, Settle, does}
use Rattle.rules.specs.Sound.{IsGood, SoundContents}

-- "Accepted is 0"
abbrev pub is_accepted : Answer → Bool
is_accepted a = eqb a.number 0

-- what key k has after a call with this answer, if it had `before`: an accepted define or change of k gives it the value, an accepted remove of k takes
-- it away, and nothing else touches it
abbrev pub after_call : ℕ → Call → Answer → Option ℕ → Option ℕ
after_call k (Find x) a before = before
after_call k (Define x v) a before = cond (is_accepted a && eqb x k) (some v) before
after_call k (Change x v) a before = cond (is_accepted a && eqb x k) (some v) before
after_call k (Remove x) a before = cond (is_accepted a && eqb x k) none before
after_call k (Settle budget) a before = before

-- "Open gives a sound store"
abbrev pub OpenIsSound : Type 0
OpenIsSound = (n : Numbers) → SoundContents n (fresh n)

abbrev pub StepKeepsSound : Type 0
StepKeepsSound = (n : Numbers) → IntoCells n → (s : Store) → SoundContents n s → SoundContents n (step n s).store

-- "each call keeps it sound"
abbrev pub CallKeepsSound : Type 0
CallKeepsSound = (n : Numbers) → IntoCells n → (call : Call) (s : Store) → SoundContents n s → SoundContents n (does n call s).store

abbrev pub StepKeepsLookup : Type 0
StepKeepsLookup = (n : Numbers) → IntoCells n → (s : Store) → SoundContents n s → (k : ℕ) → IsGood k → lookup n k (step n s).store ≡ lookup n k s

abbrev pub CallChangesLookup : Type 0
CallChangesLookup =
    (n : Numbers) → IntoCells n → (call : Call) (s : Store) → SoundContents n s → (k : ℕ) → IsGood k
    → lookup n k (does n call s).store ≡ after_call k call (does n call s).answer (lookup n k s)
