-- A chain of tests: each is looked at only if those before it hold. Assumes nothing.
use mathlib.Core.Path.{◌≡◌, sym, ◌∙◌}
use mathlib.Core.Bool.{Bool, true, false, ◌&&◌}

-- those before it hold, and it decides
pub holds_so_far : {before next a b : Bool} → before ≡ a → before ≡ true → next ≡ b → next ≡ a && b
holds_so_far e t n = simp (sym e ∙ t) n

-- one before it fails, and so does the chain
pub failed_before : {before next a : Bool} (b : Bool) → before ≡ a → before ≡ false → next ≡ before → next ≡ a && b
failed_before b e t n = simp (sym e ∙ t) (n ∙ t)
