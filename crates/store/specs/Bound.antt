-- Document 01, "How firmly the answers are bound": each public call's contract reads `outcome WORDS ANSWER ≡ DEFINITION inputs`, where the definition is
-- `opened`, `does` of the call, or `checked`. "If two outcomes satisfy it, a proof shows them equal". The claim, one law for all calls. Assumes nothing.
use Rattle.std.specs.Prelude.{◌≡◌}
use Rattle.rules.specs.Calls.{Call}
use Rattle.store.specs.declared.Control.{Control}
use Rattle.layout.specs.Memory.{Lent}
use Rattle.store.specs.Refusals.{Outcome}
use Rattle.store.specs.Calls.{opened, checked, does}

pub record OneOutcome : Type 0 where
  pub of_open : (c : Control) (m : Lent) (o u : Outcome) → o ≡ opened c m → u ≡ opened c m → o ≡ u
  pub of_call : (call : Call) (c : Control) (m : Lent) (o u : Outcome) → o ≡ does call c m → u ≡ does call c m → o ≡ u
  pub of_check : (c : Control) (m : Lent) (o u : Outcome) → o ≡ checked c m → u ≡ checked c m → o ≡ u
