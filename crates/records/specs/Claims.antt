-- All that is claimed of the reader beside its contract. `proofs/Claims.antt` proves it. Assumes nothing.
use Rattle.records.specs.Bound.{OneAnswer}
use Rattle.records.specs.Bytes.{RoundTrip}

pub record Claims : Type 0 where
  pub one_answer : OneAnswer
  pub round_trip : RoundTrip
