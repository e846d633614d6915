-- Every claim of specs/Claims.antt, proved. Assumes nothing.
use Rattle.records.specs.Claims.{Claims}
use Rattle.records.proofs.Bound.{one_answer}
use Rattle.records.proofs.RoundTrip.{round_trip}

pub claims : Claims
claims = record { one_answer = one_answer; round_trip = round_trip }
