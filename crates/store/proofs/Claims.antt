-- Every claim of specs/Claims.antt, proved. Assumes nothing.
use Rattle.store.specs.Claims.{Claims}
use Rattle.store.proofs.Written.{open_is_sound}
use Rattle.store.proofs.Simulation.{call_keeps_sound}
use Rattle.store.proofs.Bound.{one_outcome}
use Rattle.store.proofs.Checking.{check_keeps_sound, check_is_exact}
use Rattle.store.proofs.Demand1.{call_refusals_change_nothing, check_changes_nothing, open_refusals_give_zeros, calls_are_limited}
use Rattle.store.proofs.Demand2.{demand_2}
use Rattle.store.proofs.Demand3.{demand_3, demand_3_converse}

pub claims : Claims
claims = record {
  one_outcome = one_outcome;
  open_is_sound = open_is_sound;
  call_keeps_sound = call_keeps_sound;
  check_keeps_sound = check_keeps_sound;
  check_is_exact = check_is_exact;
  call_refusals_change_nothing = call_refusals_change_nothing;
  check_changes_nothing = check_changes_nothing;
  open_refusals_give_zeros = open_refusals_give_zeros;
  calls_are_limited = calls_are_limited;
  demand_2 = demand_2;
  demand_3 = demand_3;
  demand_3_converse = demand_3_converse;
}
