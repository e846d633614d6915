-- Every claim of specs/Claims.antt, proved. Assumes nothing.
use Rattle.rules.specs.Claims.{Claims}
use Rattle.rules.proofs.Open.{open_is_sound}
use Rattle.rules.proofs.Kept.{step_keeps_sound, step_keeps_lookup}
use Rattle.rules.proofs.CallsKept.{call_keeps_sound, call_changes_lookup}
use Rattle.rules.proofs.Weights.{contents_have_the_present_keys}
use Rattle.rules.proofs.Lookup.{contents_are_what_is_found}
use Rattle.rules.proofs.Groups.{group_of}
use Rattle.rules.proofs.Limits.{calls_are_limited, refusals_change_nothing}
use Rattle.rules.proofs.Demand2.{demand_2}
use Rattle.rules.proofs.Demand3.{demand_3, demand_3_converse}
use Rattle.rules.proofs.Check.{check_is_exact}
use Rattle.rules.proofs.ByHand.{starred_lines, further_lines}

pub claims : Claims
claims = record {
  open_is_sound = open_is_sound;
  step_keeps_sound = step_keeps_sound;
  step_keeps_lookup = step_keeps_lookup;
  call_keeps_sound = call_keeps_sound;
  call_changes_lookup = call_changes_lookup;
  calls_are_limited = calls_are_limited;
  refusals_change_nothing = refusals_change_nothing;
  check_is_exact = check_is_exact;
  contents_have_the_present_keys = contents_have_the_present_keys;
  contents_are_what_is_found = contents_are_what_is_found;
  every_key_has_a_group = group_of;
  demand_2 = demand_2;
  demand_3 = demand_3;
  demand_3_converse = demand_3_converse;
  starred_lines = starred_lines;
  further_lines = further_lines;
}
