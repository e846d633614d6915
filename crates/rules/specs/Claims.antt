-- All that is claimed of the rules, on one page. `proofs/Claims.antt` proves it. Assumes nothing.
use Rattle.rules.specs.Keeps.{OpenIsSound, StepKeepsSound, CallKeepsSound, StepKeepsLookup, CallChangesLookup}
use Rattle.rules.specs.Contents.{ContentsHaveThePresentKeys, ContentsAreWhatIsFound}
use Rattle.rules.specs.Groups.{EveryKeyHasAGroup}
use Rattle.rules.specs.Limits.{CallsAreLimited, RefusalsChangeNothing}
use Rattle.rules.specs.Demand2.{Demand2}
use Rattle.rules.specs.Demand3.{Demand3, Demand3Converse}
use Rattle.rules.specs.Check.{CheckIsExact}
use Rattle.rules.specs.ByHand.{StarredLines, FurtherLines}

pub record Claims : Type 0 where
  pub open_is_sound : OpenIsSound
  pub step_keeps_sound : StepKeepsSound
  pub step_keeps_lookup : StepKeepsLookup
  pub call_keeps_sound : CallKeepsSound
  pub call_changes_lookup : CallChangesLookup
  pub calls_are_limited : CallsAreLimited
  pub refusals_change_nothing : RefusalsChangeNothing
  pub check_is_exact : CheckIsExact
  pub contents_have_the_present_keys : ContentsHaveThePresentKeys
  pub contents_are_what_is_found : ContentsAreWhatIsFound
  pub every_key_has_a_group : EveryKeyHasAGroup
  pub demand_2 : Demand2
  pub demand_3 : Demand3
  pub demand_3_converse : Demand3Converse
  pub starred_lines : StarredLines
  pub further_lines : FurtherLines
