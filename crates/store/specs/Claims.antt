-- All that is claimed of the calls beside their contracts, on one page. `proofs/Claims.antt` proves it. Assumes nothing.
use Rattle.store.specs.Sound.{OpenIsSound, CallKeepsSound, CheckKeepsSound, CheckIsExact}
use Rattle.store.specs.Bound.{OneOutcome}
use Rattle.store.specs.Demand1.{CallRefusalsChangeNothing, CheckChangesNothing, OpenRefusalsGiveZeros, CallsAreLimited}
use Rattle.store.specs.Demand2.{Demand2}
use Rattle.store.specs.Demand3.{Demand3, Demand3Converse}

pub record Claims : Type 0 where
  pub one_outcome : OneOutcome
  pub open_is_sound : OpenIsSound
  pub call_keeps_sound : CallKeepsSound
  pub check_keeps_sound : CheckKeepsSound
  pub check_is_exact : CheckIsExact
  pub call_refusals_change_nothing : CallRefusalsChangeNothing
  pub check_changes_nothing : CheckChangesNothing
  pub open_refusals_give_zeros : OpenRefusalsGiveZeros
  pub calls_are_limited : CallsAreLimited
  pub demand_2 : Demand2
  pub demand_3 : Demand3
  pub demand_3_converse : Demand3Converse
