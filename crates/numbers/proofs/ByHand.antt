-- The homes of store S, computed. Assumes nothing.
use mathlib.Core.Path.{refl}
use Rattle.numbers.specs.Home.{home}
use Rattle.numbers.specs.ByHand.{all_below, HomesByHand}

pub homes_by_hand : HomesByHand
unfolding home all_below
homes_by_hand = refl
