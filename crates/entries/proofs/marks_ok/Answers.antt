-- `entries::marks_ok` meets its contract: the pairs pass exactly if each does. Assumes nothing.
use mathlib.Core.Path.{refl, ◌∙◌}
use native.Mathlib.Omega.{arith}
use Rattle.std.proofs.Common.{rules, tests}
use Rattle.std.proofs.lemmas.Iterator.{YieldsList-from_range}
use Rattle.std.proofs.lemmas.Iterator.Search.{all_from_yields_List}
use Rattle.entries.proofs.Queue.{pair_passes, all_pairs}
use Rattle.entries.proofs.marks_ok.Goals as goal

pub returns : goal.returns
returns c =
    let a = c.args in
    let places = YieldsList-from_range 0 a.n a.n refl (omega arith) in
    all_from_yields_List (pair_passes a.n a.detector.now) _ _ c.all.result c.all.ensures.ran places (λ x b q k. search (rules, tests))
    ∙ all_pairs a.n a.detector.now
