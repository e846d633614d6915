-- `entries::all_zero` meets its contract: the test of each word that is left. Assumes nothing.
use Rattle.std.proofs.Common.{rules, tests, eqb}
use Rattle.std.proofs.lemmas.Iterator.{YieldsList-from_slice}
use Rattle.std.proofs.lemmas.Iterator.Search.{all_from_yields_List}
use lib.ListN.{drop}
use mathlib.Core.Path.{◌∙◌}
use Rattle.entries.specs.Zeros.{all_zero}
use Rattle.entries.proofs.Queue.{rest_of}
use Rattle.entries.proofs.all_zero.Goals as goal

pub returns : goal.returns
unfolding all_zero
returns c =
    let a = c.args in
    let words = YieldsList-from_slice (drop a.from a.ws.now) (c.iter.ensures.rest ∙ rest_of a.from a.ws.now) in
    all_from_yields_List (λ x. eqb x 0) _ _ c.all.result c.all.ensures.ran words (λ x b q k. search (rules, tests))
