-- `cells::cells_ok` meets its contract: the cells pass exactly if each does. Assumes nothing.
use mathlib.Core.Path.{refl, ◌∙◌}
use native.Mathlib.Omega.{arith}
use Rattle.std.proofs.Common.{rules, tests}
use Rattle.std.proofs.lemmas.Iterator.{YieldsList-from_range}
use Rattle.std.proofs.lemmas.Iterator.Search.{all_from_yields_List}
use Rattle.layout.specs.Memory.{rules_table, cells_in}
use Rattle.steps.specs.Shape.{with_table}
use Rattle.cells.proofs.Tables.{passes_at, all_cells}
use Rattle.cells.proofs.cells_ok.Goals as goal

pub returns : goal.returns
returns c n h =
    let a = c.args in
    let tb = rules_table a.table in
    let ts = with_table tb (cells_in a.f.r a.t.now) (cells_in a.f.r a.other.now) in
    let places = YieldsList-from_range 0 a.f.r a.f.r refl (omega arith) in
    all_from_yields_List (passes_at n ts tb a.f.r a.t.now) _ _ c.all.result c.all.ensures.ran places (λ x b q k. search (rules, tests))
    ∙ all_cells n ts tb a.f.r a.t.now
