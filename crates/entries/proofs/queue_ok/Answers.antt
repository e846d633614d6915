-- `entries::queue_ok` meets its contract: the entries pass exactly if each does. Assumes nothing.
use mathlib.Core.Path.{refl, ◌∙◌}
use native.Mathlib.Omega.{arith}
use Rattle.std.proofs.Common.{rules, tests}
use Rattle.std.proofs.lemmas.Iterator.{YieldsList-from_range}
use Rattle.std.proofs.lemmas.Iterator.Search.{all_from_yields_List}
use Rattle.rules.specs.Store.{table_0}
use Rattle.layout.specs.Memory.{cells_in}
use Rattle.steps.specs.Shape.{with_table}
use Rattle.entries.proofs.Queue.{passes_at, all_entries}
use Rattle.entries.proofs.queue_ok.Goals as goal

pub returns : goal.returns
returns c m h =
    let a = c.args in
    let ts = with_table table_0 (cells_in a.f.r a.t0.now) (cells_in a.f.r a.t1.now) in
    let places = YieldsList-from_range 0 a.n a.n refl (omega arith) in
    all_from_yields_List (passes_at m ts a.n a.queue.now) _ _ c.all.result c.all.ensures.ran places (λ x b q k. search (rules, tests))
    ∙ all_entries m ts a.n a.queue.now
