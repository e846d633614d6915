-- `cells::cell_ok` meets its contract: a free cell by its value, any other by its key, its home and the home of its twin. Assumes nothing.
use Prim.Native.Nat.{◌*◌}
use mathlib.Core.Path.{◌≡◌, ap, ◌∙◌}
use mathlib.Core.Bool.{not, ◌&&◌}
use lib.Dec.{eqb}
use lib.ListN.{get_or}
use Rattle.std.proofs.Common.{rules, tests}
use Rattle.numbers.specs.Ranges.{good_key}
use Rattle.numbers.specs.Homes.{home_in}
use Rattle.layout.specs.Memory.{cells_in}
use Rattle.cells.proofs.Chain.{holds_so_far}
use Rattle.cells.proofs.Tables.{free_value, some_key}
use Rattle.cells.proofs.cell_ok.Goals as goal

pub returns-then-k-eq0 : goal.returns-then-k-eq0
returns-then-k-eq0 c n h =
    let a = c.args in
    free_value a.f a.table a.i a.t.now a.other.now n h c.if-k-eq0.true

pub returns-then-home_in-i : goal.returns-then-home_in-i
returns-then-home_in-i c n h =
    let a = c.args in
    let k = get_or a.t.now (2 * a.i) 0 in
    let at_home : c.if-is_key.value ≡ good_key k && eqb (home_in a.f a.table k) a.i = search (rules, tests) in
    let twin = ap not (rw c.other.ensures at (c.is_held.ensures n (cells_in a.f.r a.t.now) h)) in
    holds_so_far at_home c.if-home_in-i.true twin ∙ some_key a.f a.table a.i a.t.now a.other.now n h c.if-k-eq0.false

pub returns-else-home_in-i : goal.returns-else-home_in-i
returns-else-home_in-i c n h =
    let a = c.args in
    let whole = some_key a.f a.table a.i a.t.now a.other.now n h c.if-k-eq0.false in
    search (whole, rules, tests)
