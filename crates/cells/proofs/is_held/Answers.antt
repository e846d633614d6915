-- `cells::is_held` meets its contract: the cell at the home of x is compared with x. Assumes nothing.
use native.Mathlib.Omega.{arith}
use Rattle.layout.proofs.Tables.{home_in_table}
use Rattle.cells.proofs.Tables.{held}
use Rattle.cells.proofs.is_held.Goals as goal

pub bounds-t-i : goal.bounds-t-i
bounds-t-i c =
    let a = c.args in
    omega (arith, c.home_in-i.ensures, home_in_table a.f a.table a.x c.requires.0)

pub returns : goal.returns
returns c =
    let a = c.args in
    held a.f a.table a.x c.home_in-i.result a.t.now c.requires.0 c.home_in-i.ensures
