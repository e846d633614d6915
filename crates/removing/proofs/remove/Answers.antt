-- `removing::remove` meets its contract: what the search answers picks the case. Assumes nothing.
use Rattle.std.proofs.Common.{ap, not}
use Rattle.layout.specs.Memory.{words}
use native.Mathlib.Omega.{arith}
use Rattle.finding.proofs.Searching.{located_as}
use Rattle.removing.proofs.Removing.{bad_key, good_key_lem, refuses_bad, refuses_absent, removes_first, removes_second, removes_waiting}
use Rattle.removing.proofs.remove.Goals as goal

pub returns-then-not-is_key-clause-outcome : goal.returns-then-not-is_key-clause-outcome
returns-then-not-is_key-clause-outcome c =
    let a = c.args in
    refuses_bad a.setup a.x (words a.m.now) (bad_key _ c.is_key.ensures (ap not c.if-not-is_key.true))

pub remove_cell-requires-clause-i_in_bounds : goal.remove_cell-requires-clause-i_in_bounds
remove_cell-requires-clause-i_in_bounds c =
    let h = (located_as c.search_in-seen.ensures.at c.in-Table0.is).within in
    let s = c.requires in
    omega arith

pub remove_cell-requires-in-Table1-clause-i_in_bounds : goal.remove_cell-requires-in-Table1-clause-i_in_bounds
remove_cell-requires-in-Table1-clause-i_in_bounds c =
    let h = (located_as c.search_in-seen.ensures.at c.in-Table1.is).within in
    let s = c.requires in
    omega arith

pub remove_waiting-requires-clause-j_bound : goal.remove_waiting-requires-clause-j_bound
remove_waiting-requires-clause-j_bound c =
    (located_as c.search_in-seen.ensures.at c.in-Waiting.is).within

pub returns-in-Table0-clause-outcome : goal.returns-in-Table0-clause-outcome
returns-in-Table0-clause-outcome c =
    let s = c in
    let a = s.args in
    let good = good_key_lem _ c.is_key.ensures (ap not c.if-not-is_key.false) in
    removes_first a.setup a.x (words a.m.now) good s.requires
    (located_as c.search_in-seen.ensures.at c.in-Table0.is) c.remove_cell.ensures

pub returns-in-Table1-clause-outcome : goal.returns-in-Table1-clause-outcome
returns-in-Table1-clause-outcome c =
    let s = c in
    let a = s.args in
    let good = good_key_lem _ c.is_key.ensures (ap not c.if-not-is_key.false) in
    removes_second a.setup a.x (words a.m.now) good s.requires
    (located_as c.search_in-seen.ensures.at c.in-Table1.is) c.remove_cell-in-Table1.ensures

pub returns-in-Waiting-clause-outcome : goal.returns-in-Waiting-clause-outcome
returns-in-Waiting-clause-outcome c =
    let s = c in
    let a = s.args in
    let good = good_key_lem _ c.is_key.ensures (ap not c.if-not-is_key.false) in
    removes_waiting a.setup a.x (words a.m.now) good s.requires
    (located_as c.search_in-seen.ensures.at c.in-Waiting.is) c.remove_waiting.ensures

pub returns-in-Nowhere-clause-outcome : goal.returns-in-Nowhere-clause-outcome
returns-in-Nowhere-clause-outcome c =
    let s = c in
    let a = s.args in
    let good = good_key_lem _ c.is_key.ensures (ap not c.if-not-is_key.false) in
    refuses_absent a.setup a.x (words a.m.now) good
    (located_as c.search_in-seen.ensures.at c.in-Nowhere.is)
