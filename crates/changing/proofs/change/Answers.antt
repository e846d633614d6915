-- `changing::change` answers what the rules' change answers, and leaves the value at the place that the rules' search answers. Assumes nothing.
use Rattle.std.proofs.Common.{ap, not}
use mathlib.Core.List.{[]}
use native.Mathlib.Omega.{arith}
use Rattle.layout.specs.Memory.{lent}
use Rattle.finding.proofs.Searching.{located_as}
use Rattle.changing.proofs.Changing.{changes_bad, changes_first, changes_second, changes_waiting, changes_none}
use Rattle.changing.proofs.change.Goals as goal

pub returns-then-not-is_key : goal.returns-then-not-is_key
returns-then-not-is_key c d =
    let a = c.args in
    changes_bad a.setup a.x a.v (lent a.t0.now a.t1.now a.queue.now d) c.is_key.ensures (ap not c.if-not-is_key.true)

pub exchange-requires : goal.exchange-requires
exchange-requires c =
    let h = (located_as (c.search-seen.ensures []).at c.in-Table0.is).within in
    let s = c.requires.tables_ready in
    (omega arith, omega arith)

pub exchange-requires-in-Table1 : goal.exchange-requires-in-Table1
exchange-requires-in-Table1 c =
    let h = (located_as (c.search-seen.ensures []).at c.in-Table1.is).within in
    let s = c.requires.tables_ready in
    (omega arith, omega arith)

pub exchange-requires-in-Waiting : goal.exchange-requires-in-Waiting
exchange-requires-in-Waiting c =
    let h = (located_as (c.search-seen.ensures []).at c.in-Waiting.is).within in
    let s = c.requires.queue_len_in_bounds in
    (omega arith, omega arith)

pub returns-in-Table0 : goal.returns-in-Table0
returns-in-Table0 c d =
    let a = c.args in
    let m = lent a.t0.now a.t1.now a.queue.now d in
    changes_first a.setup a.x a.v m c.is_key.ensures (ap not c.if-not-is_key.false) (c.search-seen.ensures d) c.in-Table0.is c.exchange.ensures

pub returns-in-Table1 : goal.returns-in-Table1
returns-in-Table1 c d =
    let a = c.args in
    let m = lent a.t0.now a.t1.now a.queue.now d in
    changes_second a.setup a.x a.v m c.is_key.ensures (ap not c.if-not-is_key.false) (c.search-seen.ensures d) c.in-Table1.is c.exchange-in-Table1.ensures

pub returns-in-Waiting : goal.returns-in-Waiting
returns-in-Waiting c d =
    let a = c.args in
    let m = lent a.t0.now a.t1.now a.queue.now d in
    changes_waiting a.setup a.x a.v m c.is_key.ensures (ap not c.if-not-is_key.false) (c.search-seen.ensures d) c.in-Waiting.is c.exchange-in-Waiting.ensures

pub returns-in-Nowhere : goal.returns-in-Nowhere
returns-in-Nowhere c d =
    let a = c.args in
    let m = lent a.t0.now a.t1.now a.queue.now d in
    changes_none a.setup a.x a.v m c.is_key.ensures (ap not c.if-not-is_key.false) (c.search-seen.ensures d) c.in-Nowhere.is
