-- `finding::search` sees the place that the rules' search answers, within the tables and the queue, and find's answer to it. Assumes nothing.
use Rattle.std.proofs.Common.{[], sym, ◌∙◌, arith}
use Rattle.layout.specs.Memory.{lent}
use Rattle.finding.proofs.Searching.{first_in, second_in, sees_first, sees_second, sees_queue}
use Rattle.finding.proofs.search.Goals as goal

pub bounds-t0-i : goal.bounds-t0-i
bounds-t0-i c =
    let s = c.args in
    omega (arith, first_in s.setup s.x (lent s.t0.now s.t1.now [] []) c.requires.tables_ready c.home_in-i.ensures)

pub bounds-t0-i-2 : goal.bounds-t0-i-2
bounds-t0-i-2 c =
    let s = c.args in
    omega (arith, first_in s.setup s.x (lent s.t0.now s.t1.now [] []) c.requires.tables_ready c.home_in-i.ensures)

pub bounds-t1-j : goal.bounds-t1-j
bounds-t1-j c =
    let s = c.args in
    omega (arith, second_in s.setup s.x (lent s.t0.now s.t1.now [] []) c.requires.tables_ready c.home_in-j.ensures)

pub bounds-t1-j-2 : goal.bounds-t1-j-2
bounds-t1-j-2 c =
    let s = c.args in
    omega (arith, second_in s.setup s.x (lent s.t0.now s.t1.now [] []) c.requires.tables_ready c.home_in-j.ensures)

pub returns-then-neither : goal.returns-then-neither
returns-then-neither c d =
    let s = c in
    let a = s.args in
    sees_queue a.setup a.x (lent a.t0.now a.t1.now a.queue.now d) s.requires.tables_ready c.home_in-i.ensures c.home_in-j.ensures
    (sym c.neither.ensures ∙ c.if-neither.true) c.search_queue.ensures

pub returns-then-key0-x : goal.returns-then-key0-x
returns-then-key0-x c d =
    let s = c in
    let a = s.args in
    sees_first a.setup a.x (lent a.t0.now a.t1.now a.queue.now d) s.requires.tables_ready c.home_in-i.ensures c.home_in-j.ensures
    c.if-key0-x.true

pub returns-else-key0-x : goal.returns-else-key0-x
returns-else-key0-x c d =
    let s = c in
    let a = s.args in
    sees_second a.setup a.x (lent a.t0.now a.t1.now a.queue.now d) s.requires.tables_ready c.home_in-i.ensures c.home_in-j.ensures
    (sym c.neither.ensures ∙ c.if-neither.false) c.if-key0-x.false
