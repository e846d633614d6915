-- `adding::define` meets its contract: what the search sees picks the case. Assumes nothing.
use Rattle.std.proofs.Common.{ap, not}
use Rattle.layout.specs.Memory.{words}
use Rattle.adding.proofs.Defining.{refuses_held, refuses_bad, refuses_full, defines}
use Rattle.adding.proofs.define.Goals as goal

pub returns-then-not-is_key-clause-outcome : goal.returns-then-not-is_key-clause-outcome
returns-then-not-is_key-clause-outcome c =
    let a = c.args in
    refuses_bad a.setup a.x a.v (words a.m.now) c.is_key.ensures (ap not c.if-not-is_key.true)

pub returns-in-Some-clause-outcome : goal.returns-in-Some-clause-outcome
returns-in-Some-clause-outcome c =
    let a = c.args in
    refuses_held a.setup a.x a.v (words a.m.now) c.is_key.ensures (ap not c.if-not-is_key.false) c.search_in-seen.ensures c.in-Some.is

pub returns-then-setup-clause-outcome : goal.returns-then-setup-clause-outcome
returns-then-setup-clause-outcome c =
    let a = c.args in
    refuses_full a.setup a.x a.v (words a.m.now) c.is_key.ensures (ap not c.if-not-is_key.false) c.search_in-seen.ensures c.in_default.is c.if-setup.true

pub returns-clause-outcome : goal.returns-clause-outcome
returns-clause-outcome c =
    let a = c.args in
    defines a.setup a.x a.v (words a.m.now) c.is_key.ensures (ap not c.if-not-is_key.false) c.search_in-seen.ensures c.in_default.is c.if-setup.false
    c.seat.ensures.outcome
