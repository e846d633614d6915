-- `adding::seat` meets its contract: with nothing waiting and a free home the run is one step of kind 1, else `join` runs. Assumes nothing.
use mathlib.Core.Bool.{and-eq-true_iff}
use native.Mathlib.Omega.{arith}
use borrow.Author.Tests.{eqb-true}
use Rattle.numbers.proofs.Home.{home0_in_table}
use Rattle.adding.proofs.Seating.{seated_at_once}
use Rattle.adding.proofs.seat.Goals as goal

pub bounds-m-i : goal.bounds-m-i
bounds-m-i c =
    let h = c.requires.fit_in in
    let l = c.home_in-i.ensures in
    omega (arith, home0_in_table c.args.setup.functions c.args.x h.some)

pub put-requires : goal.put-requires
put-requires c =
    let h = c.requires.fit_in in
    let l = c.home_in-i.ensures in
    omega (arith, home0_in_table c.args.setup.functions c.args.x h.some)

pub returns-then-setup-m-clause-outcome : goal.returns-then-setup-m-clause-outcome
returns-then-setup-m-clause-outcome c =
    let a = c.args in
    let m = a.m.now in
    let e = (and-eq-true_iff _ _).0 c.if-setup-m.true in
    seated_at_once a.setup a.x a.v m.t0.now m.t1.now m.queue.now m.detector.now c.requires.fit_in (eqb-true _ _ e.0) c.home_in-i.ensures
    (eqb-true _ _ e.1) c.put.ensures c.tidy.ensures c.of.ensures
