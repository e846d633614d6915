-- `settling::settle` meets its contract: refusal 8, nothing that waits, else the run from the words that `tidy` leaves. Assumes nothing.
use mathlib.Core.Path.{◌∙◌}
use Rattle.layout.specs.Memory.{words}
use Rattle.settling.proofs.Lying.{tidied_ready}
use Rattle.settling.proofs.Settling.{too_many, settles_idle, settles}
use Rattle.settling.proofs.settle.Goals as goal

pub returns-then-c-n-clause-outcome : goal.returns-then-c-n-clause-outcome
returns-then-c-n-clause-outcome c =
    let a = c.args in
    too_many a.setup a.n (words a.m.now) c.if-c-n.true

pub returns-then-c-eq0-clause-outcome : goal.returns-then-c-eq0-clause-outcome
returns-then-c-eq0-clause-outcome c =
    let a = c.args in
    let m = a.m.now in
    settles_idle a.setup a.n m.t0.now m.t1.now m.queue.now m.detector.now c.requires c.tidy.ensures c.if-c-n.false c.if-c-eq0.true (rw c.at_rest.ensures)

pub run_out-requires-clause-ready : goal.run_out-requires-clause-ready
run_out-requires-clause-ready c =
    let a = c.args in
    let m = a.m.now in
    tidied_ready a.setup m.t0.now m.t1.now m.queue.now m.detector.now _ _ c.requires c.tidy.ensures

pub returns-clause-outcome : goal.returns-clause-outcome
returns-clause-outcome c =
    let a = c.args in
    let m = a.m.now in
    c.run_out.ensures.outcome ∙ settles a.setup a.n m.t0.now m.t1.now m.queue.now m.detector.now _ _ c.requires c.tidy.ensures c.if-c-n.false
