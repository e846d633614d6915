-- `adding::join` meets its contract: the words that `tidy` leaves hold the same store; with the entry behind they are ready and hold the joined store, so
-- `run_out` runs from there. Assumes nothing.
use Rattle.adding.proofs.Defining.{joined_fit, joined_ready, joined_runs}
use Rattle.settling.proofs.Lying.{tidied_fit, tidied_ready, tidied_store}
use Rattle.adding.proofs.join.Goals as goal

pub run_out-requires-clause-fit_in : goal.run_out-requires-clause-fit_in
run_out-requires-clause-fit_in c =
    let a = c.args in
    let m = a.m.now in
    let tidy = c.tidy.ensures in
    let fit = tidied_fit a.setup m.t0.now m.t1.now m.queue.now m.detector.now _ _ c.requires.fit_in tidy in
    let ready = tidied_ready a.setup m.t0.now m.t1.now m.queue.now m.detector.now _ _ c.requires.fit_in tidy in
    joined_fit a.setup a.x a.v m.t0.now m.t1.now _ _ _ c.requires.queue_len_bound fit ready c.put.ensures

pub run_out-requires-clause-ready : goal.run_out-requires-clause-ready
run_out-requires-clause-ready c =
    let a = c.args in
    let m = a.m.now in
    let tidy = c.tidy.ensures in
    let fit = tidied_fit a.setup m.t0.now m.t1.now m.queue.now m.detector.now _ _ c.requires.fit_in tidy in
    let ready = tidied_ready a.setup m.t0.now m.t1.now m.queue.now m.detector.now _ _ c.requires.fit_in tidy in
    joined_ready a.setup a.x a.v m.t0.now m.t1.now _ _ _ c.requires.queue_len_bound fit ready c.put.ensures

pub returns-clause-outcome : goal.returns-clause-outcome
returns-clause-outcome c =
    let a = c.args in
    let m = a.m.now in
    let tidy = c.tidy.ensures in
    let fit = tidied_fit a.setup m.t0.now m.t1.now m.queue.now m.detector.now _ _ c.requires.fit_in tidy in
    let ready = tidied_ready a.setup m.t0.now m.t1.now m.queue.now m.detector.now _ _ c.requires.fit_in tidy in
    joined_runs a.setup a.x a.v m.t0.now m.t1.now _ _ _ c.requires.queue_len_bound fit ready c.put.ensures
    (tidied_store a.setup m.t0.now m.t1.now m.queue.now m.detector.now _ _ c.requires.fit_in tidy) c.run_out.ensures.outcome
