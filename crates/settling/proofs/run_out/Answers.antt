-- `settling::run_out` meets its contract: the words of a run are its outcome. Assumes nothing.
use Rattle.layout.specs.Memory.{words}
use Rattle.settling.proofs.Lying.{runs_with, ran_out}
use Rattle.settling.proofs.run_out.Goals as goal

pub returns-clause-outcome : goal.returns-clause-outcome
returns-clause-outcome c =
    let a = c.args in
    let m = words a.m.now in
    let fit = c.requires.fit_in in
    let e = c.run_steps-ended.ensures in
    ran_out a.setup m fit a.budget _ _ _ _ _ (e.words _ (runs_with a.setup m fit a.budget)) e.same.t0_len e.same.t1_len c.of.ensures
