-- `Going`: the run from the entry is the steps done, and then a run of what is left. The buffers are those that were passed.
use Rattle.layout.specs.Memory.{words, SameBuffers}
use Rattle.steps.proofs.Going.{Going}
use Rattle.steps.proofs.run_steps.Given as goal

abbrev pub invariant-loop-steps : goal.invariant-loop-steps
invariant-loop-steps l =
    let a = l.initial in
    record {
      going : Going l.f l.room l.budget a.lengths.queue a.lengths.detector (words a.m) (words l.m) l.lengths.queue l.lengths.detector l.steps l.moves;
      same : SameBuffers a.m l.m;
    }
