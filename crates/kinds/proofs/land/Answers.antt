-- `kinds::land` meets its contract: the front gone from the queue, and all pairs gone from the detector. Assumes nothing.
use mathlib.Core.Path.{refl, ◌∙◌}
use Rattle.layout.specs.Forms.{entry_form, pair_form}
use Rattle.layout.proofs.Forms.{entry_lawful, pair_lawful}
use Rattle.layout.proofs.Ready.{front_gone, all_gone}
use Rattle.kinds.proofs.land.Goals as goal

pub returns : goal.returns
returns c =
    let s = c in
    let a = s.args in
    let w = s.requires.ready in
    record {
      table = c.put.ensures;
      queue = c.close_gap.ensures ∙ front_gone entry_form entry_lawful a.lengths.queue a.queue.now w.queue w.queue_in s.requires.some_wait;
      detector = c.clear.ensures ∙ all_gone pair_form pair_lawful a.lengths.detector a.detector.now w.detector w.detector_in;
      answer = refl;
    }
