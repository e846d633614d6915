-- `kinds::set_aside` meets its contract: the front gone and put behind, and all pairs gone. Assumes nothing.
use mathlib.Core.Path.{refl, ◌∙◌}
use Rattle.layout.specs.Forms.{entry_form, pair_form}
use Rattle.layout.proofs.Forms.{entry_lawful, pair_lawful}
use Rattle.layout.proofs.Ready.{front_gone, to_back, all_gone}
use Rattle.kinds.specs.Shape.{entry}
use Rattle.kinds.proofs.set_aside.Goals as goal

pub returns : goal.returns
returns c =
    let s = c in
    let a = s.args in
    let w = s.requires.ready in
    let gone = c.close_gap.ensures ∙ front_gone entry_form entry_lawful a.lengths.queue a.queue.now w.queue w.queue_in s.requires.some_wait in
    record {
      queue = c.put.ensures ∙ to_back entry_form entry_lawful a.lengths.queue a.queue.now w.queue w.queue_in s.requires.some_wait _
          (entry a.front.key a.front.value a.front.side) gone;
      detector = c.clear.ensures ∙ all_gone pair_form pair_lawful a.lengths.detector a.detector.now w.detector w.detector_in;
      answer = refl;
    }
