-- `kinds::swap` meets its contract: another front over the first, and one pair more. Assumes nothing.
use mathlib.Core.Path.{refl, ◌∙◌}
use native.Mathlib.Omega.{arith}
use Rattle.layout.specs.Forms.{entry_form, pair_form}
use Rattle.layout.proofs.Forms.{entry_lawful, pair_lawful}
use Rattle.layout.proofs.Ready.{front_over, one_behind}
use Rattle.kinds.specs.Shape.{entry, pair}
use Rattle.kinds.proofs.swap.Goals as goal

pub returns : goal.returns
returns c =
    let s = c in
    let a = s.args in
    let w = s.requires.ready in
    record {
      table = c.put.ensures;
      queue = c.put-2.ensures ∙ front_over entry_form entry_lawful a.lengths.queue a.queue.now w.queue w.queue_in s.requires.some_wait (entry _ _ _);
      detector = c.put-3.ensures ∙ one_behind pair_form pair_lawful a.lengths.detector a.detector.now w.detector w.detector_in
          (omega (arith, s.requires.detector_in_bounds)) (pair a.front.key a.front.side);
      answer = refl;
    }
