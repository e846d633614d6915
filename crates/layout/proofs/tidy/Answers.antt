-- `layout::tidy` meets its contract: what is cleared lies behind the entries and pairs. Assumes nothing.
use mathlib.Core.Path.{refl, ◌∙◌}
use lib.ListN.{length}
use Rattle.layout.specs.Forms.{entry_form, pair_form}
use Rattle.layout.proofs.Forms.{entry_lawful, pair_lawful}
use Rattle.layout.proofs.Packed.{packed_clear}
use Rattle.layout.proofs.tidy.Goals as goal

pub returns : goal.returns
returns c =
    let a = c.args in
    let w = c.requires in
    record {
      queue = c.clear.ensures ∙ packed_clear entry_form entry_lawful (length a.queue.now) a.lengths.queue a.queue.now refl w.queue_in_bounds.0;
      detector = c.clear-2.ensures ∙ packed_clear pair_form pair_lawful (length a.detector.now) a.lengths.detector a.detector.now refl w.detector_in_bounds.0;
    }
