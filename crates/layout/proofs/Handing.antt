-- Buffers handed on and handed on again are the same. Assumes nothing.
use mathlib.Core.Path.{◌∙◌}
use Rattle.layout.specs.declared.Buffers.{Buffers}
use Rattle.layout.specs.Memory.{SameBuffers}

pub then_same : {a b c : Buffers} → SameBuffers a b → SameBuffers b c → SameBuffers a c
then_same h k = record {
  t0 = k.t0 ∙ h.t0;
  t1 = k.t1 ∙ h.t1;
  queue = k.queue ∙ h.queue;
  detector = k.detector ∙ h.detector;
  t0_len = k.t0_len ∙ h.t0_len;
  t1_len = k.t1_len ∙ h.t1_len;
  queue_len = k.queue_len ∙ h.queue_len;
  detector_len = k.detector_len ∙ h.detector_len;
}
