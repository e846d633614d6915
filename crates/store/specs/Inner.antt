-- What the private functions give. Assumes nothing.
use Rattle.std.specs.Prelude.{ℕ, ◌/◌, ◌%◌, length}
use Rattle.layout.specs.Memory.{Lent}
use Rattle.faults.specs.Faults.{fault_of}
use Rattle.finding.specs.Inner.{Told, tells}
use Rattle.store.specs.declared.Control.{Control}
use Rattle.store.specs.declared.Answer.{Answer}
use Rattle.store.specs.declared.Reply.{Reply}
use Rattle.store.specs.Memory.{setup_of, with_lens}

-- the first of refusals 1, 2 and 3 that applies to a record and what is lent, or 0
abbrev pub fault_in : Control → Lent → ℕ
fault_in c m = fault_of (setup_of c) (length m.table0) (length m.table1) (length m.queue) (length m.detector)

-- what an inner call gives back, with the record
abbrev pub carried : Control → Told → Answer
carried c d = record { control = with_lens c d.queue_len d.detector_len; number = d.number; value = d.value; steps = d.steps; moves = d.moves }

-- the reply keeps both lengths in one word, the detector's in the upper half
unfoldable pub told_by_reply : Reply → Told
told_by_reply a = tells (a.lengths % 4294967296) (a.lengths / 4294967296) a.number a.value a.steps a.moves
