-- The buffers of a store, the record that open is asked for, and what a command does to a store and its buffers. Assumes nothing.
use Rattle.std.specs.Prelude.{ℕ, replicate}
use Rattle.layout.specs.Memory.{Lent, lent}
use Rattle.store.specs.declared.Control.{Control}
use Rattle.store.specs.Refusals.{Outcome}
use Rattle.store.specs.Calls.{new_record, does}
use Rattle.records.specs.declared.Command.{Command}
use Rattle.commands.specs.Call.{call_of}
use Rattle.session.specs.declared.benches.Bench.{Bench}

-- the words of a bench
abbrev pub buffers_of : {table queue detector : ℕ} → Bench table queue detector → Lent
buffers_of b = lent b.t0 b.t1 b.queue b.detector

-- buffers of these lengths that hold a word everywhere
abbrev pub buffers_with : (table queue detector word : ℕ) → Lent
buffers_with table queue detector word = lent (replicate table word) (replicate table word) (replicate queue word) (replicate detector word)

-- a record with the numbers of another
abbrev pub asked_of : Control → Control
asked_of c = new_record c.r c.queue_room c.detector_room c.step_limit c.a0 c.b0 c.a1 c.b1

-- what a command leaves and answers: the outcome of the call that it asks for
abbrev pub outcome_on : {table queue detector : ℕ} → Bench table queue detector → Command → Outcome
outcome_on b command = does (call_of command) b.control (buffers_of b)
