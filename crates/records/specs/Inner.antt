-- What the private functions give. Assumes nothing.
use Rattle.std.specs.Prelude.{ℕ, cond, eqb, Option as OptionOf, Some, None}
use Rattle.std.proofs.Math.Option.{Option, none, some}
use Rattle.records.specs.Record.{Fields}
use Rattle.records.specs.Told.{fields_of}
use Rattle.records.specs.declared.Command.{Command}

-- the fields of the command, or nothing
abbrev pub said : OptionOf Command → Option Fields
said (Some command) = some (fields_of command)
said None = none

-- the fields, if the spare word is 0
abbrev pub if_zero : ℕ → Fields → Option Fields
if_zero spare f = cond (eqb spare 0) (some f) none
