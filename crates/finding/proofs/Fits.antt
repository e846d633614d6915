-- What an accepted record and accepted lengths say of the tables and of the queue. Assumes nothing.
use Rattle.std.proofs.Common.{◌*◌, ◌≤◌, length, arith}
use Rattle.layout.specs.Memory.{Lent}
use Rattle.steps.specs.Shape.{TablesReady}
use Rattle.numbers.specs.declared.Setup.{Setup}
use Rattle.finding.specs.Inner.{FitIn}

pub tables_ready : (setup : Setup) (m : Lent) → FitIn setup m → TablesReady setup.functions.r m.table0 m.table1
tables_ready setup m fit = record { some = fit.some; small = fit.small; first = fit.first; second = fit.second }

pub queue_bounds : (setup : Setup) (m : Lent) → FitIn setup m → (3 * setup.rooms.lengths.queue ≤ length m.queue) × (length m.queue ≤ 192)
queue_bounds setup m fit = let r = fit.rooms in (omega arith, omega arith)
