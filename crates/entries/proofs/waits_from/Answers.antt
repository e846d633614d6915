-- `entries::waits_from` meets its contract: a place is found exactly if the key waits. Assumes nothing.
use mathlib.Core.Path.{◌∙◌}
use Prim.Native.Nat.{◌-◌, ◌*◌}
use Rattle.entries.proofs.Queue.{waits}
use Rattle.entries.proofs.waits_from.Goals as goal

pub returns : goal.returns
returns c =
    let a = c.args in
    c.is_some.ensures ∙ waits a.x (a.n - a.from) (3 * a.from) c.place_of.result a.queue.now c.place_of.ensures
