-- `store::Control::after` gives back the record with the new lengths. Assumes nothing.
use Rattle.std.proofs.Common.{ap}
use Rattle.store.specs.Inner.{carried, told_by_reply}
use Rattle.store.proofs.Control.after.Goals as goal

pub returns : goal.returns
unfolding told_by_reply
returns c = ap (carried c.args.self) c.told-reply.ensures
