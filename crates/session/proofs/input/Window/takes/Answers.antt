-- A record that can be read lies inside the bytes that there are.
use Rattle.std.proofs.Common.{take, arith}
use Rattle.std.proofs.lemmas.Grind.{common_steps}
use Rattle.records.proofs.Places.{good_inside}
use Rattle.session.proofs.input.Window.takes.Goals as goal

pub invariant_of-self : goal.invariant_of-self
invariant_of-self c =
    let w = c.args.self.now in
    let next = good_inside (take w.have w.bytes) _ c.read-reading.ensures c.in-Good.is in
    grind (arith, common_steps, next, w.inside)
