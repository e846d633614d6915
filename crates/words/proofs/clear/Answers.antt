-- `words::clear` meets its contract: the cleared words grow by one zero. Assumes nothing.
use Rattle.std.proofs.Common.{◌≡◌, arith}
use Rattle.words.proofs.Laws.{clear_none, clear_more}
use Rattle.words.proofs.clear.Goals as goal

pub loop-i-init : goal.loop-i-init
loop-i-init c = clear_none c.args.from c.args.ws.now

pub loop-i-preserved : goal.loop-i-preserved
loop-i-preserved c =
    let a = c.args in
    rw c.loop-i.invariant (clear_more a.from c.loop-i.i a.ws.now (omega arith) (omega arith))

pub returns : goal.returns
returns c = let e : c.loop-i.i ≡ c.args.to = omega arith in rw e at c.loop-i.invariant
