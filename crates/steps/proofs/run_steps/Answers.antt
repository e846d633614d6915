-- `steps::run_steps` meets its contract: a step takes the loop on, and it ends where the budget is spent or nothing waits. Assumes nothing.
use mathlib.Core.Path.{◌≡◌, subst}
use Prim.Native.Nat.{ℕ}
use native.Mathlib.Nat.{pos_of_ne-zero}
use native.Mathlib.Omega.{arith}
use Rattle.layout.specs.Memory.{words}
use Rattle.layout.proofs.Handing.{then_same}
use Rattle.std.proofs.Common.{rules}
use Rattle.steps.proofs.Going.{Going, begins, goes, ends, idles}
use Rattle.steps.proofs.run_steps.Goals as goal

pub loop-steps-init : goal.loop-steps-init
loop-steps-init c =
    let q = c.requires in
    record { going = begins q.tables_ready q.detector_len q.ready; same = search rules }

pub loop-steps-preserved : goal.loop-steps-preserved
loop-steps-preserved c =
    let i = c.loop-steps.invariant in
    let a = c.one_step-turn in
    let e = a.ensures in
    record {
      going = goes i.going (words a.new.m) a.result c.loop-steps-test.true (pos_of_ne-zero c.if-lengths-eq0.false) e.words e.same.t0_len e.same.t1_len
          c.move_of-moves.ensures.value;
      same = then_same i.same e.same;
    }

pub returns-then-lengths-eq0-clause-words : goal.returns-then-lengths-eq0-clause-words
returns-then-lengths-eq0-clause-words c = idles c.loop-steps.invariant.going c.if-lengths-eq0.true

pub returns-clause-words : goal.returns-clause-words
returns-clause-words c =
    let i = c.loop-steps in
    let l = c.args in
    let all : i.steps ≡ l.budget = omega arith in
    let went = λ (k : ℕ). Going l.f l.room l.budget l.lengths.queue l.lengths.detector (words l.m.now) (words i.m) i.lengths.queue i.lengths.detector k i.moves in
    ends (subst went all i.invariant.going)
