-- `steps::one_step` meets its contract: the step in the table that the front entry means is the step of the store. Assumes nothing.
use mathlib.Core.Path.{◌≡◌, ◌∙◌, sym, ap}
use lib.ListN.{length, get_or}
use Rattle.rules.specs.Store.{table_0, table_1, meant}
use Rattle.layout.specs.Memory.{cells_in, rules_table}
use Rattle.layout.proofs.Tables.{named_meant, home_in_table}
use Rattle.steps.proofs.InStore.{first_table, second_table}
use Rattle.steps.proofs.one_step.Goals as goal

pub step_in-requires-clause-t_len : goal.step_in-requires-clause-t_len
step_in-requires-clause-t_len c =
    let q = c.requires in
    (q.tables_ready.first, rw c.home_in-i.ensures (home_in_table c.args.f _ _ q.tables_ready.some), q.detector_len)

pub step_in-requires-in-One-clause-t_len : goal.step_in-requires-in-One-clause-t_len
step_in-requires-in-One-clause-t_len c =
    let q = c.requires in
    (q.tables_ready.second, rw c.home_in-i.ensures (home_in_table c.args.f _ _ q.tables_ready.some), q.detector_len)

pub returns-in-One-clause-words : goal.returns-in-One-clause-words
returns-in-One-clause-words c n w =
    let a = c.args in
    let t0 = a.m.now.t0.now in
    let t1 = a.m.now.t1.now in
    let q = a.m.now.queue.now in
    let d = a.m.now.detector.now in
    let side : meant (get_or q 2 0) ≡ table_1 = sym (named_meant (get_or q 2 0)) ∙ ap rules_table (sym c.from-table.ensures ∙ c.in-One.is) in
    second_table n a.f a.room a.lengths.queue a.lengths.detector t0 t1 q d w c.requires.some_wait (length q) (length d) _ _ _ _ side
    (rw (c.home_in-i.ensures, c.in-One.is) at (c.step_in-in-One.ensures (cells_in a.f.r t0)))

pub returns-in-Zero-clause-words : goal.returns-in-Zero-clause-words
returns-in-Zero-clause-words c n w =
    let a = c.args in
    let t0 = a.m.now.t0.now in
    let t1 = a.m.now.t1.now in
    let q = a.m.now.queue.now in
    let d = a.m.now.detector.now in
    let side : meant (get_or q 2 0) ≡ table_0 = sym (named_meant (get_or q 2 0)) ∙ ap rules_table (sym c.from-table.ensures ∙ c.in-Zero.is) in
    first_table n a.f a.room a.lengths.queue a.lengths.detector t0 t1 q d w c.requires.some_wait (length q) (length d) _ _ _ _ side
    (rw (c.home_in-i.ensures, c.in-Zero.is) at (c.step_in.ensures (cells_in a.f.r t1)))
