-- `entries::entry_ok` meets its contract: key, side, both homes and the entries behind, in the order of the rules. Assumes nothing.
use mathlib.Core.Path.{◌≡◌, refl, sym, ap, ◌∙◌}
use mathlib.Core.Bool.{Bool, not, ◌&&◌}
use borrow.Author.Tests.{le-leb}
use lib.Dec.{leb}
use Rattle.std.proofs.Common.{rules, tests}
use Rattle.numbers.specs.Ranges.{good_key}
use Rattle.rules.specs.Store.{table_0, table_1}
use Rattle.rules.specs.Check.{is_held, entry_ok}
use Rattle.layout.specs.Memory.{cells_in}
use Rattle.steps.specs.Shape.{with_table}
use Rattle.cells.proofs.Chain.{holds_so_far, failed_before}
use Rattle.entries.proofs.Queue.{entry_of}
use Rattle.entries.proofs.entry_ok.Goals.{then-good_side, else-good_side, then-not-is_held, else-not-is_held}
use Rattle.entries.proofs.entry_ok.Goals as goal

pub returns-then-not-is_held-2 : goal.returns-then-not-is_held-2
unfolding entry_ok
returns-then-not-is_held-2 c m h =
    let a = c.args in
    let t0 = cells_in a.f.r a.t0.now in
    let t1 = cells_in a.f.r a.t1.now in
    let e = entry_of a.queue.now a.j in
    let good : Bool = good_key e.key && leb e.side 1 in
    let first : Bool = is_held m (with_table table_0 t0 t1) table_0 e.key in
    let second : Bool = is_held m (with_table table_0 t0 t1) table_1 e.key in
    let so_first : c.if-good_side.value ≡ good && not first = elim c.if-good_side.branch [
      | then-good_side w ↦ (
          let both = w.if-good_side.true in
          simp (sym c.is_key.ensures ∙ both.0, le-leb _ _ both.1) (w.value-is ∙ ap not (w.is_held.ensures m t1 h))
          )
      | else-good_side w ↦ search (rules, tests)
    ] in
    let so_second : c.if-not-is_held.value ≡ good && not first && not second = elim c.if-not-is_held.branch [
      | then-not-is_held w ↦ holds_so_far so_first w.if-not-is_held.true (w.value-is ∙ ap not (w.is_held-then-not-is_held.ensures m t0 h))
      | else-not-is_held w ↦ failed_before _ so_first w.if-not-is_held.false w.value-is
    ] in
    holds_so_far so_second c.if-not-is_held-2.true (ap not c.waits_from.ensures)

pub returns-else-not-is_held-2 : goal.returns-else-not-is_held-2
unfolding entry_ok
returns-else-not-is_held-2 c m h =
    let a = c.args in
    let t0 = cells_in a.f.r a.t0.now in
    let t1 = cells_in a.f.r a.t1.now in
    let e = entry_of a.queue.now a.j in
    let good : Bool = good_key e.key && leb e.side 1 in
    let first : Bool = is_held m (with_table table_0 t0 t1) table_0 e.key in
    let second : Bool = is_held m (with_table table_0 t0 t1) table_1 e.key in
    let so_first : c.if-good_side.value ≡ good && not first = elim c.if-good_side.branch [
      | then-good_side w ↦ (
          let both = w.if-good_side.true in
          simp (sym c.is_key.ensures ∙ both.0, le-leb _ _ both.1) (w.value-is ∙ ap not (w.is_held.ensures m t1 h))
          )
      | else-good_side w ↦ search (rules, tests)
    ] in
    let so_second : c.if-not-is_held.value ≡ good && not first && not second = elim c.if-not-is_held.branch [
      | then-not-is_held w ↦ holds_so_far so_first w.if-not-is_held.true (w.value-is ∙ ap not (w.is_held-then-not-is_held.ensures m t0 h))
      | else-not-is_held w ↦ failed_before _ so_first w.if-not-is_held.false w.value-is
    ] in
    failed_before _ so_second c.if-not-is_held-2.false refl
