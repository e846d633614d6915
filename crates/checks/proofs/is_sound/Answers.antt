-- `checks::is_sound` meets its contract: each part of the test in the order of the rules, then the zeros past the lengths. Assumes nothing.
use mathlib.Core.Path.{◌≡◌, refl, ◌∙◌}
use mathlib.Core.Bool.{Bool, ◌&&◌}
use Rattle.rules.specs.Check.{is_sound}
use Rattle.cells.proofs.Chain.{holds_so_far, failed_before}
use Rattle.checks.specs.Sound.{is_sound_in}
use Rattle.checks.proofs.Whole.{first, second, waiting, marked, zeros}
use Rattle.checks.proofs.is_sound.Goals.{then-cells_ok, else-cells_ok, then-cells_ok-2, else-cells_ok-2}
use Rattle.checks.proofs.is_sound.Goals.{then-queue_ok, else-queue_ok, then-marks_ok, else-marks_ok}
use Rattle.checks.proofs.is_sound.Goals as goal

pub returns-then-all_zero : goal.returns-then-all_zero
unfolding is_sound_in is_sound
returns-then-all_zero c n h =
    let a = c.args in
    let tables : Bool = first n a.f.r a.t0.now a.t1.now && second n a.f.r a.t0.now a.t1.now in
    let entries : Bool = waiting n a.f.r a.lengths.queue a.t0.now a.t1.now a.queue.now in
    let pairs : Bool = marked a.lengths.detector a.detector.now in
    let so_tables : c.if-cells_ok.value ≡ tables = elim c.if-cells_ok.branch [
      | then-cells_ok w ↦ holds_so_far (c.cells_ok.ensures n h) w.if-cells_ok.true (w.value-is ∙ w.cells_ok-then-cells_ok.ensures n h)
      | else-cells_ok w ↦ failed_before _ (c.cells_ok.ensures n h) w.if-cells_ok.false w.value-is
    ] in
    let so_entries : c.if-cells_ok-2.value ≡ tables && entries = elim c.if-cells_ok-2.branch [
      | then-cells_ok-2 w ↦ holds_so_far so_tables w.if-cells_ok-2.true (w.value-is ∙ w.queue_ok.ensures n h)
      | else-cells_ok-2 w ↦ failed_before _ so_tables w.if-cells_ok-2.false w.value-is
    ] in
    let so_pairs : c.if-queue_ok.value ≡ tables && entries && pairs = elim c.if-queue_ok.branch [
      | then-queue_ok w ↦ holds_so_far so_entries w.if-queue_ok.true (w.value-is ∙ w.marks_ok.ensures)
      | else-queue_ok w ↦ failed_before _ so_entries w.if-queue_ok.false w.value-is
    ] in
    let so_zeros : c.if-marks_ok.value ≡ tables && entries && pairs && zeros a.lengths.queue a.queue.now = elim c.if-marks_ok.branch [
      | then-marks_ok w ↦ holds_so_far so_pairs w.if-marks_ok.true (w.value-is ∙ w.all_zero.ensures)
      | else-marks_ok w ↦ failed_before _ so_pairs w.if-marks_ok.false w.value-is
    ] in
    holds_so_far so_zeros c.if-all_zero.true c.all_zero-then-all_zero.ensures

pub returns-else-all_zero : goal.returns-else-all_zero
unfolding is_sound_in is_sound
returns-else-all_zero c n h =
    let a = c.args in
    let tables : Bool = first n a.f.r a.t0.now a.t1.now && second n a.f.r a.t0.now a.t1.now in
    let entries : Bool = waiting n a.f.r a.lengths.queue a.t0.now a.t1.now a.queue.now in
    let pairs : Bool = marked a.lengths.detector a.detector.now in
    let so_tables : c.if-cells_ok.value ≡ tables = elim c.if-cells_ok.branch [
      | then-cells_ok w ↦ holds_so_far (c.cells_ok.ensures n h) w.if-cells_ok.true (w.value-is ∙ w.cells_ok-then-cells_ok.ensures n h)
      | else-cells_ok w ↦ failed_before _ (c.cells_ok.ensures n h) w.if-cells_ok.false w.value-is
    ] in
    let so_entries : c.if-cells_ok-2.value ≡ tables && entries = elim c.if-cells_ok-2.branch [
      | then-cells_ok-2 w ↦ holds_so_far so_tables w.if-cells_ok-2.true (w.value-is ∙ w.queue_ok.ensures n h)
      | else-cells_ok-2 w ↦ failed_before _ so_tables w.if-cells_ok-2.false w.value-is
    ] in
    let so_pairs : c.if-queue_ok.value ≡ tables && entries && pairs = elim c.if-queue_ok.branch [
      | then-queue_ok w ↦ holds_so_far so_entries w.if-queue_ok.true (w.value-is ∙ w.marks_ok.ensures)
      | else-queue_ok w ↦ failed_before _ so_entries w.if-queue_ok.false w.value-is
    ] in
    let so_zeros : c.if-marks_ok.value ≡ tables && entries && pairs && zeros a.lengths.queue a.queue.now = elim c.if-marks_ok.branch [
      | then-marks_ok w ↦ holds_so_far so_pairs w.if-marks_ok.true (w.value-is ∙ w.all_zero.ensures)
      | else-marks_ok w ↦ failed_before _ so_pairs w.if-marks_ok.false w.value-is
    ] in
    failed_before _ so_zeros c.if-all_zero.false refl
