-- The words and the record of a store stand for that store: what is written is read back, in buffers of the right sizes, with zeros past the lengths.
-- Assumes nothing.
use Prim.Native.Nat.{ℕ, zero, suc, ◌-◌, ◌*◌, ◌≤◌}
use mathlib.Core.Path.{◌≡◌, refl, sym, ◌∙◌, ap, subst}
use mathlib.Core.Bool.{true}
use mathlib.Core.List.{List, [], ◌∷◌, ◌++◌}
use native.Mathlib.Omega.{arith}
use borrow.Author.Tests.{eq-eqb}
use lib.ListN.{length, get_or, replicate}
use Rattle.words.specs.Words.{pad_to}
use Rattle.rules.specs.Store.{table_0, table_1, Cell, Store, store, fresh}
use Rattle.rules.specs.Sound.{SoundContents}
use Rattle.rules.proofs.Open.{fresh-sound}
use Rattle.layout.specs.Forms.{Form, cell_form, entry_form, pair_form, read_many, write_many, packed}
use Rattle.layout.proofs.Forms.{Lawful, cell_lawful, entry_lawful, pair_lawful, length-write_many, read_all}
use Rattle.layout.proofs.Packed.{length-packed, read_packed}
use Rattle.layout.specs.Memory.{words_in}
use Rattle.store.specs.declared.Control.{Control}
use Rattle.store.specs.Memory.{numbers_of, store_of, words_of, record_of}
use Rattle.store.specs.Refusals.{in_range, sized_in}
use Rattle.store.specs.Sound.{SoundIn, OpenIsSound}
use Rattle.store.proofs.Faults.{sized}
use Rattle.faults.specs.Faults.{numbers_in_range, lengths_fit}
use Rattle.store.proofs.Demand1.{by_open}

-- past the words in use there are zeros
zero_words : (k i : ℕ) → get_or {A = ℕ} (replicate k 0) i 0 ≡ 0
zero_words zero i = refl
zero_words (suc k) zero = refl
zero_words (suc k) (suc i) = zero_words k i

zeros_behind : (xs : List ℕ) (k i : ℕ) → length xs ≤ i → get_or (xs ++ replicate k 0) i 0 ≡ 0
zeros_behind [] k i h = zero_words k i
zeros_behind (x ∷ xs) k zero h = absurd (omega arith)
zeros_behind (x ∷ xs) k (suc i) h = zeros_behind xs k i (omega arith)

packed-zeros : {A : Type 0} (f : Form A) → Lawful f → (room : ℕ) (l : List A) (i : ℕ) → f.width * length l ≤ i → get_or (packed f room l) i 0 ≡ 0
unfolding packed pad_to
packed-zeros f ok room l i h = zeros_behind (write_many f l) (room - length (write_many f l)) i (omega (arith, length-write_many f ok l))

-- buffers of the right lengths have the right sizes
pub fits_sized : (c : Control) (n0 n1 nq nd : ℕ) → n0 ≡ 2 * c.r → n1 ≡ 2 * c.r → nq ≡ 3 * c.queue_room → nd ≡ 2 * c.detector_room → sized c n0 n1 nq nd ≡ true
unfolding lengths_fit
fits_sized c n0 n1 nq nd e0 e1 eq ed = rw (eq-eqb n0 (2 * c.r) e0, eq-eqb n1 (2 * c.r) e1, eq-eqb nq (3 * c.queue_room) eq, eq-eqb nd (2 * c.detector_room) ed)

module _ (c : Control) (s : Store) (contents : SoundContents (numbers_of c) s) where
  table_back : (t : List Cell) → length t ≡ c.r → read_many cell_form c.r (write_many cell_form t) ≡ t
  table_back t e = ap (λ k. read_many cell_form k (write_many cell_form t)) (sym e) ∙ read_all cell_form cell_lawful t

  -- what is written is read back
  pub reads_back : store_of (record_of c s) (words_of c s) ≡ s
  unfolding words_in record_of
  reads_back = λ i. store
      (record { table0 = table_back s.tables.table0 (contents.table_size table_0) i; table1 = table_back s.tables.table1 (contents.table_size table_1) i })
      (read_packed entry_form entry_lawful (3 * c.queue_room) s.waiting i) (read_packed pair_form pair_lawful (2 * c.detector_room) s.marked i)

  pub written_sized : sized_in (record_of c s) (words_of c s) ≡ true
  unfolding words_in record_of
  written_sized = fits_sized (record_of c s) _ _ _ _
      (length-write_many cell_form cell_lawful s.tables.table0 ∙ ap (λ k. 2 * k) (contents.table_size table_0))
      (length-write_many cell_form cell_lawful s.tables.table1 ∙ ap (λ k. 2 * k) (contents.table_size table_1))
      (length-packed entry_form entry_lawful (3 * c.queue_room) s.waiting (omega (arith, contents.queue_fits)))
      (length-packed pair_form pair_lawful (2 * c.detector_room) s.marked (omega (arith, contents.detector_fits)))

  -- the words and the record of a sound store are sound
  pub written_sound : in_range c ≡ true → SoundIn (record_of c s) (words_of c s)
  unfolding words_in record_of
  written_sound ranges = record {
    in_range = unfold numbers_in_range in ranges;
    buffers = written_sized;
    contents = subst (SoundContents (numbers_of c)) (sym reads_back) contents;
    queue_zeros = packed-zeros entry_form entry_lawful (3 * c.queue_room) s.waiting;
    detector_zeros = packed-zeros pair_form pair_lawful (2 * c.detector_room) s.marked;
  }

pub open_is_sound : OpenIsSound
open_is_sound c m = by_open c m (λ o. o.answer.number ≡ 0 → SoundIn o.answer.control o.lent) (λ e. absurd (omega arith)) (λ e. absurd (omega arith))
    (λ ranges fit e. unfold record_of fresh in written_sound c (fresh (numbers_of c)) (fresh-sound (numbers_of c)) ranges)
