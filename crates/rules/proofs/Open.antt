-- A store just opened is sound and holds nothing. Assumes nothing.
use Prim.Native.Nat.{ℕ, zero, suc}
use mathlib.Core.Path.{◌≡◌, refl, sym, ap, subst}
use mathlib.Core.List.Memᴰ.{not-nil}
use mathlib.Core.List.{[]}
use mathlib.Core.Option.{none}
use native.Mathlib.Omega.{arith}
use lib.ListN.{length, replicate, get_or, length-replicate}
use Rattle.lists.specs.Lists.{◌∈◌, NoDup, nil}
use Rattle.rules.specs.Store.{Table, table_0, table_1, Cell, free_cell, table_of, cell_at, Numbers, fresh}
use Rattle.rules.specs.Search.{lookup}
use Rattle.rules.specs.Sound.{occupied, present, IsGood, SoundContents}
use Rattle.rules.specs.Keeps.{OpenIsSound}
use Rattle.rules.proofs.Parts.{parts, no_marks}
use Rattle.rules.proofs.Lookup.{lookup_absent}

none_occupied : (r : ℕ) → occupied (replicate r free_cell) ≡ []
unfolding occupied
none_occupied zero = refl
none_occupied (suc r) = none_occupied r

free_cells : (r i : ℕ) → get_or (replicate r free_cell) i free_cell ≡ free_cell
free_cells zero i = refl
free_cells (suc r) zero = refl
free_cells (suc r) (suc i) = free_cells r i

pub fresh-present : (n : Numbers) → present (fresh n) ≡ []
unfolding present fresh
fresh-present n = rw (none_occupied n.r)

pub fresh-sound : (n : Numbers) → SoundContents n (fresh n)
fresh-sound n = parts n (fresh n) (unfold fresh in record {
  size = size;
  good = λ t i held. absurd (held (ap (λ (c : Cell). c.key) (free t i)));
  at_home = λ t i held. absurd (held (ap (λ (c : Cell). c.key) (free t i)));
  free = λ t i z. ap (λ (c : Cell). c.value) (free t i);
})
    (unfold fresh in record { fits = omega arith; entries = λ e m. absurd (not-nil m) }) (unfold fresh in no_marks n) (subst NoDup (sym (fresh-present n)) nil)
  where
    size : (t : Table) → length (table_of t (fresh n).tables) ≡ n.r
    size table_0 = unfold fresh in length-replicate n.r free_cell
    size table_1 = unfold fresh in length-replicate n.r free_cell

    free : (t : Table) (i : ℕ) → cell_at (fresh n).tables t i ≡ free_cell
    free table_0 i = unfold fresh in free_cells n.r i
    free table_1 i = unfold fresh in free_cells n.r i

pub open_is_sound : OpenIsSound
open_is_sound = fresh-sound

pub fresh-lookup : (n : Numbers) (k : ℕ) → IsGood k → lookup n k (fresh n) ≡ none
fresh-lookup n k good = lookup_absent n (fresh n) (fresh-sound n) k good (λ m. not-nil (subst (λ l. k ∈ l) (fresh-present n) m))
