-- The record that stands at a place with ten bytes. Assumes nothing.
use Prim.Native.Nat.{ℕ, ◌+◌, ◌≤◌}
use mathlib.Core.Path.{◌≡◌, refl, sym, ◌∙◌, ap}
use mathlib.Core.Bool.{Bool, true, false, cond}
use mathlib.Core.List.{List}
use mathlib.Core.Option.{Option, none, some}
use native.Mathlib.Omega.{arith}
use lib.Dec.{eqb, leb}
use lib.ListN.{length}
use borrow.Author.Tests.{ne_eqb, le-leb, leb-true}
use Rattle.records.specs.Record.{Fields, fields_at, if_good, or_refuse10, Answer, taken, refused, ended, record_at, read_at}
use Rattle.records.specs.Told.{told}
use Rattle.records.specs.declared.Command.{Command}
use Rattle.records.specs.declared.Reading.{Reading}
use Rattle.records.specs.declared.Reading.TheVariants.{Good}

pub has_ten : (bytes : List ℕ) (place : ℕ) → place + 10 ≤ length bytes → record_at bytes place ≡ read_at bytes place
unfolding read_at
has_ten bytes place s =
    let apart : place ≡ length bytes → ⊥ = λ e. omega arith in
    rw (ne_eqb _ _ apart, le-leb _ _ s)

-- the next place that an answer names, if it names one
abbrev pub next_in : Answer → ℕ
next_in (taken number f next) = next
next_in (refused number value place) = 0
next_in ended = 0

-- a record that can be read lies inside
pub good_inside :
    (bytes : List ℕ) (place : ℕ) {r : Reading} {command : Command} {next : ℕ}
    → told r ≡ read_at bytes place → r ≡ Good command next → next ≤ length bytes
unfolding read_at record_at
good_inside bytes place {r} {command} {next} says is =
    let named : next ≡ next_in (read_at bytes place) = ap (λ u. next_in (told u)) (sym is) ∙ ap next_in says in
    let inside : next_in (read_at bytes place) ≤ length bytes =
    go (eqb place (length bytes)) (leb (place + 10) (length bytes)) (if_good (fields_at bytes place)) refl in
    rw (sym named) at inside
  where
    go :
        (e l : Bool) (o : Option Fields) → leb (place + 10) (length bytes) ≡ l
        → next_in (cond e ended (cond l (or_refuse10 o place) (refused 10 0 place))) ≤ length bytes
    go true l o h = omega arith
    go false true (some f) h = leb-true (place + 10) (length bytes) h
    go false true none h = omega arith
    go false false o h = omega arith
