-- What the code's change answers and leaves is what the rules' change does. Assumes nothing.
use Prim.Native.Nat.{ℕ}
use mathlib.Core.Path.{◌≡◌, refl, sym, ap, ◌∙◌}
use mathlib.Core.Bool.{Bool, true, false, not}
use mathlib.Core.List.{List}
use mathlib.Core.Option.{Option as RulesOption, none, some}
use borrow.Author.Tests.{not-true, not-false}
use Rattle.numbers.specs.Ranges.{good_key}
use Rattle.rules.specs.Store.{Store, Numbers}
use Rattle.rules.specs.Search.{search, lookup}
use Rattle.rules.specs.Calls.{answer, change}
use Rattle.layout.specs.Memory.{Lent, lent}
use Rattle.numbers.specs.declared.Setup.{Setup}
use Rattle.finding.specs.declared.Place.{Place}
use Rattle.finding.specs.declared.Seen.{Seen}
use Rattle.finding.specs.declared.Place.TheVariants.{Table0, Table1, Waiting, Nowhere}
use Rattle.finding.specs.Inner.{numbers_of, store_of, answered, Outcome, outcome, place_of, Sees, value_in, reply_of, Told}
use Rattle.finding.proofs.Searching.{as_code, held}
use Rattle.changing.specs.Change.{put_value, changing, Exchanged}

module _ (n : Numbers) (x v : ℕ) (s : Store) where
  change_answers : (w : RulesOption ℕ) → good_key x ≡ true → lookup n x s ≡ w → (change n x v s).answer ≡ reply_of (as_code w)
  unfolding change
  change_answers (some h) g e = simp (g, e)
  change_answers none g e = simp (g, e)

  change_refuses : good_key x ≡ false → (change n x v s).answer ≡ answer 4 0 0 0
  unfolding change
  change_refuses g = simp g

-- what a change leaves, by the place that the search answers
changing_at : (setup : Setup) (x v : ℕ) (m : Lent) (p : Place) → place_of p ≡ search (numbers_of setup) x (store_of setup m)
    → changing setup x v m (reply_of (value_in m p)) ≡ outcome (put_value (place_of p) v m) (answered setup.rooms (reply_of (value_in m p)))
unfolding changing
changing_at setup x v m (Table0 i) e = rw (sym e)
changing_at setup x v m (Table1 i) e = rw (sym e)
changing_at setup x v m (Waiting j) e = rw (sym e)
changing_at setup x v m Nowhere e = refl

-- k is the code's test of the key
module _ (setup : Setup) (x v : ℕ) (m : Lent) {k : Bool} (test : k ≡ good_key x) where
  abbrev Changes : Outcome → Type 0
  Changes o = o ≡ changing setup x v m (change (numbers_of setup) x v (store_of setup m)).answer

  pub changes_bad : not k ≡ true → Changes (outcome m (answered setup.rooms (answer 4 0 0 0)))
  unfolding changing
  changes_bad bad = rw (change_refuses (numbers_of setup) x v (store_of setup m) (sym test ∙ not-true k bad))

  module _ (good : not k ≡ false) {s : Seen} (sees : Sees setup x m s) where
    changes_at : (p : Place) → s.place ≡ p → Changes (outcome (put_value (place_of p) v m) (answered setup.rooms (reply_of (value_in m p))))
    changes_at p at =
        let says : as_code (lookup (numbers_of setup) x (store_of setup m)) ≡ value_in m p = held test good sees ∙ sees.says ∙ ap (value_in m) at in
        let answers = change_answers (numbers_of setup) x v (store_of setup m) _ (sym test ∙ not-false k good) refl in
        sym (ap (changing setup x v m) (answers ∙ ap reply_of says) ∙ changing_at setup x v m p (ap place_of (sym at) ∙ sees.at.is))

    pub changes_first : {i : ℕ} {t : List ℕ} {a : Told} → s.place ≡ Table0 i → Exchanged setup.rooms 2 i v m.table0 t a
        → Changes (outcome (lent t m.table1 m.queue m.detector) a)
    changes_first {i} at e = (λ j. outcome (lent (e.words j) m.table1 m.queue m.detector) (e.answer j)) ∙ changes_at (Table0 i) at

    pub changes_second : {i : ℕ} {t : List ℕ} {a : Told} → s.place ≡ Table1 i → Exchanged setup.rooms 2 i v m.table1 t a
        → Changes (outcome (lent m.table0 t m.queue m.detector) a)
    changes_second {i} at e = (λ j. outcome (lent m.table0 (e.words j) m.queue m.detector) (e.answer j)) ∙ changes_at (Table1 i) at

    pub changes_waiting : {i : ℕ} {t : List ℕ} {a : Told} → s.place ≡ Waiting i → Exchanged setup.rooms 3 i v m.queue t a
        → Changes (outcome (lent m.table0 m.table1 t m.detector) a)
    changes_waiting {i} at e = (λ j. outcome (lent m.table0 m.table1 (e.words j) m.detector) (e.answer j)) ∙ changes_at (Waiting i) at

    pub changes_none : s.place ≡ Nowhere → Changes (outcome m (answered setup.rooms (answer 7 0 0 0)))
    changes_none at = changes_at Nowhere at
