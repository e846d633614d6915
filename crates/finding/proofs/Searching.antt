-- From what the code reads in the words to the place that the rules' search answers, and from a place to what find answers. Assumes nothing.
use Rattle.std.proofs.Common.{◌≡◌, Option, Some, None, ℕ, ◌+◌, ◌*◌, ◌<◌, Bool, true, false, not, ◌≢◌, List, get_or}
use Rattle.std.proofs.Common.{sym, refl, ap, ◌∙◌, subst, get_or-drop, eq-eqb, ne_eqb}
use mathlib.Core.Option.{Option as RulesOption, none, some}
use borrow.Author.Tests.{not-true, not-false}
use Rattle.numbers.specs.Ranges.{good_key}
use Rattle.numbers.specs.Homes.{home0, home1}
use Rattle.numbers.proofs.Home.{home0_in_table, home1_in_table}
use Rattle.rules.specs.Store.{Table, table_0, table_1, Cell, Entry, cell_at, Store, Numbers}
use Rattle.rules.specs.Search.{in_table, search_queue, search, no_entry, value_at, lookup}
use Rattle.rules.specs.Calls.{answer, find}
use Rattle.layout.specs.Forms.{entry_form}
use Rattle.layout.specs.Places.{FirstPlace}
use Rattle.layout.proofs.Forms.{read_at}
use Rattle.steps.specs.Shape.{TablesReady}
use Rattle.steps.proofs.InTable.{cell_read}
use Rattle.layout.specs.Memory.{Lent, entries_in}
use Rattle.numbers.specs.declared.Rooms.{Rooms}
use Rattle.numbers.specs.declared.Setup.{Setup}
use Rattle.finding.specs.declared.Place.{Place}
use Rattle.finding.specs.declared.Seen.{Seen}
use Rattle.finding.specs.declared.Place.TheVariants.{Table0, Table1, Waiting, Nowhere}
use Rattle.finding.specs.Inner.{numbers_of, store_of, answered, place_of, IsInside, Located, value_in, reply_of, is_neither, Sees, SeesInQueue}
use Rattle.finding.proofs.Distances.{neither_is, other_is}

-- the rules' search, by what the homes' cells hold
module _ (n : Numbers) (x : ℕ) (s : Store) where
  abbrev key_home : Table → ℕ
  key_home t = (cell_at s.tables t (n.home t x)).key

  search-first : key_home table_0 ≡ x → search n x s ≡ in_table table_0 (n.home table_0 x)
  unfolding search
  search-first e = simp (eq-eqb _ _ e)

  search-second : key_home table_0 ≢ x → key_home table_1 ≡ x → search n x s ≡ in_table table_1 (n.home table_1 x)
  unfolding search
  search-second ne e = simp (ne_eqb _ _ ne, eq-eqb _ _ e)

  search_queue_lem : key_home table_0 ≢ x → key_home table_1 ≢ x → search n x s ≡ search_queue 0 x s.waiting
  unfolding search
  search_queue_lem ne ne' = simp (ne_eqb _ _ ne, ne_eqb _ _ ne')

abbrev seen : Place → Option ℕ → Seen
seen p value = record { place = p; value = value }

-- what the code reads: i and j are the homes of x
module _ (setup : Setup) (x : ℕ) (m : Lent) (ready : TablesReady setup.functions.r m.table0 m.table1) where
  abbrev key_in : Table → ℕ
  key_in t = key_home (numbers_of setup) x (store_of setup m) t

  module _ {i : ℕ} (home : i ≡ home0 setup.functions x) where
    pub first_in : i < setup.functions.r
    first_in = rw home (home0_in_table setup.functions x ready.some)

    key-first : key_in table_0 ≡ get_or m.table0 (2 * i) 0
    key-first = rw home (ap (λ (e : Cell). e.key) (cell_read setup.functions.r (home0 setup.functions x) m.table0
        (home0_in_table setup.functions x ready.some)))

  module _ {j : ℕ} (home : j ≡ home1 setup.functions x) where
    pub second_in : j < setup.functions.r
    second_in = rw home (home1_in_table setup.functions x ready.some)

    key-second : key_in table_1 ≡ get_or m.table1 (2 * j) 0
    key-second = rw home (ap (λ (e : Cell). e.key) (cell_read setup.functions.r (home1 setup.functions x) m.table1
        (home1_in_table setup.functions x ready.some)))

  module _ {i j : ℕ} (home : i ≡ home0 setup.functions x) (home' : j ≡ home1 setup.functions x) where
    abbrev key0 : ℕ
    key0 = get_or m.table0 (2 * i) 0

    abbrev key1 : ℕ
    key1 = get_or m.table1 (2 * j) 0

    pub sees_first : key0 ≡ x → Sees setup x m (seen (Table0 i) (Some (get_or m.table0 (2 * i + 1) 0)))
    sees_first e = record {
      at = record { is = rw home (sym (search-first (numbers_of setup) x (store_of setup m) (key-first home ∙ e))); within = first_in home };
      says = refl;
    }

    pub sees_second : is_neither key0 key1 x ≡ false → key0 ≢ x → Sees setup x m (seen (Table1 j) (Some (get_or m.table1 (2 * j + 1) 0)))
    sees_second either not_first = record {
      at = record {
        is = rw home' (
            sym (search-second (numbers_of setup) x (store_of setup m) (λ h. not_first (sym (key-first home) ∙ h))
            (key-second home' ∙ other_is either not_first))
            );
        within = second_in home';
      };
      says = refl;
    }

    pub sees_queue : {s : Seen} → is_neither key0 key1 x ≡ true → SeesInQueue setup.rooms x m.queue s → Sees setup x m s
    sees_queue absent q =
        let not_in = neither_is absent in record {
          at = record {
            is = q.is
                ∙ sym (search_queue_lem (numbers_of setup) x (store_of setup m) (λ h. not_in.0 (sym (key-first home) ∙ h))
                (λ h. not_in.1 (sym (key-second home') ∙ h)));
            within = q.within setup.functions;
          };
          says = q.says m.table0 m.table1 m.detector;
        }

-- the queue alone: k is the place that the code found in it
module _ (c : Rooms) (x : ℕ) (q : List ℕ) where
  pub sees_waiting : {k : ℕ} → FirstPlace x (entries_in c.lengths.queue q) c.lengths.queue (Some k) → SeesInQueue c x q (seen (Waiting k) (Some (get_or q (3 * k + 1) 0)))
  sees_waiting place = record { is = place.place; within = λ f. place.within; says = λ t0 t1 d. refl }

  pub sees_none : FirstPlace x (entries_in c.lengths.queue q) c.lengths.queue None → SeesInQueue c x q (seen Nowhere None)
  sees_none place = record { is = place.place; within = λ f. tt; says = λ t0 t1 d. refl }

-- an option of the rules as one of the code
abbrev pub as_code : RulesOption ℕ → Option ℕ
as_code (some v) = Some v
as_code none = None

value_in_lem : (setup : Setup) (m : Lent) (p : Place) → IsInside setup p → as_code (value_at (place_of p) (store_of setup m)) ≡ value_in m p
value_in_lem setup m (Table0 i) h = ap (λ (e : Cell). Some e.value) (cell_read setup.functions.r i m.table0 h)
value_in_lem setup m (Table1 i) h = ap (λ (e : Cell). Some e.value) (cell_read setup.functions.r i m.table1 h)
value_in_lem setup m (Waiting j) h = ap (λ (e : Entry). Some e.value) (read_at entry_form setup.rooms.lengths.queue j m.queue no_entry h) ∙ simp get_or-drop
value_in_lem setup m Nowhere h = refl

module _ (n : Numbers) (x : ℕ) (s : Store) where
  find_answers : (w : RulesOption ℕ) → good_key x ≡ true → lookup n x s ≡ w → (find n x s).answer ≡ reply_of (as_code w)
  unfolding find
  find_answers (some v) g e = simp (g, e)
  find_answers none g e = simp (g, e)

  find_refuses : good_key x ≡ false → (find n x s).answer ≡ answer 4 0 0 0
  unfolding find
  find_refuses g = simp g

-- the place that the code's search answered, as its match finds it
pub located_as : {setup : Setup} {x : ℕ} {m : Lent} {p p' : Place} → Located setup x m p → p ≡ p' → Located setup x m p'
located_as {setup} {x} {m} at is = subst (Located setup x m) is at

-- what the code answers is what the rules do: k is the code's test of the key
module _ (setup : Setup) (x : ℕ) (m : Lent) {k : Bool} (test : k ≡ good_key x) where
  pub found_bad : not k ≡ true → answered setup.rooms (answer 4 0 0 0) ≡ answered setup.rooms (find (numbers_of setup) x (store_of setup m)).answer
  found_bad bad = ap (answered setup.rooms) (sym (find_refuses (numbers_of setup) x (store_of setup m) (sym test ∙ not-true k bad)))

module _ {setup : Setup} {x : ℕ} {m : Lent} {k : Bool} (test : k ≡ good_key x) (good : not k ≡ false) where
  -- the value that lookup finds is the one that the search saw
  pub held : {s : Seen} → Sees setup x m s → as_code (lookup (numbers_of setup) x (store_of setup m)) ≡ s.value
  unfolding lookup
  held {s} sees = rw (sym sees.at.is) (value_in_lem setup m s.place sees.at.within) ∙ sym sees.says

  pub found_at : {s : Seen} → Sees setup x m s → answered setup.rooms (reply_of s.value)
      ≡ answered setup.rooms (find (numbers_of setup) x (store_of setup m)).answer
  found_at {s} sees =
      ap (answered setup.rooms) (ap reply_of (sym (held sees)) ∙ sym (find_answers (numbers_of setup) x (store_of setup m) _
      (sym test ∙ not-false k good) refl))
