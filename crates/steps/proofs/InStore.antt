-- From a step in one table to the step of the rules. Assumes nothing.
use Prim.Native.Nat.{ℕ, zero, suc, ◌<◌}
use mathlib.Core.Path.{◌≡◌, refl, sym, ap, subst, ◌∙◌}
use mathlib.Core.List.{List, ◌∷◌}
use native.Mathlib.Omega.{arith}
use lib.ListN.{get_or, drop}
use Rattle.rules.specs.Store.{Table, table_0, table_1, meant, Cell, Entry, Tables, Store, Numbers}
use Rattle.rules.specs.Step.{Stepped, step_at, step_from, step}
use Rattle.layout.specs.Memory.{cells_in, entries_in, homes_of, store_in}
use Rattle.layout.specs.Forms.{read_many}
use Rattle.numbers.specs.declared.Functions.{Functions}
use Rattle.numbers.specs.Homes.{home0, home1}
use Rattle.kinds.specs.declared.Turn.{Turn}
use Rattle.kinds.specs.Shape.{entry}
use Rattle.steps.specs.Shape.{After, StepsWith, Follows}

-- the front entry and the rest
front : (ql : ℕ) (q : List ℕ) → 0 < ql → entries_in ql q ≡ entry (get_or q 0 0) (get_or q 1 0) (get_or q 2 0) ∷ drop 1 (entries_in ql q)
unfolding read_many
front zero q h = absurd (omega arith)
front (suc ql) q h = refl

module _ (n : Numbers) (f : Functions) (room ql dl : ℕ) (t0 t1 q d : List ℕ) (w : StepsWith n f room) (some : 0 < ql) where
  abbrev s : Store
  s = store_in f.r ql dl t0 t1 q d

  abbrev rest : List Entry
  rest = drop 1 (entries_in ql q)

  -- a step looks at its entry's key and value alone
  as_table : (t : Table) (b : ℕ) → meant (get_or q 2 0) ≡ t
      → step n s ≡ step_at room t (homes_of f t (get_or q 0 0)) (entry (get_or q 0 0) (get_or q 1 0) b) rest s
  unfolding step step_from step_at
  as_table t b side =
      ap (step_from n s) (front ql q some)
      ∙ ap (λ u. step_at n.D u (n.home u (get_or q 0 0)) (entry (get_or q 0 0) (get_or q 1 0) (get_or q 2 0)) rest s) side
      ∙ ap (λ D. step_at D t (n.home t (get_or q 0 0)) (entry (get_or q 0 0) (get_or q 1 0) b) rest s) w.detector_room
      ∙ ap (λ h. step_at room t (h t (get_or q 0 0)) (entry (get_or q 0 0) (get_or q 1 0) b) rest s) w.homes

  module _ (nq nd : ℕ) (q' d' : List ℕ) (a : Turn) where
    -- the lengths and the kind that a step in a table answers
    lengths : (x : Stepped) (t : Table) (o : List Cell) (tw u0 u1 : List ℕ) → After f.r x t o nq nd tw q' d' a
        → cells_in f.r u0 ≡ x.store.tables.table0 → cells_in f.r u1 ≡ x.store.tables.table1 → Follows f.r nq nd x u0 u1 q' d' a
    lengths x t o tw u0 u1 l e0 e1 = record {
      words = record {
        first = e0;
        second = e1;
        queue = l.queue;
        detector = l.detector;
        queue_len = l.queue_len;
        detector_len = l.detector_len;
      };
      kind = l.kind;
    }

    pub first_table : (t' : List ℕ) → meant (get_or q 2 0) ≡ table_0
        → After f.r (step_at room table_0 (home0 f (get_or q 0 0)) (entry (get_or q 0 0) (get_or q 1 0) 0) rest s) table_0 (cells_in f.r t1) nq nd t' q' d' a
        → Follows f.r nq nd (step n s) t' t1 q' d' a
    first_table t' side l = subst (λ x. Follows f.r nq nd x t' t1 q' d' a) (sym (as_table table_0 0 side))
        (lengths _ table_0 (cells_in f.r t1) t' t' t1 l (ap (λ (ts : Tables). ts.table0) l.tables) (ap (λ (ts : Tables). ts.table1) l.tables))

    pub second_table : (t' : List ℕ) → meant (get_or q 2 0) ≡ table_1
        → After f.r (step_at room table_1 (home1 f (get_or q 0 0)) (entry (get_or q 0 0) (get_or q 1 0) 1) rest s) table_1 (cells_in f.r t0) nq nd t' q' d' a
        → Follows f.r nq nd (step n s) t0 t' q' d' a
    second_table t' side l = subst (λ x. Follows f.r nq nd x t0 t' q' d' a) (sym (as_table table_1 1 side))
        (lengths _ table_1 (cells_in f.r t0) t' t0 t' l (ap (λ (ts : Tables). ts.table0) l.tables) (ap (λ (ts : Tables). ts.table1) l.tables))
