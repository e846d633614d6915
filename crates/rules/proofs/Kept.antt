-- Every step keeps what the store holds, so a sound store stays sound and lookup answers as before. Assumes nothing.
use Prim.Native.Nat.{ℕ, ◌+◌, ◌<◌}
use mathlib.Core.Path.{◌≡◌, refl, sym, ◌∙◌, ap, subst}
use mathlib.Core.Logic.{◌≢◌, ◌↔◌, ⊎_elim}
use mathlib.Core.List.Memᴰ.{head as here}
use mathlib.Core.List.Memᴰ.{tail as there}
use mathlib.Core.List.{List, [], ◌∷◌, ◌++◌}
use native.Mathlib.Omega.{arith}
use lib.ListN.{length}
use Rattle.lists.specs.Lists.{◌∈◌, NoDup}
use Rattle.lists.proofs.Weigh.{weigh, weigh-append, is_one}
use Rattle.numbers.proofs.Ranges.{good_nonzero}
use Rattle.rules.specs.Store.{Table, other, meant, Cell, Entry, cell_at, put_cell, Store, Numbers, IntoCells}
use Rattle.rules.specs.Step.{taken, headed, is_marked, landed, set_aside, moved, step_at, step}
use Rattle.rules.specs.Run.{run}
use Rattle.rules.specs.Search.{lookup}
use Rattle.rules.specs.Sound.{present, IsGood, SoundContents}
use Rattle.rules.specs.Keeps.{StepKeepsSound, StepKeepsLookup}
use Rattle.rules.proofs.Steps.{by_kind, by_front}
use Rattle.rules.proofs.Runs.{run-keeps}
use Rattle.rules.specs.Contents.{contents}
use Rattle.rules.proofs.Weights.{only, only_free, only-held, weight_in, waiting_weight, weight, weight_put, to_present, of_present_weight, once_weight, weight_once, to_contents, of_contents_weight, is_cell}
use Rattle.rules.proofs.Lookup.{Looked, looked, lookup-held, lookup_absent}
use Rattle.rules.proofs.Parts.{TablesSound, EntrySound, parts, tables_of, queue_of, marks_of, put_sound, side_sound, queue_behind, queue_front, no_marks, mark_more}

-- two stores hold the same keys with the same values
pub Same : Store → Store → Type 0
Same s u = (w : Cell → ℕ) → weight w u ≡ weight w s

pub same_refl : (s : Store) → Same s s
unfolding Same
same_refl s w = refl

pub same_trans : (s u x : Store) → Same s u → Same u x → Same s x
unfolding Same
same_trans s u x p q w = q w ∙ p w

pub same_present : (s u : Store) → Same s u → (k : ℕ) → (k ∈ present u) ↔ (k ∈ present s)
unfolding Same
same_present s u same k = (
  λ m. to_present k s (omega (arith, of_present_weight k u m, same (λ c. is_one k c.key))),
  λ m. to_present k u (omega (arith, of_present_weight k s m, same (λ c. is_one k c.key))),
)

pub same_contents : (s u : Store) → Same s u → (c : Cell) → c ∈ contents s → c ∈ contents u
unfolding Same
same_contents s u same c m = to_contents c u (omega (arith, of_contents_weight c s m, same (is_cell c)))

same_once : (s u : Store) → Same s u → NoDup (present s) → NoDup (present u)
unfolding Same
same_once s u same d = once_weight u (λ k. omega (arith, weight_once s d k, same (λ c. is_one k c.key)))

-- lookup answers what is held
pub lookup_as : (n : Numbers) (s u : Store) → SoundContents n s → SoundContents n u → (k : ℕ) → IsGood k
    → ((v : ℕ) → record { key = k; value = v } ∈ contents s → record { key = k; value = v } ∈ contents u) → (k ∈ present u → k ∈ present s) → lookup n k u ≡ lookup n k s
unfolding Looked
lookup_as n s u sound sound' k good onward back =
    ⊎_elim (λ t. lookup-held n u sound' k good t.0 (onward t.0 t.3) ∙ sym t.1) (λ t. lookup_absent n u sound' k good (λ m. t.1 (back m)) ∙ sym t.0) (looked n s sound k good)

pub waiting_behind : (w : Cell → ℕ) (q : List Entry) (e : Entry) → waiting_weight w (q ++ e ∷ []) ≡ waiting_weight w q + w (taken e)
waiting_behind w q e = weigh-append (λ x. w (taken x)) q (e ∷ []) ∙ unfold weigh in omega arith

waiting_front : (w : Cell → ℕ) (e : Entry) (q : List Entry) → waiting_weight w (e ∷ q) ≡ w (taken e) + waiting_weight w q
waiting_front w e q = unfold weigh in refl

-- a step with e in front, in table t, e's home being i
module _ (n : Numbers) (t : Table) (i : ℕ) (e : Entry) (q : List Entry) (s : Store) (sound : SoundContents n s) (front : s.waiting ≡ e ∷ q)
    (home : n.home t e.key ≡ i) (inside : i < n.r) where
  e-sound : EntrySound e
  e-sound = (queue_of n s sound).entries e (subst (λ l. e ∈ l) (sym front) (here refl))

  q_sound : (d : Entry) → d ∈ q → EntrySound d
  q_sound d m = (queue_of n s sound).entries d (subst (λ l. d ∈ l) (sym front) (there m))

  nonzero : e.key ≢ 0
  nonzero = good_nonzero e.key e-sound.0

  room : length q < n.Q
  room = omega (arith, sound.queue_fits, ap length front)

  old_weight : (w : Cell → ℕ) → weight w s ≡ weight_in w s.tables + (w (taken e) + waiting_weight w q)
  unfolding weight
  old_weight w = ap (λ l. weight_in w s.tables + waiting_weight w l) front ∙ ap (λ m. weight_in w s.tables + m) (waiting_front w e q)

  put : (w : Cell → ℕ) → weight_in w (put_cell s.tables t i (taken e)) + only w (cell_at s.tables t i) ≡ weight_in w s.tables + w (taken e)
  put w = weight_put w s.tables t i (taken e) (omega (arith, sound.table_size t)) ∙ ap (λ m. weight_in w s.tables + m) (only-held w (taken e) nonzero)

  put_tables : TablesSound n (put_cell s.tables t i (taken e))
  put_tables = put_sound n s.tables (tables_of n s sound) t i (taken e) inside (record { good = λ z. e-sound.0; at_home = λ z. home; free = λ z. absurd (nonzero z) })

  -- kind 1
  landed_same : (cell_at s.tables t i).key ≡ 0 → Same s (landed t i e q s)
  unfolding Same weight
  landed_same free w = omega (arith, put w, only_free w (cell_at s.tables t i) free, old_weight w)

  -- kind 2
  aside_same : Same s (set_aside t e q s)
  unfolding Same weight
  aside_same w = omega (arith, waiting_behind w q (headed t (taken e)), old_weight w)

  -- kind 3
  moved_same : (cell_at s.tables t i).key ≢ 0 → Same s (moved t i e q s)
  unfolding Same weight
  moved_same taken w = omega (arith, put w, only-held w (cell_at s.tables t i) taken, old_weight w, waiting_front w (headed (other t) (cell_at s.tables t i)) q)

  -- a step leaves a sound store that holds the same
  abbrev Keeps : Store → Type 0
  Keeps u = SoundContents n u × Same s u

  landed-keeps : (cell_at s.tables t i).key ≡ 0 → Keeps (landed t i e q s)
  landed-keeps free = (parts n _ put_tables (record { fits = omega (arith, room); entries = q_sound }) (no_marks n) (same_once s _ (landed_same free) sound.no_key_twice), landed_same free)

  aside_keeps : Keeps (set_aside t e q s)
  aside_keeps = (parts n _ (tables_of n s sound) (queue_behind n q (headed t (taken e)) room q_sound (e-sound.0, side_sound t)) (no_marks n) (same_once s _ aside_same sound.no_key_twice), aside_same)

  moved_keeps : (cell_at s.tables t i).key ≢ 0 → is_marked e.key t s.marked ≡ mathlib.Core.Bool.false → length s.marked < n.D → Keeps (moved t i e q s)
  moved_keeps held fresh l = (
    parts n _ put_tables
        (queue_front n q (headed (other t) (cell_at s.tables t i)) room q_sound (sound.good_cell t i held, side_sound (other t)))
        (mark_more n s.marked e.key t (marks_of n s sound) l fresh e-sound.0) (same_once s _ (moved_same held) sound.no_key_twice),
    moved_same held,
  )

  step_in_keeps : Keeps (step_at n.D t i e q s).store
  step_in_keeps = by_kind (λ d. Keeps d.store) n.D t i e q s landed-keeps (λ held w. aside_keeps) moved_keeps

module _ (n : Numbers) (into : IntoCells n) where
  step_keeps : (s : Store) → SoundContents n s → SoundContents n (step n s).store × Same s (step n s).store
  step_keeps s sound = by_front (λ d. SoundContents n d.store × Same s d.store) n s (λ w. (sound, same_refl s))
      (λ e q w. step_in_keeps n (meant e.side) (n.home (meant e.side) e.key) e q s sound w refl (into (meant e.side) e.key))

  pub step-sound : (s : Store) → SoundContents n s → SoundContents n (step n s).store
  step-sound s sound = (step_keeps s sound).0

  pub step-present : (s : Store) → SoundContents n s → (k : ℕ) → (k ∈ present (step n s).store) ↔ (k ∈ present s)
  step-present s sound k = same_present s (step n s).store (step_keeps s sound).1 k

  -- and so does a run
  pub run_sound_same : (b : ℕ) (s : Store) → SoundContents n s → SoundContents n (run n b s).store × Same s (run n b s).store
  run_sound_same b s sound = run-keeps n (λ u. SoundContents n u × Same s u)
      (λ u k. ((step_keeps u k.0).0, same_trans s u (step n u).store k.1 (step_keeps u k.0).1)) b s (sound, same_refl s)

  same_lookup : (s u : Store) → SoundContents n s → SoundContents n u → Same s u → (k : ℕ) → IsGood k → lookup n k u ≡ lookup n k s
  same_lookup s u sound sound' same k good = lookup_as n s u sound sound' k good (λ v. same_contents s u same (record { key = k; value = v })) (λ m. (same_present s u same k).0 m)

  pub run-lookup : (b : ℕ) (s : Store) → SoundContents n s → (k : ℕ) → IsGood k → lookup n k (run n b s).store ≡ lookup n k s
  run-lookup b s sound k good = let r = run_sound_same b s sound in same_lookup s (run n b s).store sound r.0 r.1 k good

  pub step-lookup : (s : Store) → SoundContents n s → (k : ℕ) → IsGood k → lookup n k (step n s).store ≡ lookup n k s
  step-lookup s sound k good = let r = step_keeps s sound in same_lookup s (step n s).store sound r.0 r.1 k good

pub step_keeps_sound : StepKeepsSound
step_keeps_sound n into s sound = step-sound n into s sound

pub step_keeps_lookup : StepKeepsLookup
step_keeps_lookup n into s sound k good = step-lookup n into s sound k good
