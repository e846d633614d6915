-- Every call keeps a sound store sound, and changes what lookup answers only as it says. Assumes nothing.
use Prim.Native.Nat.{ℕ, zero, suc, ◌+◌, ◌≤◌, ◌<◌}
use mathlib.Core.Path.{◌≡◌, refl, sym, ◌∙◌, ap, subst}
use mathlib.Core.Logic.{◌⊎◌, inl, inr, ◌≢◌, ⊎_elim}
use mathlib.Core.Bool.{Bool, true, false, cond, not}
use mathlib.Core.List.Memᴰ.{cases_cons as split}
use mathlib.Core.List.Memᴰ.{head as here}
use mathlib.Core.List.Memᴰ.{tail as there}
use mathlib.Core.List.{List, [], ◌∷◌}
use mathlib.Core.Option.{none, some}
use native.Mathlib.Omega.{arith}
use native.Mathlib.Decide.{ℕ_discrete}
use borrow.Author.Tests.{eqb-true, eqb-false, leb-false}
use lib.Dec.{eqb, leb, ltb}
use lib.ListN.{length, length-set, set}
use Rattle.lists.specs.Lists.{◌∈◌, NoDup}
use Rattle.lists.proofs.Weigh.{weigh, weigh-set, is_one, is_one_same, is_one-other, is_one_small, times_none}
use Rattle.numbers.specs.Ranges.{good_key}
use Rattle.numbers.proofs.Ranges.{good_nonzero}
use Rattle.rules.specs.Store.{Table, Cell, free_cell, Entry, cell_at, Store, Numbers, IntoCells}
use Rattle.rules.specs.Step.{taken}
use Rattle.rules.specs.Run.{run}
use Rattle.rules.specs.Search.{Place, in_table, waiting_at, nowhere, search, lookup, no_entry, entry_at, key_at, value_at}
use Rattle.rules.specs.Calls.{joined, with_entry_value, with_value, drop_at, without, Outcome, refused, accepted, accepted_run, refuse_if, refuse5, or_refuse7, find, define, change, remove, settle, Call, Find, Define, Change, Remove, Settle, does}
use Rattle.rules.specs.Sound.{present, IsGood, SoundContents}
use Rattle.rules.specs.Keeps.{after_call, CallKeepsSound, CallChangesLookup}
use Rattle.rules.specs.Contents.{contents}
use Rattle.rules.proofs.Weights.{only_free, only-held, waiting_weight, weight, weight_put, times-present, to_present, of_present_weight, once_weight, weight_once, to_contents, of_contents_weight, is_cell, is_cell_same, is_cell-other, held-weight}
use Rattle.rules.proofs.Lookup.{Looked, looked, lookup-held, lookup_absent}
use Rattle.rules.proofs.Parts.{EntrySound, parts, tables_of, queue_of, marks_of, put_sound, queue_behind}
use Rattle.rules.proofs.Places.{entry-within, entry_in}
use Rattle.rules.proofs.Kept.{lookup_as, waiting_behind, run_sound_same, run-lookup}

abbrev cell : ℕ → ℕ → Cell
cell k v = record { key = k; value = v }

-- a weight of keys alone
abbrev key_weight : ℕ → Cell → ℕ
key_weight k c = is_one k c.key

-- the entries without one, and with another value
pub waiting-drop : (w : Cell → ℕ) (q : List Entry) (j : ℕ) → j < length q → waiting_weight w (drop_at q j) + w (taken (entry_at q j)) ≡ waiting_weight w q
unfolding weigh
waiting-drop w [] j l = absurd (omega arith)
waiting-drop w (e ∷ q) zero l = omega arith
waiting-drop w (e ∷ q) (suc j) l = omega (arith, waiting-drop w q j (omega arith))

waiting_value : (w : Cell → ℕ) (q : List Entry) (j v : ℕ) → j < length q → waiting_weight w (with_entry_value q j v) + w (taken (entry_at q j)) ≡ waiting_weight w q + w (cell (entry_at q j).key v)
waiting_value w q j v l = weigh-set (λ e. w (taken e)) q j (record { key = (entry_at q j).key; value = v; side = (entry_at q j).side }) no_entry l

dropped_in : (q : List Entry) (j : ℕ) (e : Entry) → e ∈ drop_at q j → e ∈ q
dropped_in [] j e m = m
dropped_in (x ∷ q) zero e m = there m
dropped_in (x ∷ q) (suc j) e m = ⊎_elim here (λ i. there (dropped_in q j e i)) (split m)

dropped_length : (q : List Entry) (j : ℕ) → length (drop_at q j) ≤ length q
dropped_length [] j = omega arith
dropped_length (x ∷ q) zero = omega arith
dropped_length (x ∷ q) (suc j) = omega (arith, dropped_length q j)

-- what a set list holds: the new one, or one that was there
set_in : (q : List Entry) (j : ℕ) (a e : Entry) → e ∈ set q j a → (e ≡ a) ⊎ (e ∈ q)
set_in [] j a e m = inr m
set_in (x ∷ q) zero a e m = ⊎_elim inl (λ i. inr (there i)) (split m)
set_in (x ∷ q) (suc j) a e m = ⊎_elim (λ i. inr (here i)) (λ i. ⊎_elim inl (λ k. inr (there k)) (set_in q j a e i)) (split m)

module _ (n : Numbers) (s : Store) (sound : SoundContents n s) where
  -- a place that holds a key is in its table, or in the queue
  cell-within : (t : Table) (i : ℕ) → (cell_at s.tables t i).key ≢ 0 → IntoCells n → i < n.r
  cell-within t i nz into = subst (λ j. j < n.r) (sound.at_home t i nz) (into t (cell_at s.tables t i).key)

  -- the value at a place replaced
  module _ (into : IntoCells n) (v : ℕ) where
    change-weight : (w : Cell → ℕ) (p : Place) (u : ℕ) → key_at p s ≢ 0 → value_at p s ≡ some u → weight w (with_value p v s) + w (cell (key_at p s) u) ≡ weight w s + w (cell (key_at p s) v)
    unfolding weight
    change-weight w (in_table t i) u nz e =
        let f : w (cell (cell_at s.tables t i).key u) ≡ w (cell_at s.tables t i) = let g : (cell_at s.tables t i).value ≡ u = cc in ap (λ x. w (cell (cell_at s.tables t i).key x)) (sym g) in
        omega (
          arith,
          weight_put w s.tables t i (cell (cell_at s.tables t i).key v) (omega (arith, sound.table_size t, cell-within t i nz into)),
          only-held w (cell_at s.tables t i) nz,
          only-held w (cell (cell_at s.tables t i).key v) nz,
        )
    change-weight w (waiting_at j) u nz e =
        let f : w (cell (entry_at s.waiting j).key u) ≡ w (taken (entry_at s.waiting j)) = let g : (entry_at s.waiting j).value ≡ u = cc in ap (λ x. w (cell (entry_at s.waiting j).key x)) (sym g) in
        omega (arith, waiting_value w s.waiting j v (entry-within s.waiting j nz))
    change-weight w nowhere u nz e = absurd (nz refl)

  -- the entry at a place gone
  module _ (into : IntoCells n) where
    remove-weight : (w : Cell → ℕ) (p : Place) (u : ℕ) → key_at p s ≢ 0 → value_at p s ≡ some u → weight w (without p s) + w (cell (key_at p s) u) ≡ weight w s
    unfolding weight
    remove-weight w (in_table t i) u nz e =
        let f : w (cell (cell_at s.tables t i).key u) ≡ w (cell_at s.tables t i) = let g : (cell_at s.tables t i).value ≡ u = cc in ap (λ x. w (cell (cell_at s.tables t i).key x)) (sym g) in
        omega (arith, weight_put w s.tables t i free_cell (omega (arith, sound.table_size t, cell-within t i nz into)), only-held w (cell_at s.tables t i) nz, only_free w free_cell refl)
    remove-weight w (waiting_at j) u nz e =
        let f : w (cell (entry_at s.waiting j).key u) ≡ w (taken (entry_at s.waiting j)) = let g : (entry_at s.waiting j).value ≡ u = cc in ap (λ x. w (cell (entry_at s.waiting j).key x)) (sym g) in
        omega (arith, waiting-drop w s.waiting j (entry-within s.waiting j nz))
    remove-weight w nowhere u nz e = absurd (nz refl)

-- Two stores that weigh the same but for key x.
abbrev SameBut : ℕ → Store → Store → Type 0
SameBut x s u = (w : Cell → ℕ) → ((v : ℕ) → w (cell x v) ≡ 0) → weight w u ≡ weight w s

elsewhere : (n : Numbers) (x : ℕ) (s u : Store) → SoundContents n s → SoundContents n u → SameBut x s u → (k : ℕ) → IsGood k → x ≢ k → lookup n k u ≡ lookup n k s
elsewhere n x s u sound sound' same k good d = lookup_as n s u sound sound' k good
    (λ v m. to_contents (cell k v) u (omega (arith, of_contents_weight (cell k v) s m, same (is_cell (cell k v)) (λ y. is_cell-other (cell k v) (cell x y) d))))
    (λ m. to_present k s (omega (arith, of_present_weight k u m, same (key_weight k) (λ y. is_one-other k x d))))

-- a new key behind the queue, the value at a place replaced, the entry at a place gone
module _ (n : Numbers) (into : IntoCells n) (s : Store) (sound : SoundContents n s) (x : ℕ) (good : IsGood x) where
  joined-weight : (v : ℕ) (w : Cell → ℕ) → weight w (joined x v s) ≡ weight w s + w (cell x v)
  unfolding weight
  joined-weight v w = omega (arith, waiting_behind w s.waiting (record { key = x; value = v; side = 0 }))

  joined-sound : (v : ℕ) → (x ∈ present s → ⊥) → length s.waiting < n.Q → SoundContents n (joined x v s)
  joined-sound v absent room = parts n (joined x v s) (tables_of n s sound)
      (queue_behind n s.waiting (record { key = x; value = v; side = 0 }) room (queue_of n s sound).entries (good, inl refl)) (marks_of n s sound) (once_weight (joined x v s) once)
    where
      once : (k : ℕ) → weight (key_weight k) (joined x v s) ≤ 1
      once k = go (ℕ_discrete x k)
        where
          go : Dec (x ≡ k) → weight (key_weight k) (joined x v s) ≤ 1
          go (yes e) = let z = times_none k (present s) (λ m. absent (subst (λ y. y ∈ present s) (sym e) m)) in omega (arith, joined-weight v (key_weight k), is_one_small k x, times-present k s)
          go (no d) = omega (arith, joined-weight v (key_weight k), is_one-other k x d, weight_once s sound.no_key_twice k)

  joined-lookup : (v : ℕ) → SoundContents n (joined x v s) → (k : ℕ) → IsGood k → lookup n k (joined x v s) ≡ cond (eqb x k) (some v) (lookup n k s)
  joined-lookup v sound' k good' = go (eqb x k) refl
    where
      go : (b : Bool) → eqb x k ≡ b → lookup n k (joined x v s) ≡ cond b (some v) (lookup n k s)
      go true e = lookup-held n (joined x v s) sound' k good' v
          (subst (λ y. cell y v ∈ contents (joined x v s)) (eqb-true x k e) (to_contents (cell x v) (joined x v s) (omega (arith, joined-weight v (is_cell (cell x v)), is_cell_same (cell x v)))))
      go false e = elsewhere n x s (joined x v s) sound sound' (λ w none. omega (arith, joined-weight v w, none v)) k good' (eqb-false x k e)

  module _ (p : Place) (at : key_at p s ≡ x) (old : ℕ) (value : value_at p s ≡ some old) (member : cell x old ∈ contents s) where
    held : key_at p s ≢ 0
    held z = good_nonzero x good (sym at ∙ z)

    module _ (v : ℕ) where
      changed-weight : (w : Cell → ℕ) → weight w (with_value p v s) + w (cell x old) ≡ weight w s + w (cell x v)
      changed-weight w = subst (λ y. weight w (with_value p v s) + w (cell y old) ≡ weight w s + w (cell y v)) at (change-weight n s sound into v w p old held value)

      changed_once : NoDup (present (with_value p v s))
      changed_once = once_weight (with_value p v s) (λ k. omega (arith, changed-weight (key_weight k), weight_once s sound.no_key_twice k))

      changed-sound : SoundContents n (with_value p v s)
      changed-sound = go p held changed_once
        where
          go : (p : Place) → key_at p s ≢ 0 → NoDup (present (with_value p v s)) → SoundContents n (with_value p v s)
          go (in_table t i) nz once = parts n _ (put_sound n s.tables (tables_of n s sound) t i (cell (cell_at s.tables t i).key v) (cell-within n s sound t i nz into)
              (record { good = sound.good_cell t i; at_home = sound.at_home t i; free = λ z. absurd (nz z) })) (queue_of n s sound) (marks_of n s sound) once
          go (waiting_at j) nz once = parts n _ (tables_of n s sound) (record {
            fits = simp length-set sound.queue_fits;
            entries = λ e m. ⊎_elim (λ i. subst EntrySound (sym i) ((queue_of n s sound).entries (entry_at s.waiting j) (entry_in s.waiting j (entry-within s.waiting j nz)))) ((queue_of n s sound).entries e) (set_in s.waiting j _ e m);
          }) (marks_of n s sound) once
          go nowhere nz once = absurd (nz refl)

      changed-lookup : (k : ℕ) → IsGood k → lookup n k (with_value p v s) ≡ cond (eqb x k) (some v) (lookup n k s)
      changed-lookup k good' = go (eqb x k) refl
        where
          go : (b : Bool) → eqb x k ≡ b → lookup n k (with_value p v s) ≡ cond b (some v) (lookup n k s)
          go true e = lookup-held n (with_value p v s) changed-sound k good' v
              (subst (λ y. cell y v ∈ contents (with_value p v s)) (eqb-true x k e) (to_contents (cell x v) (with_value p v s)
              (omega (arith, changed-weight (is_cell (cell x v)), is_cell_same (cell x v), held-weight (is_cell (cell x v)) (cell x old) s member))))
          go false e = elsewhere n x s (with_value p v s) sound changed-sound (λ w none. omega (arith, changed-weight w, none v, none old)) k good' (eqb-false x k e)

    removed-weight : (w : Cell → ℕ) → weight w (without p s) + w (cell x old) ≡ weight w s
    removed-weight w = subst (λ y. weight w (without p s) + w (cell y old) ≡ weight w s) at (remove-weight n s sound into w p old held value)

    removed_once : NoDup (present (without p s))
    removed_once = once_weight (without p s) (λ k. omega (arith, removed-weight (key_weight k), weight_once s sound.no_key_twice k))

    removed-sound : SoundContents n (without p s)
    removed-sound = go p held removed_once
      where
        go : (p : Place) → key_at p s ≢ 0 → NoDup (present (without p s)) → SoundContents n (without p s)
        go (in_table t i) nz once = parts n _ (put_sound n s.tables (tables_of n s sound) t i free_cell (cell-within n s sound t i nz into)
            (record { good = λ z. absurd (z refl); at_home = λ z. absurd (z refl); free = λ z. refl })) (queue_of n s sound) (marks_of n s sound) once
        go (waiting_at j) nz once = parts n _ (tables_of n s sound) (record {
          fits = omega (arith, dropped_length s.waiting j, sound.queue_fits);
          entries = λ e m. (queue_of n s sound).entries e (dropped_in s.waiting j e m);
        }) (marks_of n s sound) once
        go nowhere nz once = absurd (nz refl)

    removed-lookup : (k : ℕ) → IsGood k → lookup n k (without p s) ≡ cond (eqb x k) none (lookup n k s)
    removed-lookup k good' = go (eqb x k) refl
      where
        go : (b : Bool) → eqb x k ≡ b → lookup n k (without p s) ≡ cond b none (lookup n k s)
        go true e = lookup_absent n (without p s) removed-sound k good' (λ m.
            omega (arith, of_present_weight k (without p s) m, removed-weight (key_weight k), weight_once s sound.no_key_twice k, is_one_same k x (eqb-true x k e)))
        go false e = elsewhere n x s (without p s) sound removed-sound (λ w none. omega (arith, removed-weight w, none old)) k good' (eqb-false x k e)

-- what holds of refusals 4 and 7 and of the accepted call holds of find, change and remove
pub by_found : (n : Numbers) (s : Store) → SoundContents n s → (x : ℕ) (after : Store) (P : Outcome → Type 0) → P (refused 4 0 s) → P (refused 7 0 s)
    → ((old : ℕ) → IsGood x → key_at (search n x s) s ≡ x → value_at (search n x s) s ≡ some old → cell x old ∈ contents s → P (accepted old after))
    → P (refuse_if (not (good_key x)) 4 s (or_refuse7 (lookup n x s) s after))
unfolding Looked lookup
by_found n s sound x after P four seven found = go (good_key x) refl
  where
    go : (b : Bool) → good_key x ≡ b → P (refuse_if (not b) 4 s (or_refuse7 (lookup n x s) s after))
    go false e = four
    go true e = ⊎_elim (λ t. subst (λ o. P (or_refuse7 o s after)) (sym t.1) (found t.0 e t.2 t.1 t.3))
        (λ t. subst (λ o. P (or_refuse7 o s after)) (sym t.0) seven) (looked n s sound x e)

-- and of define
by_define : (n : Numbers) (s : Store) → SoundContents n s → (x v : ℕ) (P : Outcome → Type 0) → P (refused 4 0 s) → ((held : ℕ) → P (refused 5 held s)) → P (refused 6 0 s)
    → (IsGood x → (x ∈ present s → ⊥) → length s.waiting < n.Q → P (accepted_run (run n n.L (joined x v s)))) → P (define n x v s)
unfolding Looked define
by_define n s sound x v P four five six new = go (good_key x) refl
  where
    last : (b : Bool) → leb n.Q (length s.waiting) ≡ b → IsGood x → (x ∈ present s → ⊥) → P (refuse_if b 6 s (accepted_run (run n n.L (joined x v s))))
    last true e good absent = six
    last false e good absent = new good absent (leb-false _ _ e)

    go : (b : Bool) → good_key x ≡ b → P (refuse_if (not b) 4 s (refuse5 (lookup n x s) s (refuse_if (leb n.Q (length s.waiting)) 6 s (accepted_run (run n n.L (joined x v s))))))
    go false e = four
    go true e = ⊎_elim (λ t. subst (λ o. P (refuse5 o s (refuse_if (leb n.Q (length s.waiting)) 6 s (accepted_run (run n n.L (joined x v s)))))) (sym t.1) (five t.0))
        (λ t. subst (λ o. P (refuse5 o s (refuse_if (leb n.Q (length s.waiting)) 6 s (accepted_run (run n n.L (joined x v s)))))) (sym t.0) (last (leb n.Q (length s.waiting)) refl e t.1))
        (looked n s sound x e)

module _ (n : Numbers) (into : IntoCells n) (s : Store) (sound : SoundContents n s) where
  -- what a call leaves is sound, and lookup answers as the call says
  abbrev Keeps : Call → Outcome → Type 0
  Keeps call o = SoundContents n o.store × ((k : ℕ) → IsGood k → lookup n k o.store ≡ after_call k call o.answer (lookup n k s))

  run_keeps_call : (b : ℕ) (u : Store) → SoundContents n u → SoundContents n (run n b u).store × ((k : ℕ) → IsGood k → lookup n k (run n b u).store ≡ lookup n k u)
  run_keeps_call b u sound' = ((run_sound_same n into b u sound').0, run-lookup n into b u sound')

  call_keeps : (call : Call) → Keeps call (does n call s)
  unfolding find change remove settle
  call_keeps (Find x) = by_found n s sound x s (Keeps (Find x)) (sound, λ k g. refl) (sound, λ k g. refl) (λ old g a b m. (sound, λ k g. refl))
  call_keeps (Define x v) = by_define n s sound x v (Keeps (Define x v)) (sound, λ k g. refl) (λ held. (sound, λ k g. refl)) (sound, λ k g. refl)
      (λ good absent room. let u = joined-sound n into s sound x good v absent room in let r = run_keeps_call n.L (joined x v s) u in
      (r.0, λ k g. r.1 k g ∙ joined-lookup n into s sound x good v u k g))
  call_keeps (Change x v) = by_found n s sound x (with_value (search n x s) v s) (Keeps (Change x v)) (sound, λ k g. refl) (sound, λ k g. refl)
      (λ old good at value member. (changed-sound n into s sound x good (search n x s) at old value member v, changed-lookup n into s sound x good (search n x s) at old value member v))
  call_keeps (Remove x) = by_found n s sound x (without (search n x s) s) (Keeps (Remove x)) (sound, λ k g. refl) (sound, λ k g. refl)
      (λ old good at value member. (removed-sound n into s sound x good (search n x s) at old value member, removed-lookup n into s sound x good (search n x s) at old value member))
  call_keeps (Settle b) = go (ltb n.L b)
    where
      go : (over : Bool) → Keeps (Settle b) (refuse_if over 8 s (accepted_run (run n b s)))
      go true = (sound, λ k g. refl)
      go false = run_keeps_call b s sound

pub call_keeps_sound : CallKeepsSound
call_keeps_sound n into call s sound = (call_keeps n into s sound call).0

pub call_changes_lookup : CallChangesLookup
call_changes_lookup n into call s sound k good = (call_keeps n into s sound call).1 k good
