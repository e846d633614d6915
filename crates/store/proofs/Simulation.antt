-- Every call on a sound record and its words does what the rules do to the store that they stand for, and leaves them sound. Assumes nothing.
use Prim.Native.Nat.{ℕ, ◌≤◌, ◌<◌}
use mathlib.Core.Path.{◌≡◌, refl, sym, ◌∙◌, ap, subst}
use mathlib.Core.Logic.{◌≢◌}
use mathlib.Core.Bool.{Bool, true, false, cond, not}
use mathlib.Core.Option.{Option, none, some}
use native.Mathlib.Omega.{arith}
use borrow.Author.Tests.{eqb-false, le-leb}
use lib.ListN.{length, get_or}
use Rattle.numbers.specs.Ranges.{good_key}
use Rattle.numbers.proofs.Ranges.{good_nonzero}
use Rattle.numbers.proofs.Home.{home0_in_table, home1_in_table}
use Rattle.layout.specs.Forms.{entry_form, pair_form}
use Rattle.layout.proofs.Forms.{length-read_many}
use Rattle.rules.specs.Store.{table_0, table_1, cell_at, Store, Numbers, IntoCells}
use Rattle.rules.specs.Search.{Place, in_table, waiting_at, nowhere, search, lookup, key_at}
use Rattle.rules.specs.Calls.{answer, Outcome as RulesOutcome, refused, accepted, refuse_if, or_refuse7, with_value, find, change, Call, Find, Define, Change, Remove, Settle, does as rules_do}
use Rattle.rules.specs.Sound.{SoundContents}
use Rattle.rules.specs.Keeps.{is_accepted}
use Rattle.rules.proofs.Limits.{refusals_change_nothing}
use Rattle.rules.proofs.Places.{entry-within}
use Rattle.rules.proofs.CallsKept.{by_found, call_keeps_sound as rules_keep_sound}
use Rattle.store.specs.declared.Control.{Control}
use Rattle.layout.specs.Memory.{Lent}
use Rattle.store.specs.Memory.{functions_of, setup_of, numbers_of, store_of, words_of, record_of}
use Rattle.store.specs.Refusals.{Outcome, outcome, answered, keeps}
use Rattle.faults.specs.Faults.{within_rooms, fault_of}
use Rattle.faults.proofs.Accepted.{ranges}
use Rattle.store.specs.Calls.{leaves, changing, does}
use Rattle.changing.specs.Change.{put_value}
use Rattle.store.specs.Sound.{SoundIn, CallKeepsSound}
use Rattle.store.specs.Demand2.{plain}
use Rattle.store.specs.Inner.{fault_in}
use Rattle.store.proofs.Faults.{own_sizes, goes_on_lem}
use Rattle.store.proofs.Demand1.{goes_on, does_is}
use Rattle.store.proofs.Written.{reads_back, written_sound}
use Rattle.store.proofs.Putting.{Inside, put_store, put_sized, put_behind, put_detector}

-- an outcome over words is one of the rules
pub record Simulates (c : Control) (o : Outcome) (u : RulesOutcome) : Type 0 where
  pub sound : SoundIn o.answer.control o.lent
  pub numbers : numbers_of o.answer.control ≡ numbers_of c
  pub store : store_of o.answer.control o.lent ≡ u.store
  pub answer : plain o.answer ≡ u.answer

-- find leaves the store
find-leaves : (n : Numbers) (x : ℕ) (s : Store) → (find n x s).store ≡ s
unfolding find
find-leaves n x s = go (good_key x) (lookup n x s)
  where
    go : (b : Bool) (o : Option ℕ) → (refuse_if (not b) 4 s (or_refuse7 o s s)).store ≡ s
    go false o = refl
    go true none = refl
    go true (some v) = refl

module _ (c : Control) (m : Lent) (sound : SoundIn c m) where
  pub into : IntoCells (numbers_of c)
  into table_0 x = home0_in_table (functions_of c) x (omega (arith, (ranges (setup_of c) sound.in_range).some))
  into table_1 x = home1_in_table (functions_of c) x (omega (arith, (ranges (setup_of c) sound.in_range).some))

  pub contents : SoundContents (numbers_of c) (store_of c m)
  contents = sound.contents

  queue_fits : c.queue_len ≤ c.queue_room
  queue_fits = omega (arith, contents.queue_fits, length-read_many entry_form c.queue_len m.queue)

  detector_fits : c.detector_len ≤ c.detector_room
  detector_fits = omega (arith, contents.detector_fits, length-read_many pair_form c.detector_len m.detector)

  pub no_faults : fault_in c m ≡ 0
  unfolding fault_of within_rooms
  no_faults = rw (sound.in_range, sound.buffers, le-leb c.queue_len c.queue_room queue_fits, le-leb c.detector_len c.detector_room detector_fits)

  -- everything kept
  kept : (u : RulesOutcome) → u.store ≡ store_of c m → Simulates c (keeps c m u.answer) u
  kept u e = record { sound = sound; numbers = refl; store = sym e; answer = refl }

  -- the words of what the rules leave
  left : (call : Call) → Simulates c (leaves c m (rules_do (numbers_of c) call (store_of c m))) (rules_do (numbers_of c) call (store_of c m))
  unfolding leaves
  left call = go (rules_do (numbers_of c) call (store_of c m)) (rules_keep_sound (numbers_of c) into call (store_of c m) contents) (λ nz. (refusals_change_nothing (numbers_of c) call (store_of c m) nz).store)
      (is_accepted (rules_do (numbers_of c) call (store_of c m)).answer) refl
    where
      go : (u : RulesOutcome) → SoundContents (numbers_of c) u.store → (u.answer.number ≢ 0 → u.store ≡ store_of c m) → (b : Bool) → is_accepted u.answer ≡ b
          → Simulates c (cond b (outcome (words_of c u.store) (answered (record_of c u.store) u.answer)) (keeps c m u.answer)) u
      go u ok same true e = record {
        sound = written_sound c u.store ok sound.in_range;
        numbers = unfold record_of in refl;
        store = reads_back c u.store ok;
        answer = refl;
      }
      go u ok same false e = kept u (same (eqb-false u.answer.number 0 e))

  -- a place with a key lies within
  inside : (p : Place) → key_at p (store_of c m) ≢ 0 → Inside c p
  inside (in_table t i) nz = subst (λ j. j < c.r) (contents.at_home t i nz) (into t (cell_at (store_of c m).tables t i).key)
  inside (waiting_at j) nz = omega (arith, entry-within (store_of c m).waiting j nz, length-read_many entry_form c.queue_len m.queue)
  inside nowhere nz = absurd (nz refl)

  -- a value put at a place within
  put : (p : Place) (v : ℕ) → Inside c p → (old : ℕ) → SoundContents (numbers_of c) (with_value p v (store_of c m)) → Simulates c (keeps c (put_value p v m) (answer 0 old 0 0)) (accepted old (with_value p v (store_of c m)))
  put p v within old ok =
      let z = own_sizes c (length m.table0) (length m.table1) (length m.queue) (length m.detector) sound.buffers in
      let e : store_of c (put_value p v m) ≡ with_value p v (store_of c m) = put_store c m v z queue_fits p within in
      record {
        sound = record {
          in_range = sound.in_range;
          buffers = put_sized c m v p sound.buffers;
          contents = subst (SoundContents (numbers_of c)) (sym e) ok;
          queue_zeros = λ i l. put_behind c m v p within i l ∙ sound.queue_zeros i l;
          detector_zeros = λ i l. ap (λ d. get_or d i 0) (put_detector c m v p) ∙ sound.detector_zeros i l;
        };
        numbers = refl;
        store = e;
        answer = refl;
      }

  changes : (x v : ℕ) → Simulates c (changing c x v m (change (numbers_of c) x v (store_of c m)).answer) (change (numbers_of c) x v (store_of c m))
  unfolding changing change
  changes x v =
      by_found (numbers_of c) (store_of c m) contents x (with_value (search (numbers_of c) x (store_of c m)) v (store_of c m))
      (λ o. SoundContents (numbers_of c) o.store → Simulates c (changing c x v m o.answer) o)
      (λ ok. kept (refused 4 0 (store_of c m)) refl) (λ ok. kept (refused 7 0 (store_of c m)) refl)
      (λ old good at value member ok. put (search (numbers_of c) x (store_of c m)) v (inside (search (numbers_of c) x (store_of c m)) (λ z. good_nonzero x good (sym at ∙ z))) old ok)
      (rules_keep_sound (numbers_of c) into (Change x v) (store_of c m) contents)

  goes : (call : Call) → Simulates c (goes_on call c m) (rules_do (numbers_of c) call (store_of c m))
  goes (Find x) = kept (find (numbers_of c) x (store_of c m)) (find-leaves (numbers_of c) x (store_of c m))
  goes (Define x v) = left (Define x v)
  goes (Change x v) = changes x v
  goes (Remove x) = left (Remove x)
  goes (Settle n) = left (Settle n)

pub simulates : (call : Call) (c : Control) (m : Lent) → SoundIn c m → Simulates c (does call c m) (rules_do (numbers_of c) call (store_of c m))
simulates call c m sound = subst (λ o. Simulates c o (rules_do (numbers_of c) call (store_of c m))) (sym (goes_on_lem c m (goes_on call c m) (no_faults c m sound)) ∙ does_is call c m) (goes c m sound call)

pub call_keeps_sound : CallKeepsSound
call_keeps_sound call c m sound = (simulates call c m sound).sound
