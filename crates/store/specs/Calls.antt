-- Document 01, "The calls", over control records and lent words: one definition for the whole outcome of each call, refusals included. Assumes
-- nothing.
use Rattle.std.specs.Prelude.{ℕ, cond, not}
use Rattle.rules.specs.Store.{fresh}
use Rattle.rules.specs.Search.{search}
use Rattle.rules.specs.Calls.{Answer as RulesAnswer, answer, Outcome as RulesOutcome, find, define, change, remove, settle, Call, Find, Define, Change, Remove, Settle}
use Rattle.rules.specs.Keeps.{is_accepted}
use Rattle.layout.specs.Memory.{Lent}
use Rattle.changing.specs.Change.{put_value}
use Rattle.checks.specs.Sound.{is_sound_in}
use Rattle.store.specs.declared.Control.{Control}
use Rattle.store.specs.Memory.{numbers_of, store_of, words_of, record_of, with_lens}
use Rattle.store.specs.Refusals.{in_range, sized_in, Outcome, outcome, answered, keeps, refuse_if, unless_fault}

-- a record of zeros
abbrev pub zeros : Control
zeros = record { r = 0; queue_room = 0; detector_room = 0; step_limit = 0; a0 = 0; b0 = 0; a1 = 0; b1 = 0; queue_len = 0; detector_len = 0 }

-- a record with these numbers and both lengths 0
abbrev pub new_record : (r Q D L a0 b0 a1 b1 : ℕ) → Control
new_record r Q D L a0 b0 a1 b1 =
    record { r = r; queue_room = Q; detector_room = D; step_limit = L; a0 = a0; b0 = b0; a1 = a1; b1 = b1; queue_len = 0; detector_len = 0 }

-- "Open: checks numbers and lengths, writes zero to every word, gives a record with both lengths 0"; "Open gives only 1 and 2, and then a record of
-- zeros"
unfoldable pub opened : Control → Lent → Outcome
opened c m =
    refuse_if (not (in_range c)) 1 zeros m
    (refuse_if (not (sized_in c m)) 2 zeros m
    (outcome (words_of c (fresh (numbers_of c))) (answered (with_lens c 0 0) (answer 0 0 0 0))))

-- Find leaves every word.
unfoldable pub found : Control → ℕ → Lent → Outcome
found c x m = unless_fault c m (keeps c m (find (numbers_of c) x (store_of c m)).answer)

-- what an accepted define, remove or settle leaves: the words and the record of what the rules leave; a refused one leaves all as it was
unfoldable pub leaves : Control → Lent → RulesOutcome → Outcome
leaves c m o = cond (is_accepted o.answer) (outcome (words_of c o.store) (answered (record_of c o.store) o.answer)) (keeps c m o.answer)

unfoldable pub defined : Control → ℕ → ℕ → Lent → Outcome
defined c x v m = unless_fault c m (leaves c m (define (numbers_of c) x v (store_of c m)))

-- "Change: the value at the place that find would use is replaced", if the rules accept it; all other words stay as they are
unfoldable pub changing : Control → ℕ → ℕ → Lent → RulesAnswer → Outcome
changing c x v m a = cond (is_accepted a) (outcome (put_value (search (numbers_of c) x (store_of c m)) v m) (answered c a)) (keeps c m a)

unfoldable pub changed : Control → ℕ → ℕ → Lent → Outcome
changed c x v m = unless_fault c m (changing c x v m (change (numbers_of c) x v (store_of c m)).answer)

unfoldable pub removed : Control → ℕ → Lent → Outcome
removed c x m = unless_fault c m (leaves c m (remove (numbers_of c) x (store_of c m)))

unfoldable pub settled : Control → ℕ → Lent → Outcome
settled c n m = unless_fault c m (leaves c m (settle (numbers_of c) n (store_of c m)))

-- "Check: accepted exactly for a sound store"; 9, "check of a store that is not sound". The test is computed; that it passes exactly for a sound store is
-- the claim `CheckIsExact`.
unfoldable pub checking : Control → Lent → Outcome
checking c m =
    cond (is_sound_in (numbers_of c) c.r c.queue_len c.detector_len m.table0 m.table1 m.queue m.detector)
    (keeps c m (answer 0 0 0 0)) (keeps c m (answer 9 0 0 0))

unfoldable pub checked : Control → Lent → Outcome
checked c m = unless_fault c m (checking c m)

-- the calls on an open store
abbrev pub does : Call → Control → Lent → Outcome
does (Find x) c m = found c x m
does (Define x v) c m = defined c x v m
does (Change x v) c m = changed c x v m
does (Remove x) c m = removed c x m
does (Settle n) c m = settled c n m
