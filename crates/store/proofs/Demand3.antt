-- Demand 3 of the calls, both halves: settle calls over words are the rules' settle calls. Assumes nothing.
use Prim.Native.Nat.{ℕ, ◌+◌, ◌*◌, ◌≤◌}
use mathlib.Core.Path.{◌≡◌, refl, sym, ◌∙◌, ap, subst}
use mathlib.Core.List.{List, [], ◌∷◌}
use native.Mathlib.Omega.{arith}
use lib.ListN.{length}
use Rattle.rules.specs.Store.{Entry, Store, Numbers}
use Rattle.rules.specs.Calls.{Settle, settle}
use Rattle.rules.specs.Demand3.{settle_all as rules_settle_all, steps_in_all as rules_steps_in_all, granted, bound as rules_bound}
use Rattle.rules.proofs.Demand3.{demand_3 as rules_demand_3, demand_3_converse as rules_demand_3_converse}
use Rattle.layout.specs.Forms.{entry_form}
use Rattle.layout.proofs.Forms.{length-read_many}
use Rattle.store.specs.Memory.{setup_of, numbers_of, store_of}
use Rattle.store.specs.Calls.{settled}
use Rattle.store.specs.Sound.{SoundIn}
use Rattle.store.specs.Demand2.{Held, given}
use Rattle.store.specs.Demand3.{settle_all, steps_in_all, bound, start, Demand3, Demand3Converse}
use Rattle.faults.proofs.Accepted.{ranges}
use Rattle.store.proofs.Simulation.{simulates, into, contents}

abbrev numbers : Held → Numbers
numbers h = numbers_of h.control

abbrev stands : Held → Store
stands h = store_of h.control h.lent

-- as many entries wait as the record says
waits : (h : Held) → length (stands h).waiting ≡ h.control.queue_len
waits h = length-read_many entry_form h.control.queue_len h.lent.queue

-- settle calls over words are the rules' settle calls
pub settles_as : (budgets : List ℕ) (h : Held) → SoundIn h.control h.lent → stands (settle_all budgets h) ≡ rules_settle_all (numbers h) budgets (stands h)
unfolding settle_all rules_settle_all
settles_as [] h sound = refl
settles_as (b ∷ budgets) h sound =
    let s = simulates (Settle b) h.control h.lent sound in
    let g : Held = given (settled h.control b h.lent) in
    settles_as budgets g s.sound
    ∙ ap (λ n. rules_settle_all n budgets (stands g)) s.numbers ∙ ap (rules_settle_all (numbers h) budgets) s.store

pub steps_as : (budgets : List ℕ) (h : Held) → SoundIn h.control h.lent → steps_in_all budgets h ≡ rules_steps_in_all (numbers h) budgets (stands h)
unfolding steps_in_all rules_steps_in_all
steps_as [] h sound = refl
steps_as (b ∷ budgets) h sound =
    let s = simulates (Settle b) h.control h.lent sound in
    let g : Held = given (settled h.control b h.lent) in
    ap (λ k. (settled h.control b h.lent).answer.steps + k)
    (steps_as budgets g s.sound ∙ ap (λ n. rules_steps_in_all n budgets (stands g)) s.numbers ∙ ap (rules_steps_in_all (numbers h) budgets) s.store)
    ∙ ap (λ k. k + rules_steps_in_all (numbers h) budgets (settle (numbers h) b (stands h)).store) (ap (λ a. a.steps) s.answer)

-- nothing waits exactly if the queue is empty
none_waits : (h : Held) → (stands h).waiting ≡ [] → h.control.queue_len ≡ 0
none_waits h e = sym (waits h) ∙ ap length e

empty : (q : List Entry) → length q ≡ 0 → q ≡ []
empty [] e = refl
empty (x ∷ q) e = absurd (omega arith)

pub demand_3 : Demand3
demand_3 c m sound fit =
    let r = rules_demand_3 (numbers_of c) (into c m sound) (store_of c m) (contents c m sound) fit in
    let same : bound c ≡ rules_bound (numbers_of c) (store_of c m) = ap (λ q. (q + 1) * c.detector_room) (sym (waits (start c m))) in
    record {
      empties = λ budgets l. none_waits (settle_all budgets (start c m)) (ap (λ s. s.waiting) (settles_as budgets (start c m) sound) ∙ r.empties budgets (subst (λ k. k ≤ granted (numbers_of c) budgets) same l));
      within = λ budgets. rw (steps_as budgets (start c m) sound, same) (r.within budgets);
      calls_exist = subst (λ k. (budgets : List ℕ) × (k ≤ granted (numbers_of c) budgets)) (sym same)
          (r.calls_exist (ranges (setup_of c) sound.in_range).limit_some);
    }

pub demand_3_converse : Demand3Converse
demand_3_converse c m sound x G group more budgets none =
    rules_demand_3_converse (numbers_of c) (into c m sound) (store_of c m) (contents c m sound) x G group more budgets
    (ap (λ s. s.waiting) (sym (settles_as budgets (start c m) sound)) ∙ empty (stands (settle_all budgets (start c m))).waiting (waits (settle_all budgets (start c m)) ∙ none))
