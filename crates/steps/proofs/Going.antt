-- The loop of steps: what holds at its head, and that it goes on and ends as the rules say. Assumes nothing.
use Prim.Native.Nat.{ℕ, suc, ◌+◌, ◌-◌, ◌*◌, ◌≤◌, ◌<◌}
use mathlib.Core.Path.{◌≡◌, refl, sym, ap, subst, ◌∙◌}
use mathlib.Core.List.{List, [], ◌∷◌}
use native.Mathlib.Nat.{sub-zero, zero-add, add-zero, le_refl}
use native.Mathlib.Omega.{arith}
use lib.ListN.{length, length-append}
use Rattle.rules.specs.Store.{meant, Entry, Store, store, Numbers}
use Rattle.rules.specs.Step.{step}
use Rattle.rules.specs.Run.{Ran, ran, as_move, counted, run}
use Rattle.rules.proofs.Steps.{by_kind, by_front}
use Rattle.rules.proofs.Runs.{join_runs, as_move_one, run_idle, run_more}
use Rattle.layout.specs.Memory.{Lent, entries_in, pairs_in, homes_of, store_in}
use Rattle.numbers.specs.declared.Functions.{Functions}
use Rattle.numbers.specs.declared.Lengths.{Lengths}
use Rattle.layout.specs.Forms.{entry_form, pair_form, read_many, packed}
use Rattle.layout.proofs.Forms.{entry_lawful, pair_lawful, length-read_many}
use Rattle.layout.proofs.Packed.{length-packed, read_packed}
use Rattle.kinds.specs.declared.Turn.{Turn}
use Rattle.kinds.specs.Shape.{Ready, kind_number}
use Rattle.steps.specs.declared.Ended.{Ended}
use Rattle.steps.specs.Shape.{TablesReady, StepsWith, Holds, Follows, Runs}

-- no step makes the queue longer, and the detector stays within its room
module _ (n : Numbers) (s : Store) where
  pub step_waits : length (step n s).store.waiting ≤ length s.waiting
  step_waits =
      by_front (λ z. length z.store.waiting ≤ length s.waiting) n s (λ e. omega arith)
      (λ e q w.
      let l : length s.waiting ≡ suc (length q) = ap length w in
      by_kind (λ z. length z.store.waiting ≤ length s.waiting) n.D (meant e.side) (n.home (meant e.side) e.key) e q s
      (λ h. omega arith) (λ h k. simp length-append (omega arith)) (λ h k m. omega arith))

  pub step-marks : length s.marked ≤ n.D → length (step n s).store.marked ≤ n.D
  step-marks few =
      by_front (λ z. length z.store.marked ≤ n.D) n s (λ e. few)
      (λ e q w.
      by_kind (λ z. length z.store.marked ≤ n.D) n.D (meant e.side) (n.home (meant e.side) e.key) e q s
      (λ h. omega arith) (λ h k. omega arith) (λ h k m. simp length-append (omega arith)))

-- words that hold a store: it is the one that is read from them, and they are ready
module _ {r nq nd ql dl : ℕ} {s : Store} {t0 t1 q d : List ℕ} (h : Holds r nq nd s t0 t1 q d ql dl) where
  waits : entries_in ql q ≡ s.waiting
  waits = (λ i. read_many entry_form (h.queue_len i) (h.queue i)) ∙ read_packed entry_form entry_lawful nq s.waiting

  marks : pairs_in dl d ≡ s.marked
  marks = (λ i. read_many pair_form (h.detector_len i) (h.detector i)) ∙ read_packed pair_form pair_lawful nd s.marked

  pub holds_store : store_in r ql dl t0 t1 q d ≡ s
  holds_store = λ i. store (record { table0 = h.first i; table1 = h.second i }) (waits i) (marks i)

  pub holds_queue : 3 * ql ≤ nq → length q ≡ nq
  holds_queue fits = ap length h.queue ∙ length-packed entry_form entry_lawful nq s.waiting (omega arith)

  pub holds_detector : 2 * dl ≤ nd → length d ≡ nd
  holds_detector fits = ap length h.detector ∙ length-packed pair_form pair_lawful nd s.marked (omega arith)

  pub holds_ready : 3 * ql ≤ nq → nq ≤ 192 → 2 * dl ≤ nd → nd ≤ 256 → Ready ql dl q d
  holds_ready qi qs di ds =
      let lq = holds_queue qi in
      let ld = holds_detector di in
      record {
        queue_in = omega arith;
        queue_small = omega arith;
        detector_in = omega arith;
        detector_small = omega arith;
        queue = h.queue ∙ (λ i. packed entry_form (sym lq i) (sym waits i));
        detector = h.detector ∙ (λ i. packed pair_form (sym ld i) (sym marks i));
      }

-- ready words hold the store that is read from them
pub ready_holds : (r nq nd : ℕ) {ql dl : ℕ} (t0 t1 : List ℕ) {q d : List ℕ} → Ready ql dl q d → length q ≡ nq → length d ≡ nd
    → Holds r nq nd (store_in r ql dl t0 t1 q d) t0 t1 q d ql dl
ready_holds r nq nd {ql} {dl} t0 t1 {q} {d} w lq ld = record {
  first = refl;
  second = refl;
  queue = w.queue ∙ ap (λ k. packed entry_form k (entries_in ql q)) lq;
  detector = w.detector ∙ ap (λ k. packed pair_form k (pairs_in dl d)) ld;
  queue_len = sym (length-read_many entry_form ql q);
  detector_len = sym (length-read_many pair_form dl d);
}

-- a run of b steps, of which i are done, m of them moves, with s left
module _ (n : Numbers) (b : ℕ) (s₀ : Store) where
  abbrev pub Apart : Store → ℕ → ℕ → Type 0
  Apart s i m = run n b s₀ ≡ join_runs (ran s i m) (run n (b - i) s)

  pub none_yet : Apart s₀ 0 0
  none_yet = simp (sub-zero, zero-add)

  pub one_more : (s : Store) (i m : ℕ) → i < b → 0 < length s.waiting → Apart s i m → Apart (step n s).store (i + 1) (m + as_move (step n s).kind)
  one_more s i m less some e =
      let k : b - i ≡ suc (b - (i + 1)) = omega arith in
      e ∙ ap (λ j. join_runs (ran s i m) (run n j s)) k
      ∙ ap (join_runs (ran s i m)) (busy s.waiting refl some)
      ∙ (λ j. ran later.store (up j) (across j))
    where
      later : Ran
      later = run n (b - (i + 1)) (step n s).store

      busy : (w : List Entry) → s.waiting ≡ w → 0 < length w → run n (suc (b - (i + 1))) s ≡ counted (step n s).kind later
      busy [] w h = absurd (omega arith)
      busy (x ∷ q) w h = run_more n (b - (i + 1)) s x q w

      up : i + suc later.steps ≡ i + 1 + later.steps
      up = omega arith

      across : m + (as_move (step n s).kind + later.moves) ≡ m + as_move (step n s).kind + later.moves
      across = omega arith

  pub all_done : (s : Store) (i m : ℕ) → run n (b - i) s ≡ ran s 0 0 → Apart s i m → run n b s₀ ≡ ran s i m
  all_done s i m e a = a ∙ ap (join_runs (ran s i m)) e ∙ simp add-zero

  pub spent : (s : Store) (i m : ℕ) → b ≤ i → Apart s i m → run n b s₀ ≡ ran s i m
  unfolding run
  spent s i m h = let k : b - i ≡ 0 = omega arith in all_done s i m (ap (λ j. run n j s) k)

  pub idle : (s : Store) (i m : ℕ) → length s.waiting ≡ 0 → Apart s i m → run n b s₀ ≡ ran s i m
  idle s i m h = all_done s i m (run_idle n (b - i) s (empty s.waiting h))
    where
      empty : (w : List Entry) → length w ≡ 0 → w ≡ []
      empty [] h = refl
      empty (x ∷ q) h = absurd (omega arith)

-- the store that lent words hold
abbrev pub held : (r ql dl : ℕ) → Lent → Store
held r ql dl b = store_in r ql dl b.table0 b.table1 b.queue b.detector

module _ (f : Functions) (room budget ql₀ dl₀ : ℕ) (b₀ : Lent) where
  -- what holds at the loop's head
  pub record Going (b : Lent) (ql dl s m : ℕ) : Type 0 where
    pub few : m ≤ s
    pub within : s ≤ budget
    pub tables : TablesReady f.r b.table0 b.table1
    pub ready : Ready ql dl b.queue b.detector
    pub room_is : length b.detector ≡ 2 * room
    pub queue : length b.queue ≡ length b₀.queue
    pub detector : length b.detector ≡ length b₀.detector
    pub rest : (n : Numbers) → StepsWith n f room → Apart n budget (held f.r ql₀ dl₀ b₀) (held f.r ql dl b) s m

  -- what the function ensures, left with these words and counts
  abbrev pub Answered : Lent → Lengths → ℕ → ℕ → Type 0
  Answered b lengths s m = (n : Numbers) → StepsWith n f room
      → Runs f.r (length b₀.queue) (length b₀.detector) (run n budget (held f.r ql₀ dl₀ b₀)) b.table0 b.table1 b.queue b.detector
      (record { lengths = lengths; steps = s; moves = m })

module _ {f : Functions} {room budget ql₀ dl₀ : ℕ} {b₀ : Lent} where
  pub begins : TablesReady f.r b₀.table0 b₀.table1 → length b₀.detector ≡ 2 * room → Ready ql₀ dl₀ b₀.queue b₀.detector
      → Going f room budget ql₀ dl₀ b₀ b₀ ql₀ dl₀ 0 0
  begins ts e w = record {
    few = omega arith;
    within = omega arith;
    tables = ts;
    ready = w;
    room_is = e;
    queue = refl;
    detector = refl;
    rest = λ n w. none_yet n budget _;
  }

  module _ {b : Lent} {ql dl s m : ℕ} (g : Going f room budget ql₀ dl₀ b₀ b ql dl s m) where
    abbrev s₀ : Store
    s₀ = held f.r ql₀ dl₀ b₀

    abbrev st : Store
    st = held f.r ql dl b

    -- the loop goes on, by k moves
    pub goes : (b' : Lent) {k : ℕ} (a : Turn) → s < budget → 0 < ql
        → ((n : Numbers) → StepsWith n f room → Follows f.r (length b.queue) (length b.detector) (step n st) b'.table0 b'.table1 b'.queue b'.detector a)
        → length b'.table0 ≡ length b.table0 → length b'.table1 ≡ length b.table1 → k ≡ as_move (kind_number a.kind)
        → Going f room budget ql₀ dl₀ b₀ b' a.lengths.queue a.lengths.detector (s + 1) (m + k)
    goes b' {k} a more some follows l0 l1 move =
        let n₀ : Numbers = record { r = f.r; Q = 0; D = room; L = 0; home = homes_of f } in
        let h = (follows n₀ (record { detector_room = refl; homes = refl })).words in
        let lq : length (entries_in ql b.queue) ≡ ql = length-read_many entry_form ql b.queue in
        let ld : length (pairs_in dl b.detector) ≡ dl = length-read_many pair_form dl b.detector in
        let in_queue : 3 * a.lengths.queue ≤ length b.queue = omega (arith, step_waits n₀ st) in
        let in_detector : 2 * a.lengths.detector ≤ length b.detector = omega (arith, step-marks n₀ st (omega arith)) in
        let wd : length b'.detector ≡ length b.detector = holds_detector h in_detector in
        record {
          few = omega (arith, as_move_one (kind_number a.kind));
          within = omega arith;
          tables = record { some = g.tables.some; small = g.tables.small; first = l0 ∙ g.tables.first; second = l1 ∙ g.tables.second };
          ready = holds_ready h in_queue g.ready.queue_small in_detector g.ready.detector_small;
          room_is = wd ∙ g.room_is;
          queue = holds_queue h in_queue ∙ g.queue;
          detector = wd ∙ g.detector;
          rest = λ n w.
              let e = holds_store (follows n w).words in
              let j : k ≡ as_move (step n st).kind = move ∙ ap as_move (follows n w).kind in
              one_more n budget s₀ st s m more (omega arith) (g.rest n w)
              ∙ (λ i. join_runs (ran (sym e i) (s + 1) (m + sym j i)) (run n (budget - (s + 1)) (sym e i)));
        }

    -- the loop is left, with what its words hold
    left : ((n : Numbers) → StepsWith n f room → run n budget s₀ ≡ ran st s m) → Answered f room budget ql₀ dl₀ b₀ b (record { detector = dl; queue = ql }) s m
    left e n w =
        let count : Ended = record { lengths = record { detector = dl; queue = ql }; steps = s; moves = m } in
        subst (λ (x : Ran). Runs f.r (length b₀.queue) (length b₀.detector) x b.table0 b.table1 b.queue b.detector count) (sym (e n w))
        (record { words = ready_holds f.r (length b₀.queue) (length b₀.detector) b.table0 b.table1 g.ready g.queue g.detector; steps = refl; moves = refl })

    pub idles : ql ≡ 0 → Answered f room budget ql₀ dl₀ b₀ b (record { detector = dl; queue = ql }) s m
    idles h = left (λ n w. idle n budget s₀ st s m (length-read_many entry_form ql b.queue ∙ h) (g.rest n w))

  -- the budget is spent
  pub ends : {b : Lent} {ql dl m : ℕ} → Going f room budget ql₀ dl₀ b₀ b ql dl budget m
      → Answered f room budget ql₀ dl₀ b₀ b (record { detector = dl; queue = ql }) budget m
  ends {b} {ql} {dl} {m} g = left g (λ n w. spent n budget (held f.r ql₀ dl₀ b₀) (held f.r ql dl b) budget m (le_refl budget) (g.rest n w))
