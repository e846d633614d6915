-- Steps alone: where no group is too large they empty the queue in time, and where one has more keys than cells they never do. Assumes nothing.
use Prim.Native.Nat.{ℕ, zero, suc, ◌+◌, ◌-◌, ◌*◌, ◌≤◌, ◌<◌}
use mathlib.Core.Path.{◌≡◌, refl, sym, ◌∙◌, ap, subst₂}
use mathlib.Core.Logic.{◌⊎◌, inl, inr, ◌≢◌, ⊎_elim}
use mathlib.Core.List.Memᴰ.{cast}
use mathlib.Core.List.{List, [], ◌∷◌, map}
use native.Mathlib.Omega.{arith}
use lib.ListN.{length, length-map}
use Rattle.lists.specs.Lists.{◌∈◌, NoDup}
use Rattle.lists.proofs.Sets.{cut, pigeonhole, to_map}
use Rattle.rules.specs.Store.{Entry, Store, Numbers, IntoCells}
use Rattle.rules.specs.Step.{step}
use Rattle.rules.specs.Run.{run}
use Rattle.rules.specs.Search.{Place, in_table, waiting_at, nowhere, key_at}
use Rattle.rules.specs.Sound.{present, SoundContents}
use Rattle.rules.specs.Groups.{Sided, itself, IsGroup, cells_of}
use Rattle.rules.specs.Demand3.{bound, GroupsFit}
use Rattle.rules.proofs.Sided.{sided_path}
use Rattle.rules.proofs.Groups.{to_cells, group_of}
use Rattle.rules.proofs.Runs.{run-keeps, run_idle, run_more, run_add}
use Rattle.rules.proofs.Places.{in_present, of_present}
use Rattle.rules.proofs.Kept.{step-sound, step-present}
use Rattle.rules.proofs.View.{heading, key_in, marks, target, Moves, seen, front_present, by_view}
use Rattle.rules.proofs.Walk.{Inv, first, unmarked, few, move}

-- a queue is empty or has a front
front? : (w : List Entry) → (w ≡ []) ⊎ ((e : Entry) × (q : List Entry) × (w ≡ e ∷ q))
front? [] = inl refl
front? (e ∷ q) = inr (e, q, refl)

module _ (n : Numbers) where
  -- what a run of at most b steps leaves
  abbrev pub after : ℕ → Store → Store
  after b s = (run n b s).store

  after_idle : (b : ℕ) (s : Store) → s.waiting ≡ [] → after b s ≡ s
  after_idle b s e = ap (λ r. r.store) (run_idle n b s e)

  after_more : (b : ℕ) (s : Store) (e : Entry) (q : List Entry) → s.waiting ≡ e ∷ q → after (suc b) s ≡ after b (step n s).store
  after_more b s e q w = ap (λ r. r.store) (run_more n b s e q w)

  pub after_add : (a b : ℕ) (s : Store) → after (a + b) s ≡ after b (after a s)
  after_add a b s = ap (λ r. r.store) (run_add n a b s)

  -- an empty queue stays empty
  stays : (b : ℕ) (s : Store) → s.waiting ≡ [] → (after b s).waiting ≡ []
  stays b s e = rw (after_idle b s e) e

  pub later : (b c : ℕ) (s : Store) → (after b s).waiting ≡ [] → b ≤ c → (after c s).waiting ≡ []
  later b c s e l = let d : c ≡ b + (c - b) = omega arith in rw (d, after_add) (stays (c - b) (after b s) e)

  -- some steps, at most b, lead to an empty detector with at most m keys waiting
  abbrev Quiet : ℕ → ℕ → Store → Type 0
  Quiet m b s = (t : ℕ) × (t ≤ b) × (length (after t s).waiting ≤ m) × (marks (after t s) ≡ [])

  at_once : (m b : ℕ) (s : Store) → length s.waiting ≤ m → marks s ≡ [] → Quiet m b s
  unfolding run
  at_once m b s l e = (0, omega arith, l, e)

  one_before : (m b : ℕ) (s : Store) (e : Entry) (q : List Entry) → s.waiting ≡ e ∷ q → Quiet m b (step n s).store → Quiet m (suc b) s
  one_before m b s e q w (t, l, a, c) = (suc t, omega arith, rw (after_more t s e q w) a, rw (after_more t s e q w) c)

  module _ (into : IntoCells n) where
    -- whatever is marked, a step that empties the detector comes before more than D pairs are in it
    flush : (b : ℕ) (s : Store) (e : Entry) (q : List Entry) → s.waiting ≡ e ∷ q → SoundContents n s → n.D ≤ length (marks s) + b
        → Quiet (suc (length q)) (suc b) s
    flush zero s e q w sound l = one_before _ 0 s e q w (by_view n into s sound e q w (Quiet (suc (length q)) 0)
        (λ s' x m. at_once _ 0 s' (omega arith) m)
        (λ full s' x m. at_once _ 0 s' (omega arith) m)
        (λ nz d. absurd (omega arith)))
    flush (suc b) s e q w sound l = one_before _ (suc b) s e q w (by_view n into s sound e q w (λ s'. SoundContents n s' → Quiet (suc (length q)) (suc b) s')
        (λ s' x m k. at_once _ (suc b) s' (omega arith) m)
        (λ full s' x m k. at_once _ (suc b) s' (omega arith) m)
        (λ nz d s' v k. flush b s' v.next q v.waits k (omega (arith, ap length v.marked)))
        (step-sound n into s sound))

-- Settling from s₀.
module _ (n : Numbers) (into : IntoCells n) (s₀ : Store) where
  -- s is sound and has no key that s₀ has not
  abbrev Within : Store → Type 0
  Within s = SoundContents n s × ((k : ℕ) → k ∈ present s → k ∈ present s₀)

  step-within : (s : Store) → Within s → Within (step n s).store
  step-within s k = (step-sound n into s k.0, λ x m. k.1 x ((step-present n into s k.0 x).0 m))

  run-within : (b : ℕ) (s : Store) → Within s → Within (after n b s)
  run-within = run-keeps n Within step-within

  -- b steps empty the queue if at most m keys wait and the detector is empty
  abbrev Clean : ℕ → ℕ → Type 0
  Clean m b = (s : Store) → length s.waiting ≤ m → Within s → marks s ≡ [] → (after n b s).waiting ≡ []

  then_clean : (m k d b c : ℕ) (s : Store) → Within s → Quiet n m d s → Clean k b → m ≤ k → d + b ≤ c → (after n c s).waiting ≡ []
  then_clean m k d b c s o (t, l, r, e) clean short fits =
      later n (t + b) c s (rw after_add (clean (after n t s) (omega arith) (run-within t s o) e)) (omega arith)

  -- a clean walk in a group that fits: before its pairs have all come up, a key has a cell
  module _ (f₀ : Sided) (G : List ℕ) (g : IsGroup n.home (present s₀) f₀.0 G)
      (fits : length G ≤ length (cells_of n.home G)) (room : 2 * length G ≤ n.D) where
    -- the walk has come to store s with e in front
    abbrev Comes : Store → Entry → Type 0
    Comes s e = Inv n.home f₀ G (key_in s) (heading e) (marks s)

    module _ (s : Store) (e : Entry) (q : List Entry) (w : s.waiting ≡ e ∷ q) (k : Within s) (v : Comes s e) where
      few_marks : length (marks s) < 2 * length G
      few_marks = few f₀ g fits (seen n s k.0 e q w) v

      not_aside : (heading e ∈ marks s) ⊎ (n.D ≤ length (marks s)) → ⊥
      not_aside (inl m) = unmarked f₀ g fits (seen n s k.0 e q w) v m
      not_aside (inr l) = omega (arith, few_marks)

      walk_on : (s' : Store) (next : Moves n s e q s') → key_in s (target n e) ≢ 0 → Comes s' next.next
      walk_on s' next nz = subst₂ (Inv n.home f₀ G (key_in s')) (sym next.heads) (sym next.marked)
          (move f₀ g fits (seen n s k.0 e q w) v (key_in s') next.written nz (k.1 _ (in_present s (in_table (target n e).1 (target n e).0) nz)))

    walk : (b : ℕ) (s : Store) (e : Entry) (q : List Entry) → s.waiting ≡ e ∷ q → Within s → Comes s e → 2 * length G ≤ b + length (marks s)
        → Quiet n (length q) b s
    walk zero s e q w k v l = absurd (omega (arith, few_marks s e q w k v))
    walk (suc b) s e q w k v l = one_before n _ b s e q w (by_view n into s k.0 e q w (λ s'. Within s' → Quiet n (length q) b s')
        (λ s' x m k'. at_once n _ b s' (omega arith) m)
        (λ full s' x m k'. absurd (not_aside s e q w k v full))
        (λ nz d s' next k'. walk b s' next.next q next.waits k' (walk_on s e q w k v s' next nz) (omega (arith, ap length next.marked)))
        (step-within s k))

  module _ (fit : GroupsFit n s₀) where
    one_walk : (s : Store) (e : Entry) (q : List Entry) → s.waiting ≡ e ∷ q → Within s → marks s ≡ [] → Quiet n (length q) n.D s
    one_walk s e q w k m = go (group_of n.home (present s₀) e.key in₀)
      where
        in₀ : e.key ∈ present s₀
        in₀ = k.1 e.key (front_present n s k.0 e q w)

        go : (G : List ℕ) × IsGroup n.home (present s₀) e.key G → Quiet n (length q) n.D s
        go (G, g) =
            let r = fit e.key G in₀ g in
            walk (heading e) G g r.0 r.1 n.D s e q w k (rw m (first (heading e) g in₀ (key_in s))) (omega (arith, r.1))

    -- each clean walk shortens the queue
    clean : (m : ℕ) → Clean m (m * n.D)
    clean zero s l k e = ⊎_elim (stays n (0 * n.D) s) (λ (x, q, w). absurd (omega (arith, ap length w))) (front? s.waiting)
    clean (suc m) s l k e = ⊎_elim (stays n (suc m * n.D) s) (λ (x, q, w). go x q w (clean m)) (front? s.waiting)
      where
        go : (x : Entry) (q : List Entry) → s.waiting ≡ x ∷ q → Clean m (m * n.D) → (after n (suc m * n.D) s).waiting ≡ []
        go x q w rest = then_clean (length q) m n.D (m * n.D) (suc m * n.D) s k (one_walk s x q w k e) rest (omega (arith, ap length w)) (omega arith)

    -- the group of a present key leaves D some room
    not_0 : (x : ℕ) → x ∈ present s₀ → 0 < n.D
    not_0 x m = let t = group_of n.home (present s₀) x m in omega (arith, (cut (t.1.whole x m itself)).1, (fit x t.0 m t.1).1)

    -- D steps for what is marked at the start, and D for each waiting key
    empties : (s : Store) → Within s → (after n (bound n s) s).waiting ≡ []
    empties s k = ⊎_elim (stays n (bound n s) s) (λ (e, q, w). go e q w (marks s) refl) (front? s.waiting)
      where
        waits : ℕ
        waits = length s.waiting

        go : (e : Entry) (q : List Entry) → s.waiting ≡ e ∷ q → (M : List Sided) → marks s ≡ M → (after n (bound n s) s).waiting ≡ []
        go e q w [] m = later n (waits * n.D) (bound n s) s (clean waits s (omega arith) k m) (omega arith)
        go e q w (p ∷ M) m =
            let pos : 0 < n.D = not_0 e.key (k.1 e.key (front_present n s k.0 e q w)) in
            let quiet : Quiet n (suc (length q)) (suc (n.D - 1)) s = flush n into (n.D - 1) s e q w k.0 (omega (arith, ap length m)) in
            then_clean (suc (length q)) waits (suc (n.D - 1)) (waits * n.D) (bound n s) s k quiet (clean waits) (omega (arith, ap length w)) (omega arith)

    pub empties_in_time : SoundContents n s₀ → (after n (bound n s₀) s₀).waiting ≡ []
    empties_in_time sound = empties s₀ (sound, λ k m. m)

-- with an empty queue every present key lies in one of its homes
seated : (n : Numbers) (s : Store) → SoundContents n s → s.waiting ≡ [] → (G : List ℕ) (k : ℕ) → k ∈ G → k ∈ present s
    → k ∈ map (key_in s) (cells_of n.home G)
seated n s sound none G k m i = go (of_present n s sound k i)
  where
    go : (p : Place) × (key_at p s ≡ k) × (k ≢ 0) → k ∈ map (key_in s) (cells_of n.home G)
    go (in_table t j, e, nz) =
        let home : n.home t k ≡ j = rw e at (sound.at_home t j (λ z. nz (sym e ∙ z))) in
        cast (sym e) (to_map (key_in s) (cast (sided_path (sym home) refl) (to_cells n.home G t m)))
    go (waiting_at j, e, nz) = absurd (nz (sym e ∙ rw none))
    go (nowhere, e, nz) = absurd (nz (sym e))

-- more keys than cells: no number of steps empties the queue
pub never_empty : (n : Numbers) → IntoCells n → (s₀ : Store) → SoundContents n s₀ → (G : List ℕ) → NoDup G → ((k : ℕ) → k ∈ G → k ∈ present s₀)
    → length (cells_of n.home G) < length G → (b : ℕ) → (after n b s₀).waiting ≢ []
never_empty n into s₀ sound G once has lt b none =
    let l : length G ≤ length (map (key_in s) (cells_of n.home G)) = pigeonhole _ once (λ k m. seated n s kept.0 none G k m (kept.1 k (has k m))) in
    omega (arith, length-map (cells_of n.home G) (key_in s))
  where
    -- s is sound and has every key that s₀ has
    Keeps : Store → Type 0
    Keeps s = SoundContents n s × ((k : ℕ) → k ∈ present s₀ → k ∈ present s)

    s : Store
    s = after n b s₀

    kept : Keeps s
    kept = run-keeps n Keeps (λ s k. (step-sound n into s k.0, λ x m. (step-present n into s k.0 x).1 (k.1 x m))) b s₀ (sound, λ x m. m)
