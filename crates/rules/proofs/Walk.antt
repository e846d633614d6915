-- A clean walk, which starts with an empty detector: what each of its moves keeps, and that in a group that fits no pair comes up twice. Assumes nothing.
use Prim.Native.Nat.{ℕ, suc, ◌*◌, ◌≤◌, ◌<◌}
use mathlib.Core.Path.{◌≡◌, refl, sym, ◌∙◌, ap, subst}
use mathlib.Core.Logic.{◌⊎◌, inl, inr, ◌≢◌, ⊎_elim, ⊎_map}
use mathlib.Core.List.Memᴰ.{cases_cons as split}
use mathlib.Core.List.Memᴰ.{cast}
use mathlib.Core.List.Memᴰ.{head as here}
use mathlib.Core.List.Memᴰ.{tail as there}
use mathlib.Core.List.{List, [], ◌∷◌, ◌++◌, map}
use mathlib.Core.List.Memᴰ.{eq_of_singleton}
use mathlib.Core.List.Memᴰ.{not-nil}
use mathlib.Core.List.Memᴰ.{append_left}
use mathlib.Core.List.Memᴰ.{append_right}
use native.Mathlib.Omega.{arith}
use lib.ListN.{length, length-map, length-append}
use Rattle.lists.specs.Lists.{◌∈◌, NoDup, nil, more, each_once}
use Rattle.lists.proofs.Sets.{mem?, pigeonhole, each_once_nodup, to_each_once, of_each_once, to_map, of_map, map_nodup, nodup_head, nodup_tail}
use Rattle.rules.specs.Store.{Table, table_0, table_1, other}
use Rattle.rules.specs.Groups.{Sided, same_sided, home_cell, itself, link, IsGroup, cells_of}
use Rattle.rules.proofs.Sided.{sided_path, sided?, sided_tells}
use Rattle.rules.proofs.Groups.{both, Done, growth}
use Rattle.rules.proofs.View.{aim, Written, Seen, other_differs}

-- In this file K is the key in each cell, f the front key with the table that it heads for, and M the marked pairs, the last in front.

-- the same key on its way to the other table
abbrev pub flip : Sided → Sided
flip f = (f.0, other f.1)

abbrev heads : Table → ℕ → Sided
heads t k = (k, t)

other-other : (t : Table) → other (other t) ≡ t
other-other table_0 = refl
other-other table_1 = refl

-- the cells that pairs head for: of the marked pairs, those that the walk has been to
abbrev cells : (Table → ℕ → ℕ) → List Sided → List Sided
cells h M = map (aim h) M

-- f₀ is the front at the walk's start
module _ (h : Table → ℕ → ℕ) (f₀ : Sided) where
  -- f was pushed out by the head of the list, that by the next, and so on to f₀; each still lies where it went
  abbrev Chain : (Sided → ℕ) → Sided → List Sided → Type 0
  Chain K f [] = f ≡ f₀
  Chain K f (p ∷ ch) = (K (aim h p) ≡ p.0) × (home_cell h p.1 f.0 ≡ aim h p) × (f.1 ≡ other p.1) × Chain K p ch

  sits : (K : Sided → ℕ) {p : Sided} {ch : List Sided} → p ∈ ch → (f : Sided) → Chain K f ch → K (aim h p) ≡ p.0
  sits K (here {x = q} e) f c = rw e c.0
  sits K (there {x = q} m) f c = sits K m q c.3

  -- a chain stands as long as its cells stay as they are
  same : (K K' : Sided → ℕ) (ch : List Sided) (f : Sided) → ((c : Sided) → c ∈ cells h ch → K' c ≡ K c) → Chain K f ch → Chain K' f ch
  same K K' [] f e c = c
  same K K' (p ∷ ch) f e c = (e _ (here refl) ∙ c.0, c.1, c.2, same K K' ch p (λ d m. e d (there m)) c.3)

  -- the pair of a chain M that went to cell c, and the chain behind it
  abbrev CutChain : (Sided → ℕ) → List Sided → Sided → Type 0
  CutChain K M c =
      (p : Sided) × (ch : List Sided) × (aim h p ≡ c) × (p ∈ M) × Chain K p ch × NoDup (cells h ch) × (c ∈ cells h ch → ⊥) × ((r : Sided) → r ∈ ch → r ∈ M)

  cut_chain : (K : Sided → ℕ) (M : List Sided) (f c : Sided) → Chain K f M → NoDup (cells h M) → c ∈ cells h M → CutChain K M c
  cut_chain K [] f c t d m = absurd (not-nil m)
  cut_chain K (p ∷ M) f c t d m = ⊎_elim
      (λ e. (p, M, sym e, here refl, t.3, nodup_tail d, λ i. nodup_head d (cast (sym e) i), λ r i. there i))
      (λ i. let u = cut_chain K M p c t.3 (nodup_tail d) i in (u.0, u.1, u.2, there u.3, u.4, u.5, u.6, λ r j. there (u.7 r j)))
      (split m)

  -- the walk has gone to a new cell each time
  Out : (Sided → ℕ) → Sided → List Sided → Type 0
  Out K f M = Chain K f M × NoDup (cells h M)

  -- it came to a cell where it had been, and goes back along the chain
  Back : (Sided → ℕ) → Sided → List Sided → Type 0
  Back K f M = (ch : List Sided) × Chain K (flip f) ch × NoDup (cells h ch) × (f ∈ M → ⊥) × ((p : Sided) → p ∈ ch → flip p ∈ M → ⊥)

  -- it has been to the other home of f₀'s key, or is on its way out or back
  Phase : (Sided → ℕ) → Sided → List Sided → Type 0
  Phase K f M = (aim h (flip f₀) ∈ cells h M) ⊎ (Out K f M ⊎ Back K f M)

  -- what a clean walk in the group G keeps
  pub record Inv (G : List ℕ) (K : Sided → ℕ) (f : Sided) (M : List Sided) : Type 0 where
    -- all its keys are of the group
    group : (p : Sided) → p ∈ f ∷ M → p.0 ∈ G
    -- each but the first was pushed out of its other home, where the walk has been
    back : (p : Sided) → p ∈ f ∷ M → (p ≡ f₀) ⊎ (aim h (flip p) ∈ cells h M)
    -- where it has been, keys of its own lie
    own : (c : Sided) → c ∈ cells h M → (K c ≢ 0) × ((p : Sided) × (p ∈ M) × (K c ≡ p.0))
    once : NoDup M
    phase : Phase K f M

  -- the phases over one move
  module _ (K K' : Sided → ℕ) (f : Sided) (M : List Sided) (s : Seen h K f.0) (nz : K (aim h f) ≢ 0) (w : Written K (aim h f) f.0 K') where
    -- the key pushed out, which heads for its other home
    abbrev f' : Sided
    f' = (K (aim h f), other f.1)

    arrived : K' (aim h f) ≡ f.0
    arrived = ⊎_elim (λ t. t.1) (λ t. absurd (t.0 refl)) (w (aim h f))

    untouched : (ch : List Sided) → (aim h f ∈ cells h ch → ⊥) → (c : Sided) → c ∈ cells h ch → K' c ≡ K c
    untouched ch n c m = ⊎_elim (λ t. absurd (n (cast (sym t.0) m))) (λ t. t.1) (w c)

    -- a key lies in no two cells
    no_two : (p : Sided) → K (aim h p) ≢ 0 → K (aim h p) ≡ p.0 → K (aim h (flip p)) ≡ p.0 → ⊥
    no_two p n a b = other_differs p.1 (sym (ap (λ x. x.1) (s.one_cell (aim h p) (aim h (flip p)) n (a ∙ sym b))))

    out_far : (aim h f ∈ cells h M → ⊥) → Out K f M → Out K' f' (f ∷ M)
    unfolding Out
    out_far n (c, d) = ((arrived, s.at_home (aim h f) nz, refl, same K K' M f (untouched M n) c), more n d)

    -- f pushes out a key p of the chain, which then heads back to where it came from
    turn : (p : Sided) (ch : List Sided) → K (aim h p) ≡ p.0 → aim h p ≡ aim h f → Chain K p ch → NoDup (cells h ch) → (aim h f ∈ cells h ch → ⊥)
        → ((r : Sided) → r ∈ p ∷ ch → flip r ∈ M → ⊥) → Back K' f' (f ∷ M)
    unfolding Back
    turn p ch k e t u n g = (
      ch,
      same K K' ch (flip f') (untouched ch n) (subst (λ x. Chain K x ch) back t),
      u,
      λ m. ⊎_elim (λ o. other_differs f.1 (ap (λ x. x.1) o)) (λ i. g p (here refl) (cast (sided_path key (ap (λ x. other x.1) e)) i)) (split m),
      λ r i m. ⊎_elim (λ o. s.front_apart (aim h r) (sits K i p t ∙ ap (λ x. x.0) o)) (λ j. g r (there i) j) (split m),
    )
      where
        key : p.0 ≡ K (aim h f)
        key = sym k ∙ ap K e

        back : p ≡ flip f'
        back = sided_path key (ap (λ x. x.1) e ∙ sym (other-other f.1))

    out_near : ((c : Sided) → c ∈ cells h M → K c ≢ 0) → aim h f ∈ cells h M → Out K f M → Back K' f' (f ∷ M)
    unfolding Out
    out_near occ m (c, d) =
        let t = cut_chain K M f (aim h f) c d m in
        turn t.0 t.1 (sits K t.3 f c) t.2 t.4 t.5 t.6
        (λ r i j. let m = ⊎_elim (λ e. cast e t.3) (t.7 r) (split i) in no_two r (occ _ (to_map (aim h) m)) (sits K m f c) (sits K j f c))

    back_on : (ch : List Sided) → Chain K (flip f) ch → NoDup (cells h ch) → (f ∈ M → ⊥) → ((p : Sided) → p ∈ ch → flip p ∈ M → ⊥)
        → (aim h (flip f₀) ∈ cells h (f ∷ M)) ⊎ Back K' f' (f ∷ M)
    back_on [] c d n g = inl (here (sym (ap (λ x. aim h (flip x)) c) ∙ ap (λ b. home_cell h b f.0) (other-other f.1)))
    back_on (p ∷ ch) c d n g =
        let e : aim h p ≡ aim h f = sym c.1 ∙ ap (λ b. home_cell h b f.0) (sym (other-other p.1) ∙ ap other (sym c.2) ∙ other-other f.1) in
        inr (turn p ch c.0 e c.3 (nodup_tail d) (λ m. nodup_head d (cast e m)) g)

    next_phase : ((c : Sided) → c ∈ cells h M → K c ≢ 0) → Phase K f M → Phase K' f' (f ∷ M)
    unfolding Phase Back
    next_phase occ (inl m) = inl (there m)
    next_phase occ (inr (inl o)) = go (mem? sided? (aim h f) (cells h M))
      where
        go : Dec (aim h f ∈ cells h M) → Phase K' f' (f ∷ M)
        go (yes m) = inr (inr (out_near occ m o))
        go (no n) = inr (inl (out_far n o))
    next_phase occ (inr (inr b)) = ⊎_elim inl (λ x. inr (inr x)) (back_on b.0 b.1 b.2 b.3 b.4)

-- a walk in the group G of f₀'s key, one of the keys ps
module _ {h : Table → ℕ → ℕ} {ps : List ℕ} (f₀ : Sided) {G : List ℕ} (g : IsGroup h ps f₀.0 G) where
  pub first : f₀.0 ∈ ps → (K : Sided → ℕ) → Inv h f₀ G K f₀ []
  unfolding Phase Out
  first m K = record {
    group = λ p i. cast (ap (λ x. x.0) (eq_of_singleton i)) (g.whole _ m itself);
    back = λ p i. inl (eq_of_singleton i);
    own = λ c i. absurd (not-nil i);
    once = nil;
    phase = inr (inl (refl, nil));
  }

  module _ (fits : length G ≤ length (cells_of h G)) {K : Sided → ℕ} {f : Sided} {M : List Sided} (s : Seen h K f.0) (v : Inv h f₀ G K f M) where
    -- the cells that the walk has been to are closed, and one key too many is there: no such group
    crowd : aim h f ∈ cells h M → aim h (flip f₀) ∈ cells h M → ⊥
    crowd m m₀ = let lt : length (cells_of h G) < length G = growth h g W nd sub done (omega (arith, length-map W K)) in omega arith
      where
        W : List Sided
        W = each_once same_sided (cells h M)

        closed : (p : Sided) → p ∈ f ∷ M → aim h p ∈ cells h M → Done h W p.0
        closed p i j = both (λ b. home_cell h b p.0 ∈ W) p.1 (to_each_once sided_tells _ j)
            (to_each_once sided_tells _ (⊎_elim (λ e. cast (ap (λ x. aim h (flip x)) e) m₀) (λ k. k) (v.back p i)))

        -- a key of the list is the front's or one of M's
        whose : (z : ℕ) → z ∈ f.0 ∷ map K W → (p : Sided) × (p ∈ f ∷ M) × (aim h p ∈ cells h M) × (z ≡ p.0)
        whose z i = ⊎_elim (λ e. (f, here refl, m, e)) (λ j. let t = of_map K W j in lies t.0 (of_each_once sided_tells _ t.1) t.2) (split i)
          where
            lies : (c : Sided) → c ∈ cells h M → K c ≡ z → (p : Sided) × (p ∈ f ∷ M) × (aim h p ∈ cells h M) × (z ≡ p.0)
            lies c j e = let o = (v.own c j).1 in (o.0, there o.1, to_map (aim h) o.1, sym e ∙ o.2)

        nd : NoDup (f.0 ∷ map K W)
        nd = more (λ i. let t = of_map K W i in s.front_apart t.0 t.2)
            (map_nodup K (λ a b i j e. s.one_cell a b (v.own a (of_each_once sided_tells _ i)).0 e) (each_once_nodup sided_tells _))

        sub : (z : ℕ) → z ∈ f.0 ∷ map K W → z ∈ G
        sub z i = let t = whose z i in cast t.3 (v.group t.0 t.1)

        done : (z : ℕ) → z ∈ f.0 ∷ map K W → Done h W z
        done z i = let t = whose z i in subst (Done h W) (sym t.3) (closed t.0 t.1 t.2)

    pub unmarked : f ∈ M → ⊥
    unfolding Phase Out Back
    unmarked m = ⊎_elim (crowd (to_map (aim h) m)) (λ x. ⊎_elim (λ o. s.front_apart (aim h f) (sits h f₀ K m f o.0)) (λ b. b.3 m) x) v.phase

    -- the marked pairs and the front are different pairs of the group
    pub few : length M < 2 * length G
    few =
        let l : suc (length M) ≤ length pairs = pigeonhole pairs (more unmarked v.once) (λ p m. in_pairs p p.1 refl (v.group p m)) in
        omega (arith, length-append (map (heads table_0) G) (map (heads table_1) G), length-map G (heads table_0), length-map G (heads table_1))
      where
        pairs : List Sided
        pairs = map (heads table_0) G ++ map (heads table_1) G

        in_pairs : (p : Sided) (t : Table) → p.1 ≡ t → p.0 ∈ G → p ∈ pairs
        in_pairs p table_0 e m = append_left _ (cast (sided_path refl e) (to_map (heads table_0) m))
        in_pairs p table_1 e m = append_right (map (heads table_0) G) (cast (sided_path refl e) (to_map (heads table_1) m))

    pub move : (K' : Sided → ℕ) → Written K (aim h f) f.0 K' → K (aim h f) ≢ 0 → K (aim h f) ∈ ps → Inv h f₀ G K' (K (aim h f), other f.1) (f ∷ M)
    move K' w nz z = record {
      group = λ p m. ⊎_elim (λ e. cast (ap (λ x. x.0) e) new) (v.group p) (split m);
      back = λ p m. ⊎_elim (λ e. inr (here (ap (λ x. aim h (flip x)) e ∙ came_from))) (λ i. ⊎_map (λ e. e) there (v.back p i)) (split m);
      own = own;
      once = more unmarked v.once;
      phase = next_phase h f₀ K K' f M s nz w (λ c m. (v.own c m).0) v.phase;
    }
      where
        new : K (aim h f) ∈ G
        new = let t = g.linked f.0 (v.group f (here refl)) in g.whole _ z (link t.1 t.0 z (f.1, sym (s.at_home (aim h f) nz)))

        came_from : aim h (flip (K (aim h f), other f.1)) ≡ aim h f
        came_from = ap (λ b. home_cell h b (K (aim h f))) (other-other f.1) ∙ s.at_home (aim h f) nz

        Owned : Sided → Type 0
        Owned c = (K' c ≢ 0) × ((p : Sided) × (p ∈ f ∷ M) × (K' c ≡ p.0))

        kept : (c : Sided) → K' c ≡ K c → c ∈ cells h M → Owned c
        kept c e i = let o = v.own c i in (λ x. o.0 (sym e ∙ x), (o.1.0, there o.1.1, e ∙ o.1.2))

        own : (c : Sided) → c ∈ cells h (f ∷ M) → Owned c
        own c m = ⊎_elim (λ t. (λ x. s.front_not_0 (sym t.1 ∙ x), (f, here refl, t.1)))
            (λ t. kept c t.1 (⊎_elim (λ e. absurd (t.0 e)) (λ i. i) (split m))) (w c)
