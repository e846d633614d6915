-- What the groups of keys give: keys and cells counted against each other, and each key has a group. Assumes nothing.
use mathlib.Core.Path.{◌≡◌, refl, sym, ap, subst}
use mathlib.Core.Logic.{⊎_elim}
use mathlib.Core.List.Memᴰ.{append_cases}
use mathlib.Core.List.Memᴰ.{append_left}
use mathlib.Core.List.Memᴰ.{append_right}
use mathlib.Core.List.Memᴰ.{cases_cons as split}
use mathlib.Core.List.Memᴰ.{cast}
use mathlib.Core.List.Memᴰ.{head as here}
use mathlib.Core.List.Memᴰ.{not-nil}
use mathlib.Core.List.Memᴰ.{tail as there}
use mathlib.Core.List.{List, [], ◌∷◌, map}
use Prim.Native.Nat.{ℕ, zero, suc, ◌+◌, ◌≤◌, ◌<◌}
use native.Mathlib.Omega.{arith}
use lib.Dec.{eqb}
use lib.ListN.{length}
use Rattle.lists.specs.Lists.{◌∈◌, NoDup, each_once}
use Rattle.lists.proofs.Sets.{any?, mem?, Cut, cut, Rest, rest, pigeonhole, each_once_nodup, to_each_once, of_each_once, some, Sieve, sieve, to_map, of_map}
use Rattle.rules.specs.Store.{Table, table_0, table_1, other}
use Rattle.rules.proofs.Sided.{sided?, sided_tells, eqb_tells}
use Rattle.rules.specs.Groups.{Sided, home_cell, Shares, Linked, itself, link, IsGroup, cells_of}

-- what holds at a side and at the other holds at each
pub both : (P : Table → Type 0) (s : Table) → P s → P (other s) → (t : Table) → P t
both P table_1 a b table_1 = a
both P table_1 a b table_0 = b
both P table_0 a b table_1 = b
both P table_0 a b table_0 = a

module _ (h : Table → ℕ → ℕ) where
  pub to_cells : (G : List ℕ) (s : Table) {k : ℕ} → k ∈ G → home_cell h s k ∈ cells_of h G
  unfolding cells_of
  to_cells G table_0 m = to_each_once sided_tells _ (append_left _ (to_map (home_cell h table_0) m))
  to_cells G table_1 m = to_each_once sided_tells _ (append_right (map (home_cell h table_0) G) (to_map (home_cell h table_1) m))

  pub of_cells : (G : List ℕ) {c : Sided} → c ∈ cells_of h G → (k : ℕ) × (k ∈ G) × ((s : Table) × (home_cell h s k ≡ c))
  unfolding cells_of
  of_cells G m = ⊎_elim (λ i. let t = of_map (home_cell h table_0) G i in (t.0, t.1, (table_0, t.2))) (λ i. let t = of_map (home_cell h table_1) G i in (t.0, t.1, (table_1, t.2)))
      (append_cases (map (home_cell h table_0) G) (of_each_once sided_tells _ m))

  -- W has a home_cell h of k; W has both
  abbrev pub Touch : List Sided → ℕ → Type 0
  Touch W k = (s : Table) × (home_cell h s k ∈ W)

  abbrev pub Done : List Sided → ℕ → Type 0
  Done W k = (s : Table) → home_cell h s k ∈ W

  touch? : (W : List Sided) (k : ℕ) → Dec (Touch W k)
  touch? W k = go (mem? sided? (home_cell h table_1 k) W) (mem? sided? (home_cell h table_0 k) W)
    where
      go : Dec (home_cell h table_1 k ∈ W) → Dec (home_cell h table_0 k ∈ W) → Dec (Touch W k)
      go (yes m) d = yes (table_1, m)
      go (no n) (yes m) = yes (table_0, m)
      go (no n) (no n') = no (λ t. both (λ s. home_cell h s k ∈ W → ⊥) table_1 n n' t.0 t.1)

  -- W grown until it has both homes of each key of R of which it has one: by a cell a key at most
  module _ (P : Sided → Type 0) where
    abbrev Sat : List ℕ → List Sided → Type 0
    Sat R W = (W' : List Sided) × (length W' ≤ length W + length R) × ((c : Sided) → c ∈ W → c ∈ W') × ((k : ℕ) → k ∈ R → Touch W' k → Done W' k) × ((c : Sided) → c ∈ W' → P c)

    abbrev Closed : List ℕ → Type 0
    Closed R = (k : ℕ) (s t : Table) → k ∈ R → P (home_cell h s k) → P (home_cell h t k)

    saturate : (n : ℕ) (R : List ℕ) (W : List Sided) → length R ≤ n → Closed R → ((c : Sided) → c ∈ W → P c) → Sat R W
    saturate zero R W l cl f = ⊎_elim (λ t. absurd (omega (arith, (cut t.1).1))) (λ g. (W, omega arith, λ c m. m, λ k m t. absurd (g k m t), f)) (any? (touch? W) R)
    saturate (suc n) R W l cl f = ⊎_elim (λ t. add t (cut t.1) (λ R' W'. saturate n R' W')) (λ g. (W, omega arith, λ c m. m, λ k m t. absurd (g k m t), f)) (any? (touch? W) R)
      where
        add : (t : (k : ℕ) × (k ∈ R) × Touch W k) → Cut t.0 R → ((R' : List ℕ) (W' : List Sided) → length R' ≤ n → Closed R' → ((c : Sided) → c ∈ W' → P c) → Sat R' W') → Sat R W
        add (k, m, (s, i)) c ih =
            let W₁ : List Sided = home_cell h (other s) k ∷ W in
            let r : Sat c.0 W₁ = ih c.0 W₁ (omega (arith, c.1)) (λ j a b o. cl j a b (c.3 j o)) (λ d o. ⊎_elim (λ e. subst P (sym e) (cl k s (other s) m (f _ i))) (f d) (split o)) in (
              r.0,
              omega (arith, r.1, c.1),
              λ d o. r.2 d (there o),
              λ j o t. ⊎_elim (λ e. subst (Done r.0) (sym e) (both (λ b. home_cell h b k ∈ r.0) s (r.2 _ (there i)) (r.2 _ (here refl)))) (λ o'. r.3 j o' t) (c.2 j o),
              r.4,
            )

  module _ {ps : List ℕ} {x : ℕ} {G : List ℕ} (g : IsGroup h ps x G) where
    -- what one member hands to those that share a cell with it, all have
    spread : (Q : ℕ → Type 0) → ((y z : ℕ) → y ∈ G → z ∈ G → Shares h y z → Q y → Q z) → Q x → {z : ℕ} → Linked h ps x z → Q z
    spread Q f q itself = q
    spread Q f q (link {y = y} {z = z} l a b s) = f y z (g.whole y a l) (g.whole z b (link l a b s)) s (spread Q f q l)

    -- the other way: from a member to x
    gather : (Q : ℕ → Type 0) → ((y z : ℕ) → y ∈ G → z ∈ G → Shares h y z → Q z → Q y) → {z : ℕ} → Linked h ps x z → Q z → Q x
    gather Q f itself q = q
    gather Q f (link {y = y} {z = z} l a b s) q = gather Q f l (f y z (g.whole y a l) (g.whole z b (link l a b s)) s q)

    -- keys of a group that have more members than cells: then so has the group
    pub growth : {S : List ℕ} (W : List Sided) → NoDup S → ((z : ℕ) → z ∈ S → z ∈ G) → ((z : ℕ) → z ∈ S → Done W z) → length W < length S → length (cells_of h G) < length G
    unfolding cells_of
    growth {S} W d sub done lt = let r : Rest S G = rest G d sub in go r (saturate (λ c. Unit {0}) (length r.0) r.0 W (omega arith) (λ k s t m u. u) (λ c m. tt)) (some S (omega arith))
      where
        go : (r : Rest S G) → Sat (λ c. Unit {0}) r.0 W → (k : ℕ) × (k ∈ S) → length (cells_of h G) < length G
        go r v (k, i) =
            let close : (z : ℕ) → z ∈ G → Touch v.0 z → Done v.0 z = λ z m t. ⊎_elim (λ i s. v.2 _ (done z i s)) (λ i. v.3 z i t) (r.2 z m) in
            let seed : Done v.0 x = gather (Done v.0) (λ y z a b s e. close y a (s.0, cast s.1 (e s.0))) (g.linked k (sub k i)).1 (λ s. v.2 _ (done k i s)) in
            let all : (z : ℕ) → z ∈ G → Done v.0 z = λ z m. spread (Done v.0) (λ y z a b s e. close z b (s.0, cast (sym s.1) (e s.0))) seed (g.linked z m).1 in
            let fits : length (cells_of h G) ≤ length v.0 = pigeonhole v.0 (each_once_nodup sided_tells _) (λ c m. let t = of_cells G m in cast (sym t.2.1) (all t.0 t.1 t.2.0)) in
            omega (arith, r.1, v.1)

  -- each present key has a group
  pub group_of : (ps : List ℕ) (x : ℕ) → x ∈ ps → (G : List ℕ) × IsGroup h ps x G
  group_of ps x m = go (saturate Near (length ps) ps W₀ (omega arith) (λ k s t i n. (k, i, near k s i n, (t, refl))) (λ c i. ⊎_elim (λ e. (x, m, itself, (table_1, sym e))) (λ j. ⊎_elim (λ e. (x, m, itself, (table_0, sym e))) (λ k. absurd (not-nil k)) (split j)) (split i)))
    where
      Near : Sided → Type 0
      Near c = (z : ℕ) × (z ∈ ps) × Linked h ps x z × ((s : Table) × (home_cell h s z ≡ c))

      near : (k : ℕ) (s : Table) → k ∈ ps → Near (home_cell h s k) → Linked h ps x k
      near k s i (z, j, l, (a, e)) = link l j i (s, cc (ap (λ p. p.1) e))

      W₀ : List Sided
      W₀ = home_cell h table_1 x ∷ home_cell h table_0 x ∷ []

      go : Sat Near ps W₀ → (G : List ℕ) × IsGroup h ps x G
      go v = pack (sieve (touch? v.0) ps)
        where
          reach : {z : ℕ} → Linked h ps x z → Done v.0 z
          reach itself = both (λ s. home_cell h s x ∈ v.0) table_1 (v.2 _ (here refl)) (v.2 _ (there (here refl)))
          reach (link {z = z} l a b s) = v.3 z b (s.0, cast (sym s.1) (reach l s.0))

          pack : Sieve (Touch v.0) ps → (G : List ℕ) × IsGroup h ps x G
          pack f = (
            each_once eqb f.0,
            record {
              once = each_once_nodup eqb_tells f.0;
              linked = λ z i. let p = f.1 z (of_each_once eqb_tells _ i) in (p.0, near z p.1.0 p.0 (v.4 _ p.1.1));
              whole = λ z i l. to_each_once eqb_tells f.0 (f.2 z i (table_1, reach l table_1));
            },
          )
