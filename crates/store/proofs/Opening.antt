-- Open: its refusals, and that zeros are the words of a store just opened. Assumes nothing.
use Prim.Native.Nat.{ℕ, zero, suc, ◌*◌}
use mathlib.Core.Path.{◌≡◌, refl, sym, ◌∙◌, ap}
use mathlib.Core.Bool.{Bool, true, false, cond, not, true≢false}
use mathlib.Core.List.{List, [], ◌∷◌}
use mathlib.Core.Logic.{◌≢◌}
use native.Mathlib.Omega.{arith}
use borrow.Author.Tests.{le-leb}
use native.Mathlib.Nat.{sub-zero}
use lib.ListN.{length, replicate}
use Rattle.words.specs.Words.{cleared, pad_to}
use Rattle.words.proofs.Pad.{pad_clear}
use Rattle.rules.specs.Store.{free_cell, fresh}
use Rattle.rules.specs.Calls.{answer}
use Rattle.layout.specs.Forms.{cell_form, write_many, packed}
use Rattle.faults.specs.Faults.{within_rooms, fault_of}
use Rattle.faults.proofs.Accepted.{accepted-tests}
use Rattle.store.specs.declared.Control.{Control}
use Rattle.store.specs.declared.Answer.{Answer}
use Rattle.layout.specs.Memory.{words_in, Lent, lent}
use Rattle.store.specs.Memory.{numbers_of, words_of, with_lens}
use Rattle.store.specs.Refusals.{in_range, sized_in, lengths_within, outcome, answered, keeps, refuse_if}
use Rattle.store.specs.Calls.{zeros, new_record, opened}
use Rattle.store.specs.Inner.{fault_in}
use Rattle.store.proofs.Faults.{own_sizes}

-- a new record's lengths are within its rooms
pub new_within : (r Q D L a0 b0 a1 b1 : ℕ) → lengths_within (new_record r Q D L a0 b0 a1 b1) ≡ true
unfolding within_rooms
new_within r Q D L a0 b0 a1 b1 = rw (le-leb 0 Q (omega arith), le-leb 0 D (omega arith))

pub open_refuses : (c : Control) (m : Lent) (k : ℕ) → lengths_within c ≡ true → k ≡ fault_in c m → k ≢ 0 → keeps zeros m (answer k 0 0 0) ≡ opened c m
unfolding opened fault_of
open_refuses c m k full e nz = go (in_range c) (sized_in c m) (lengths_within c) full e
  where
    go : (a b f : Bool) → f ≡ true → k ≡ cond a (cond b (cond f 0 3) 2) 1
        → keeps zeros m (answer k 0 0 0)
        ≡ refuse_if (not a) 1 zeros m (refuse_if (not b) 2 zeros m (keeps (with_lens c 0 0) (words_of c (fresh (numbers_of c))) (answer 0 0 0 0)))
    go true true true g e = absurd (nz e)
    go true true false g e = absurd (true≢false (sym g))
    go true false f g e = ap (λ j. keeps zeros m (answer j 0 0 0)) e
    go false b f g e = ap (λ j. keeps zeros m (answer j 0 0 0)) e

-- all words of a buffer cleared
all_cleared : (n : ℕ) (ws : List ℕ) → length ws ≡ n → cleared 0 (length ws) ws ≡ pad_to n []
all_cleared n ws e = ap (λ k. cleared 0 k ws) e ∙ pad_clear n 0 ws e (omega arith)

-- the words of free cells
zero_words : (r : ℕ) → replicate (2 * r) 0 ≡ write_many cell_form (replicate r free_cell)
unfolding write_many
zero_words zero = refl
zero_words (suc r) = let e : 2 * suc r ≡ suc (suc (2 * r)) = omega arith in ap (λ k. replicate k 0) e ∙ ap (λ l. 0 ∷ 0 ∷ l) (zero_words r)

free_words : (r : ℕ) → pad_to (2 * r) [] ≡ write_many cell_form (replicate r free_cell)
unfolding pad_to
free_words r = ap (λ k. replicate k 0) (sub-zero (2 * r)) ∙ zero_words r

-- an outcome by its five parts
as_one : {t0 t1 q d u0 u1 p e : List ℕ} {a b : Answer} → t0 ≡ u0 → t1 ≡ u1 → q ≡ p → d ≡ e → a ≡ b → outcome (lent t0 t1 q d) a ≡ outcome (lent u0 u1 p e) b
as_one e0 e1 e2 e3 e4 = λ i. outcome (lent (e0 i) (e1 i) (e2 i) (e3 i)) (e4 i)

pub open_accepts : (c : Control) (t0 t1 q d : List ℕ) {u0 u1 p e : List ℕ} {a : Answer} → fault_in c (lent t0 t1 q d) ≡ 0
    → u0 ≡ cleared 0 (length t0) t0 → u1 ≡ cleared 0 (length t1) t1 → p ≡ cleared 0 (length q) q → e ≡ cleared 0 (length d) d
    → a ≡ answered (with_lens c 0 0) (answer 0 0 0 0) → outcome (lent u0 u1 p e) a ≡ opened c (lent t0 t1 q d)
unfolding opened words_in fresh packed write_many
open_accepts c t0 t1 q d h e0 e1 eq ed ea =
    let t = accepted-tests (in_range c) (sized_in c (lent t0 t1 q d)) (lengths_within c) (unfold fault_of in h) in
    let z = own_sizes c (length t0) (length t1) (length q) (length d) t.1 in
    as_one (e0 ∙ all_cleared _ t0 z.first ∙ free_words c.r) (e1 ∙ all_cleared _ t1 z.second ∙ free_words c.r) (eq ∙ all_cleared _ q z.queue) (ed ∙ all_cleared _ d z.detector) ea
    ∙ simp (t.0, t.1)
