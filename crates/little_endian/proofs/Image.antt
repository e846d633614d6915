-- The words of an image: how many there are, where each stands, and what a put leaves. Assumes nothing.
use mathlib.Core.Path.{◌≡◌, refl, ap, subst, ◌∙◌}
use mathlib.Core.List.{List, [], ◌∷◌}
use Prim.Native.Nat.{ℕ, zero, suc, ◌+◌, ◌*◌, ◌/◌, ◌^◌, ◌<◌, ◌≤◌}
use native.Mathlib.Nat.{le_of_suc-le-suc, not-suc-le-zero}
use native.Mathlib.Omega.{arith}
use native.Mathlib.Numerals.{unary_clauses}
use lib.ListN.{length, get_or, set, drop}
use lib.Seq.{length-sets, paste}
use Rattle.std.proofs.lemmas.Grind.{common_steps}
use Rattle.std.proofs.lemmas.List.Edits.{sets, paste_more}
use Rattle.little_endian.specs.Word.{little_endian, word_at, bytes_of_word}
use Rattle.little_endian.specs.Image.{words_of, Holds}
use Rattle.little_endian.proofs.Laws.{word_of_bytes}

pub length_words : (bs : List ℕ) → length (words_of bs) ≡ length bs / 4
unfolding words_of
length_words [] = refl
length_words (b0 ∷ []) = refl
length_words (b0 ∷ (b1 ∷ [])) = refl
length_words (b0 ∷ (b1 ∷ (b2 ∷ []))) = refl
length_words (b0 ∷ (b1 ∷ (b2 ∷ (b3 ∷ bs)))) = omega (arith, length_words bs)

-- word i stands in the four bytes from 4 i
pub word_stands : (bs : List ℕ) (i : ℕ) → i < length (words_of bs) → word_at bs (4 * i) ≡ get_or (words_of bs) i 0
unfolding words_of
word_stands [] i h = absurd (not-suc-le-zero h)
word_stands (b0 ∷ []) i h = absurd (not-suc-le-zero h)
word_stands (b0 ∷ (b1 ∷ [])) i h = absurd (not-suc-le-zero h)
word_stands (b0 ∷ (b1 ∷ (b2 ∷ []))) i h = absurd (not-suc-le-zero h)
word_stands (b0 ∷ (b1 ∷ (b2 ∷ (b3 ∷ bs)))) zero h = refl
word_stands (b0 ∷ (b1 ∷ (b2 ∷ (b3 ∷ bs)))) (suc i) h =
    let four : 4 * suc i ≡ suc (suc (suc (suc (4 * i)))) = omega arith in
    rw four (simp unary_clauses (simp unary_clauses at (word_stands bs i (le_of_suc-le-suc h))))

-- four bytes stored from 4 i are word i put
stored_words : (bs : List ℕ) (i b0 b1 b2 b3 : ℕ) → i < length (words_of bs)
    → words_of (sets bs (4 * i) (b0 ∷ b1 ∷ b2 ∷ b3 ∷ [])) ≡ set (words_of bs) i (little_endian b0 b1 b2 b3)
unfolding words_of
stored_words [] i b0 b1 b2 b3 h = absurd (not-suc-le-zero h)
stored_words (x0 ∷ []) i b0 b1 b2 b3 h = absurd (not-suc-le-zero h)
stored_words (x0 ∷ (x1 ∷ [])) i b0 b1 b2 b3 h = absurd (not-suc-le-zero h)
stored_words (x0 ∷ (x1 ∷ (x2 ∷ []))) i b0 b1 b2 b3 h = absurd (not-suc-le-zero h)
stored_words (x0 ∷ (x1 ∷ (x2 ∷ (x3 ∷ bs)))) zero b0 b1 b2 b3 h = refl
stored_words (x0 ∷ (x1 ∷ (x2 ∷ (x3 ∷ bs)))) (suc i) b0 b1 b2 b3 h =
    let e : 4 * suc i ≡ suc (suc (suc (suc (4 * i)))) = omega arith in
    rw e (ap (λ ws. little_endian x0 x1 x2 x3 ∷ ws) (stored_words bs i b0 b1 b2 b3 (le_of_suc-le-suc h)))

-- the bytes of a word stored from 4 i are word i put
pub put_holds : (bs after : List ℕ) (i w : ℕ) → i < length (words_of bs) → w < 2 ^ 32 → after ≡ sets bs (4 * i) (bytes_of_word w)
    → Holds bs after (set (words_of bs) i w)
put_holds bs after i w h fits e =
    let below : 4 * i + 4 ≤ 4 * length (words_of bs) = omega arith in
    rw e
    (record {
      words = rw (stored_words bs i _ _ _ _ h, word_of_bytes w fits);
      size = length-sets bs (4 * i) (bytes_of_word w);
      rest = grind (arith, common_steps);
    })

-- as many words as before
pub same_count : {a b ws : List ℕ} → Holds a b ws → length (words_of b) ≡ length (words_of a)
same_count {a} {b} p = omega (arith, length_words a, length_words b, p.size)

-- a run of words, and one put more
pub one_more : (a b c src : List ℕ) (from j : ℕ) → from + length src ≤ length (words_of a) → j < length src
    → Holds a b (paste (words_of a) from src j) → Holds b c (set (words_of b) (from + j) (get_or src j 0)) → Holds a c (paste (words_of a) from src (j + 1))
one_more a b c src from j room below p q =
    record {
      words =
          q.words
          ∙ ap (λ ws. set ws (from + j) (get_or src j 0)) p.words
          ∙ paste_more (words_of a) from src j 0 (omega arith) below;
      size = q.size ∙ p.size;
      rest = subst (λ n. drop (4 * n) c ≡ drop (4 * n) b) (same_count p) q.rest ∙ p.rest;
    }
