-- The words settle the bytes. Assumes nothing.
use mathlib.Core.Path.{◌≡◌, refl, ap, sym, ◌∙◌}
use mathlib.Core.List.{List, [], ◌∷◌, ◌++◌}
use Prim.Native.Nat.{ℕ, suc, ◌*◌}
use native.Mathlib.Omega.{arith}
use lib.ListN.{length, drop}
use Rattle.little_endian.specs.Word.{bytes_of_word, AllBytes}
use Rattle.little_endian.specs.Image.{words_of, WordsSettleBytes}
use Rattle.little_endian.proofs.Laws.{bytes_of_word_read}
use Rattle.little_endian.proofs.Image.{same_count}

bytes_of : List ℕ → List ℕ
bytes_of [] = []
bytes_of (w ∷ ws) = bytes_of_word w ++ bytes_of ws

-- the bytes of the words, and those behind them, are all
again : (bs : List ℕ) → AllBytes bs → bytes_of (words_of bs) ++ drop (4 * length (words_of bs)) bs ≡ bs
unfolding words_of bytes_of
again [] h = refl
again (b0 ∷ []) h = refl
again (b0 ∷ (b1 ∷ [])) h = refl
again (b0 ∷ (b1 ∷ (b2 ∷ []))) h = refl
again (b0 ∷ (b1 ∷ (b2 ∷ (b3 ∷ bs)))) h =
    let n = length (words_of bs) in
    let e : 4 * suc n ≡ suc (suc (suc (suc (4 * n)))) = omega arith in
    let rest = drop (4 * n) bs in
    rw e
    (ap (λ four. (four ++ bytes_of (words_of bs)) ++ rest) (bytes_of_word_read (b0 ∷ (b1 ∷ (b2 ∷ (b3 ∷ bs)))) 0 h (omega arith))
    ∙ ap (λ l. b0 ∷ b1 ∷ b2 ∷ b3 ∷ l) (again bs (λ k. h (suc (suc (suc (suc k)))))))

pub words_settle_bytes : WordsSettleBytes
words_settle_bytes before a b ws ha hb p q =
    sym (again a ha)
    ∙ ap (λ n. bytes_of (words_of a) ++ drop (4 * n) a) (same_count p)
    ∙ ap (λ r. bytes_of (words_of a) ++ r) (p.rest ∙ sym q.rest)
    ∙ ap (λ x. bytes_of x ++ drop (4 * length (words_of before)) b) (p.words ∙ sym q.words)
    ∙ ap (λ n. bytes_of (words_of b) ++ drop (4 * n) b) (sym (same_count q))
    ∙ again b hb
