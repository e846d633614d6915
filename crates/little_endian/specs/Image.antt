-- 2026-13, "one lent byte image: .. words .., little-endian": the words that the bytes of an image stand for, and what is left of an image in which words
-- were put. Assumes nothing.
use Rattle.std.specs.Prelude.{ℕ, ◌*◌, ◌≡◌, List, [], ◌∷◌, length, drop}
use Rattle.std.proofs.Math.Seq.{paste}
use Rattle.little_endian.specs.Word.{little_endian, AllBytes}

-- each four bytes make a word; fewer at the end make none
unfoldable pub words_of : List ℕ → List ℕ
words_of [] = []
words_of (b0 ∷ []) = []
words_of (b0 ∷ (b1 ∷ [])) = []
words_of (b0 ∷ (b1 ∷ (b2 ∷ []))) = []
words_of (b0 ∷ (b1 ∷ (b2 ∷ (b3 ∷ bs)))) = little_endian b0 b1 b2 b3 ∷ words_of bs

-- words with others put over them, from a place on
abbrev pub words_put : List ℕ → ℕ → List ℕ → List ℕ
words_put ws from src = paste ws from src (length src)

-- the words, and nothing else changed: as many bytes, and those behind the last word as before
pub record Holds (before after ws : List ℕ) : Type 0 where
  pub words : words_of after ≡ ws
  pub size : length after ≡ length before
  pub rest : drop (4 * length (words_of before)) after ≡ drop (4 * length (words_of before)) before

-- the words settle the bytes: two images that hold the same words are one
abbrev pub WordsSettleBytes : Type 0
WordsSettleBytes = (before a b ws : List ℕ) → AllBytes a → AllBytes b → Holds before a ws → Holds before b ws → a ≡ b
