-- Document 01, "Command records": "both words little-endian". A word and its bytes, and the claims that each gives the other. Assumes nothing.
use Rattle.std.specs.Prelude.{ℕ, ◌+◌, ◌*◌, ◌/◌, ◌%◌, ◌^◌, ◌<◌, ◌≤◌, ◌≡◌, List, [], ◌∷◌, ◌++◌, length, get_or, take, drop}

-- "little-endian": the lowest byte first
unfoldable pub little_endian : ℕ → ℕ → ℕ → ℕ → ℕ
little_endian b0 b1 b2 b3 = b0 + 256 * b1 + 65536 * b2 + 16777216 * b3

-- the word at a place
abbrev pub word_at : List ℕ → ℕ → ℕ
word_at bytes at = little_endian (get_or bytes at 0) (get_or bytes (at + 1) 0) (get_or bytes (at + 2) 0) (get_or bytes (at + 3) 0)

-- the bytes of a word
abbrev pub bytes_of_word : ℕ → List ℕ
bytes_of_word w = w % 256 ∷ w / 256 % 256 ∷ w / 65536 % 256 ∷ w / 16777216 % 256 ∷ []

-- the word is read where its bytes stand
abbrev pub WordIsReadBack : Type 0
WordIsReadBack = (before after : List ℕ) (w : ℕ) → w < 2 ^ 32 → word_at (before ++ (bytes_of_word w ++ after)) (length before) ≡ w

-- each number is a byte
abbrev pub AllBytes : List ℕ → Type 0
AllBytes bytes = (k : ℕ) → get_or bytes k 0 < 256

-- the bytes of the word read are those that stand there
abbrev pub BytesOfWordRead : Type 0
BytesOfWordRead = (bytes : List ℕ) (at : ℕ) → AllBytes bytes → at + 4 ≤ length bytes → bytes_of_word (word_at bytes at) ≡ take 4 (drop at bytes)
