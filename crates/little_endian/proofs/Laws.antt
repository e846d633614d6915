-- A word and its bytes, each from the other. Assumes nothing.
use Prim.Native.Nat.{ℕ, ◌+◌, ◌/◌, ◌%◌, ◌^◌, ◌<◌, ◌≤◌}
use mathlib.Core.Path.{◌≡◌, refl}
use mathlib.Core.List.{List, ◌++◌}
use native.Mathlib.Omega.{arith}
use lib.ListN.{length, get_or, take, drop}
use lib.Seq.{get_or-append-add, get_or-append_seam}
use Rattle.std.proofs.lemmas.Nat.{le_bytes_4, from_le_bytes-to_le_bytes_4}
use Rattle.std.proofs.lemmas.Grind.{common_steps}
use Rattle.std.proofs.lemmas.List.{length-take, length-drop}
use Rattle.std.specs.Int.{w32, from_le_bytes}
use Rattle.little_endian.specs.Word.{little_endian, word_at, bytes_of_word, AllBytes, WordIsReadBack, BytesOfWordRead}

-- the word of a word's bytes
pub word_of_bytes : (w : ℕ) → w < 2 ^ 32 → little_endian (w % 256) (w / 256 % 256) (w / 65536 % 256) (w / 16777216 % 256) ≡ w
unfolding little_endian
word_of_bytes w fits = omega (arith, from_le_bytes-to_le_bytes_4 w fits)

-- the same, wherever the bytes stand
pub word_back : (xs ys : List ℕ) (w at : ℕ) → w < 2 ^ 32 → at ≡ length xs → word_at (xs ++ (bytes_of_word w ++ ys)) at ≡ w
word_back xs ys w at fits e =
    let zs = bytes_of_word w ++ ys in
    let b0 : get_or (xs ++ zs) (length xs) 0 ≡ w % 256 = get_or-append_seam xs _ _ 0 in
    let b1 : get_or (xs ++ zs) (length xs + 1) 0 ≡ w / 256 % 256 = get_or-append-add xs zs 1 0 in
    let b2 : get_or (xs ++ zs) (length xs + 2) 0 ≡ w / 65536 % 256 = get_or-append-add xs zs 2 0 in
    let b3 : get_or (xs ++ zs) (length xs + 3) 0 ≡ w / 16777216 % 256 = get_or-append-add xs zs 3 0 in
    rw (e, b0, b1, b2, b3) (word_of_bytes w fits)

pub word_is_read_back : WordIsReadBack
word_is_read_back before after w fits = word_back before after w (length before) fits refl

-- each number of a part is a byte
part_bytes : (bytes : List ℕ) (at n k : ℕ) → AllBytes bytes → get_or (take n (drop at bytes)) k 0 < 256
part_bytes bytes at n k small = grind (arith, common_steps, small (at + k))

-- the word of four bytes at a place is that of the library
same_word : (bytes : List ℕ) (at : ℕ) → at + 4 ≤ length bytes → word_at bytes at ≡ from_le_bytes w32 (take 4 (drop at bytes))
unfolding little_endian
same_word bytes at room = grind (arith, common_steps)

pub bytes_of_word_read : BytesOfWordRead
bytes_of_word_read bytes at small room =
    let part = take 4 (drop at bytes) in
    let four : length part ≡ 4 = omega (arith, length-take 4 (drop at bytes), length-drop at bytes) in
    le_bytes_4 part (word_at bytes at) four (λ k. part_bytes bytes at 4 k small) (same_word bytes at room)
