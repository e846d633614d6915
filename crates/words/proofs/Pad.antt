-- Laws of padded words: words in use, then zeros. Assumes nothing.
use Prim.Native.Nat.{ℕ, zero, suc, ◌+◌, ◌-◌, ◌≤◌}
use mathlib.Core.Path.{◌≡◌, sym, ap, ◌∙◌}
use mathlib.Core.List.{List, [], ◌++◌, append_assoc, append-nil}
use native.Mathlib.Omega.{arith}
use native.Mathlib.Nat.{sub-zero, zero-sub, suc-sub-suc}
use lib.ListN.{length, take, drop, replicate, length-append, length-replicate, drop_of_length-le, replicate-append-replicate}
use lib.Seq.{length-take-le, take-append_seam, drop-append_seam, drop-append-add, drop_at, sets, sets-eq}
use Rattle.words.specs.Words.{cleared, between, closed, pad_to}

pub drop-replicate : (k n a : ℕ) → drop k (replicate n a) ≡ replicate (n - k) a
drop-replicate zero n a = ap (λ (m : ℕ). replicate m a) (sym (sub-zero n))
drop-replicate (suc k) zero a = ap (λ (m : ℕ). replicate m a) (sym (zero-sub (suc k)))
drop-replicate (suc k) (suc n) a = drop-replicate k n a ∙ ap (λ (m : ℕ). replicate m a) (sym (suc-sub-suc n k))

pub length_pad : (n : ℕ) (xs : List ℕ) → length xs ≤ n → length (pad_to n xs) ≡ n
unfolding pad_to
length_pad n xs h = simp (length-append, length-replicate) (omega arith)

-- words stored behind the words in use
pub pad_push : (n : ℕ) (xs vs : List ℕ) → length xs + length vs ≤ n → sets (pad_to n xs) (length xs) vs ≡ pad_to n (xs ++ vs)
unfolding pad_to
pad_push n xs vs h =
    let z : List ℕ = replicate (n - length xs) 0 in
    let b : length xs + length vs ≤ length (xs ++ z) = simp (length-append, length-replicate) (omega arith) in
    let e : n - length xs - length vs ≡ n - length (xs ++ vs) = rw (length-append xs vs) (omega arith) in
    sets-eq vs (xs ++ z) (length xs) b ∙ rw (take-append_seam, drop-append-add, drop-replicate, e)

-- words stored over words in use
pub pad_over : (n : ℕ) (xs vs us ys : List ℕ) → length us ≡ length vs → length (xs ++ (vs ++ ys)) ≤ n → sets (pad_to n (xs ++ (vs ++ ys))) (length xs) us ≡ pad_to n (xs ++ (us ++ ys))
unfolding pad_to
pad_over n xs vs us ys e h =
    let z : List ℕ = replicate (n - length (xs ++ (vs ++ ys))) 0 in
    let all : xs ++ (vs ++ ys) ++ z ≡ xs ++ (vs ++ (ys ++ z)) = simp append_assoc in
    let b : length xs + length us ≤ length (xs ++ (vs ++ (ys ++ z))) = simp length-append (omega arith) in
    let m : n - length (xs ++ (us ++ ys)) ≡ n - length (xs ++ (vs ++ ys)) = simp length-append (omega arith) in
    rw (all, m) (sets-eq us (xs ++ (vs ++ (ys ++ z))) (length xs) b ∙ rw (take-append_seam, drop-append-add, drop_at vs (ys ++ z) (length us) (sym e)) (simp append_assoc))

-- words in use taken out
pub pad_close : (n : ℕ) (xs vs ys : List ℕ) → length (xs ++ (vs ++ ys)) ≤ n → closed (length xs) (length vs) (length (xs ++ (vs ++ ys))) (pad_to n (xs ++ (vs ++ ys))) ≡ pad_to n (xs ++ ys)
unfolding pad_to closed between
pad_close n xs vs ys h =
    let m : ℕ = n - length (xs ++ (vs ++ ys)) in
    let z : List ℕ = replicate m 0 in
    let all : xs ++ (vs ++ ys) ++ z ≡ xs ++ (vs ++ (ys ++ z)) = simp append_assoc in
    let l : length (xs ++ (vs ++ ys)) ≡ length xs + length vs + length ys = simp length-append (omega arith) in
    let t : take (length xs) (xs ++ (vs ++ ys) ++ z) ≡ xs = rw all (take-append_seam xs (vs ++ (ys ++ z))) in
    let d : drop (length xs + length vs) (xs ++ (vs ++ ys) ++ z) ≡ ys ++ z = rw (all, drop-append-add, drop-append_seam) in
    let k : length (xs ++ (vs ++ ys)) - (length xs + length vs) ≡ length ys = omega arith in
    let r : n - length (xs ++ ys) ≡ length vs + m = simp length-append (omega arith) in
    rw (drop-append_seam (xs ++ (vs ++ ys)) z, t, d, k, take-append_seam ys z, r, ← replicate-append-replicate, append_assoc)

-- all behind the words in use cleared
pub pad_clear : (n k : ℕ) (ws : List ℕ) → length ws ≡ n → k ≤ n → cleared k n ws ≡ pad_to n (take k ws)
unfolding pad_to cleared
pad_clear n k ws e h =
    let t : length (take k ws) ≡ k = length-take-le k ws (omega arith) in
    rw (drop_of_length-le ws {i = n} (omega arith), t, append-nil)

-- the words in use cleared
pub pad_empty : (n k : ℕ) (xs : List ℕ) → length xs ≡ k → k ≤ n → cleared 0 k (pad_to n xs) ≡ pad_to n []
unfolding pad_to cleared
pad_empty n k xs e h =
    let m : k - 0 + (n - length xs) ≡ n - 0 = omega arith in
    rw (drop_at xs (replicate (n - length xs) 0) k e, replicate-append-replicate, m)
