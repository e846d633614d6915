-- Laws of words: runs of stores, clearing, moving up, closing a gap. Assumes nothing.
use Prim.Native.Nat.{ℕ, suc, ◌+◌, ◌-◌, ◌≤◌, ◌<◌}
use mathlib.Core.Path.{◌≡◌, sym, ap, ◌∙◌}
use mathlib.Core.List.{List, ◌++◌, append_assoc}
use native.Mathlib.Omega.{arith}
use native.Mathlib.Numerals.{add-one}
use lib.ListN.{length, get_or, set, take, drop, replicate, length-append, length-drop, length-replicate, take-append-drop, replicate-append-replicate}
use lib.Seq.{length-take-le, drop-cons, set_at, drop-drop, sets, sets-eq, paste, take-paste, drop-paste}
use borrow.Rule.Slice.PartMut.{put_mid}
use Rattle.std.specs.List.{copy_within}
use Rattle.words.specs.Words.{cleared, between, closed}

-- words copied over a part of the words are stored one after another
pub put_mid_sets : (ws vs : List ℕ) (at k : ℕ) → length vs ≡ k → at + k ≤ length ws → put_mid at k ws vs ≡ sets ws at vs
put_mid_sets ws vs at k e h = rw (drop-drop k at ws, sets-eq vs ws at (omega arith), e, append_assoc)

-- the same, if what is copied are the words given
pub put_given : {copied : List ℕ} (ws given : List ℕ) (at k : ℕ) → length copied ≡ k → at + k ≤ length ws → copied ≡ given
    → put_mid at k ws copied ≡ sets ws at given
put_given {copied} ws given at k e h same = put_mid_sets ws copied at k e h ∙ ap (sets ws at) same

-- nothing cleared yet
pub clear_none : (from : ℕ) (ws : List ℕ) → ws ≡ cleared from from ws
unfolding cleared
clear_none from ws =
    let z : from - from ≡ 0 = omega arith in
    rw (z, take-append-drop)

-- a turn of the loop that clears
pub clear_more : (from i : ℕ) (ws : List ℕ) → from ≤ i → i < length ws → set (cleared from i ws) i 0 ≡ cleared from (i + 1) ws
unfolding cleared
clear_more from i ws h k =
    let z : List ℕ = replicate (i - from) 0 in
    let p : List ℕ = take from ws ++ z in
    let t : length (take from ws) ≡ from = length-take-le from ws (omega arith) in
    let l : length p ≡ i = simp (length-append, length-replicate, t) (omega arith) in
    let n : i - from + 1 ≡ suc i - from = omega arith in
    rw (← append_assoc (take from ws) z (drop i ws), drop-cons ws i 0, set_at p (get_or ws i 0) (drop (suc i) ws) 0 i l, add-one, ← n, ← replicate-append-replicate, append_assoc z, append_assoc)

-- behind the words pasted, those that were there
past : (ws : List ℕ) (at : ℕ) (s : List ℕ) (n w : ℕ) → at ≤ length ws → n ≤ length s → drop (at + n + w) (paste ws at s n) ≡ drop (at + n + w) ws
past ws at s n w h k = sym (drop-drop w (at + n) (paste ws at s n)) ∙ ap (drop w) (drop-paste ws at s n h k) ∙ drop-drop w (at + n) ws

-- moved up, and cleared up to the end
pub closes : (at w end : ℕ) (ws : List ℕ) → at + w ≤ end → end ≤ length ws
    → cleared (end - w) end (paste ws at (drop (at + w) ws) (end - (at + w))) ≡ closed at w end ws
unfolding cleared closed between
closes at w end ws h k =
    let s : List ℕ = drop (at + w) ws in
    let n : ℕ = end - (at + w) in
    let p : List ℕ = paste ws at s n in
    let l : n ≤ length s = rw (length-drop (at + w) ws) (omega arith) in
    let a : at ≤ length ws = omega arith in
    let z : end - (end - w) ≡ w = omega arith in
    let m : end - w ≡ at + n = omega arith in
    let e : at + n + w ≡ end = omega arith in
    let d : drop end p ≡ drop end ws = rw e at (past ws at s n w a l) in
    rw (z, d, m, take-paste ws at s n a l, append_assoc)

-- words moved are those of the words given, if it was these that the code had
pub moved_given : {new ws : List ℕ} (given : List ℕ) (from to at : ℕ) → new ≡ copy_within ws from to at → ws ≡ given → new ≡ copy_within given from to at
moved_given given from to at is same = is ∙ ap (λ ws. copy_within ws from to at) same
