-- Words that hold n things and zeros behind them: what storing, closing up and clearing leave. Assumes nothing.
use Prim.Native.Nat.{ℕ, zero, suc, ◌+◌, ◌-◌, ◌*◌, ◌≤◌, ◌<◌}
use mathlib.Core.Path.{◌≡◌, refl, sym, ap, subst, ◌∙◌}
use mathlib.Core.List.{List, [], ◌∷◌, ◌++◌}
use native.Mathlib.Omega.{arith}
use native.Mathlib.Nat.{mul-zero, mul-suc}
use lib.ListN.{length, drop, length-drop}
use lib.Seq.{sets}
use Rattle.words.specs.Words.{cleared, closed}
use Rattle.layout.specs.Forms.{Form, read_many, packed}
use Rattle.layout.proofs.Forms.{Lawful, length-read_many}
use Rattle.layout.proofs.Packed.{packed_push, packed_front, packed_close, packed_empty}

module _ {A : Type 0} (f : Form A) (ok : Lawful f) (n : ℕ) (ws : List ℕ) (held : ws ≡ packed f (length ws) (read_many f n ws)) (fits : f.width * n ≤ length ws) where
  abbrev room : ℕ
  room = length ws

  abbrev things : List A
  things = read_many f n ws

  count : length things ≡ n
  count = length-read_many f n ws

  words_used : f.width * length things ≤ room
  words_used = let e : f.width * length things ≡ f.width * n = ap (λ k. f.width * k) count in omega arith

  -- the first thing, and the rest
  split : 0 < n → things ≡ f.read ws ∷ drop 1 things
  unfolding read_many
  split some = go n some
    where
      go : (k : ℕ) → 0 < k → read_many f k ws ≡ f.read ws ∷ drop 1 (read_many f k ws)
      go zero h = absurd (omega arith)
      go (suc k) h = refl

  pub rest_count : 0 < n → length (drop 1 things) ≡ n - 1
  rest_count some = length-drop 1 things ∙ ap (λ k. k - 1) count

  pub front_gone : 0 < n → closed 0 f.width (f.width * n) ws ≡ packed f room (drop 1 things)
  front_gone some =
      let e : f.width * n ≡ f.width * length things = ap (λ k. f.width * k) (sym count) in
      ap (λ us. closed 0 f.width (f.width * n) us) held
      ∙ ap (λ k. closed 0 f.width k (packed f room things)) e
      ∙ ap (λ l. closed 0 f.width (f.width * length l) (packed f room l)) (split some)
      ∙ ap (λ k. closed k f.width (f.width * length (f.read ws ∷ drop 1 things)) (packed f room (f.read ws ∷ drop 1 things))) (sym (mul-zero f.width))
      ∙ packed_close f ok room [] (drop 1 things) (f.read ws) (subst (λ (l : List A). f.width * length l ≤ room) (split some) words_used)

  pub front_over : 0 < n → (b : A) → sets ws 0 (f.write b) ≡ packed f room (b ∷ drop 1 things)
  front_over some b =
      ap (λ us. sets us 0 (f.write b)) (held ∙ ap (packed f room) (split some))
      ∙ packed_front f ok room (f.read ws) b (drop 1 things) (subst (λ (l : List A). f.width * length l ≤ room) (split some) words_used)

  pub one_behind : f.width * (n + 1) ≤ room → (a : A) → sets ws (f.width * n) (f.write a) ≡ packed f room (things ++ a ∷ [])
  one_behind more a =
      let e : f.width * (length things + 1) ≡ f.width * (n + 1) = ap (λ k. f.width * (k + 1)) count in
      ap (λ us. sets us (f.width * n) (f.write a)) held
      ∙ ap (λ k. sets (packed f room things) (f.width * k) (f.write a)) (sym count)
      ∙ packed_push f ok room things a (omega arith)

  pub all_gone : cleared 0 (f.width * n) ws ≡ packed f room []
  all_gone =
      ap (λ us. cleared 0 (f.width * n) us) held
      ∙ ap (λ k. cleared 0 (f.width * k) (packed f room things)) (sym count)
      ∙ packed_empty f ok room things words_used

  -- the front gone, and a thing put behind the rest
  pub to_back : 0 < n → (us : List ℕ) (a : A) → us ≡ packed f room (drop 1 things) → sets us (f.width * n - f.width) (f.write a) ≡ packed f room (drop 1 things ++ a ∷ [])
  to_back some us a e =
      let c : length (drop 1 things) + 1 ≡ n = omega (arith, rest_count some) in
      let m = mul-suc f.width (length (drop 1 things)) in
      let k : f.width * n - f.width ≡ f.width * length (drop 1 things) = omega (arith, ap (λ j. f.width * j) (sym c ∙ native.Mathlib.Numerals.add-one (length (drop 1 things)))) in
      ap (λ vs. sets vs (f.width * n - f.width) (f.write a)) e
      ∙ ap (λ j. sets (packed f room (drop 1 things)) j (f.write a)) k
      ∙ packed_push f ok room (drop 1 things) a (omega (arith, ap (λ j. f.width * j) c))
