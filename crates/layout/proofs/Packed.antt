-- Laws of packed words, for queue and detector: one thing more, the front replaced, one gone, all gone, and rubbish cleared. Assumes nothing.
use Prim.Native.Nat.{ℕ, suc, ◌+◌, ◌-◌, ◌*◌, ◌≤◌}
use mathlib.Core.Path.{◌≡◌, refl, sym, ap, ◌∙◌}
use mathlib.Core.List.{List, [], ◌∷◌, ◌++◌}
use native.Mathlib.Omega.{arith}
use native.Mathlib.Nat.{mul-suc, mul-add}
use lib.ListN.{length, replicate, length-append}
use lib.Seq.{sets}
use Rattle.words.specs.Words.{pad_to, cleared, closed}
use Rattle.words.proofs.Pad.{length_pad, pad_push, pad_over, pad_close, pad_clear, pad_empty}
use Rattle.layout.specs.Forms.{Form, read_many, write_many, packed}
use Rattle.layout.proofs.Forms.{Lawful, write_append, write_one, length-write_many, read_written, write_read_many}

module _ {A : Type 0} (f : Form A) (ok : Lawful f) where
  pub length-packed : (room : ℕ) (l : List A) → f.width * length l ≤ room → length (packed f room l) ≡ room
  unfolding packed
  length-packed room l h = length_pad room (write_many f l) (omega (arith, length-write_many f ok l))

  pub read_packed : (room : ℕ) (l : List A) → read_many f (length l) (packed f room l) ≡ l
  unfolding packed pad_to
  read_packed room l = read_written f ok l (replicate (room - length (write_many f l)) 0)

  pub packed_push : (room : ℕ) (l : List A) (a : A) → f.width * (length l + 1) ≤ room → sets (packed f room l) (f.width * length l) (f.write a) ≡ packed f room (l ++ a ∷ [])
  unfolding packed
  packed_push room l a h =
      let e = length-write_many f ok l in
      let m = mul-add f.width (length l) 1 in
      let one = native.Mathlib.Nat.mul-one f.width in
      ap (λ k. sets (pad_to room (write_many f l)) k (f.write a)) (sym e)
      ∙ pad_push room (write_many f l) (f.write a) (omega (arith, ok.length_write a))
      ∙ ap (pad_to room) (ap (λ ws. write_many f l ++ ws) (sym (write_one f a)) ∙ sym (write_append f l (a ∷ [])))

  pub packed_front : (room : ℕ) (a b : A) (l : List A) → f.width * suc (length l) ≤ room → sets (packed f room (a ∷ l)) 0 (f.write b) ≡ packed f room (b ∷ l)
  unfolding packed write_many
  packed_front room a b l h = pad_over room [] (f.write a) (f.write b) (write_many f l) (ok.length_write b ∙ sym (ok.length_write a))
      (omega (arith, length-append (f.write a) (write_many f l), ok.length_write a, length-write_many f ok l, mul-suc f.width (length l)))

  -- one thing gone, what is behind it moved up
  pub packed_close : (room : ℕ) (l m : List A) (a : A) → f.width * length (l ++ a ∷ m) ≤ room
      → closed (f.width * length l) f.width (f.width * length (l ++ a ∷ m)) (packed f room (l ++ a ∷ m)) ≡ packed f room (l ++ m)
  unfolding packed
  packed_close room l m a h =
      let whole : write_many f (l ++ a ∷ m) ≡ write_many f l ++ (f.write a ++ write_many f m) = write_append f l (a ∷ m) ∙ (unfold write_many in refl) in
      let ll = length-write_many f ok l in
      let la = ok.length_write a in
      let lw : length (write_many f l ++ (f.write a ++ write_many f m)) ≡ f.width * length (l ++ a ∷ m) = ap length (sym whole) ∙ length-write_many f ok (l ++ a ∷ m) in
      ap (λ ws. closed (f.width * length l) f.width (f.width * length (l ++ a ∷ m)) (pad_to room ws)) whole
      ∙ ap (λ k. closed k f.width (f.width * length (l ++ a ∷ m)) (pad_to room (write_many f l ++ (f.write a ++ write_many f m)))) (sym ll)
      ∙ ap (λ k. closed (length (write_many f l)) k (f.width * length (l ++ a ∷ m)) (pad_to room (write_many f l ++ (f.write a ++ write_many f m)))) (sym la)
      ∙ ap (λ k. closed (length (write_many f l)) (length (f.write a)) k (pad_to room (write_many f l ++ (f.write a ++ write_many f m)))) (sym lw)
      ∙ pad_close room (write_many f l) (f.write a) (write_many f m) (omega arith)
      ∙ ap (pad_to room) (sym (write_append f l m))

  -- rubbish behind the things cleared
  pub packed_clear : (room n : ℕ) (ws : List ℕ) → length ws ≡ room → f.width * n ≤ room → cleared (f.width * n) room ws ≡ packed f room (read_many f n ws)
  unfolding packed
  packed_clear room n ws e h = pad_clear room (f.width * n) ws e h ∙ ap (pad_to room) (sym (write_read_many f ok n ws (omega arith)))

  pub packed_empty : (room : ℕ) (l : List A) → f.width * length l ≤ room → cleared 0 (f.width * length l) (packed f room l) ≡ packed f room []
  unfolding packed
  packed_empty room l h = pad_empty room (f.width * length l) (write_many f l) (length-write_many f ok l) h ∙ (unfold write_many in refl)
