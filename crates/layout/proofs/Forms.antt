-- Laws of forms: what is written is read again, and the other way round; one thing read, replaced. One law for every form. Assumes nothing.
use Prim.Native.Nat.{ℕ, zero, suc, ◌+◌, ◌-◌, ◌*◌, ◌≤◌, ◌<◌}
use mathlib.Core.Path.{◌≡◌, refl, sym, ap, ◌∙◌}
use mathlib.Core.List.{List, [], ◌∷◌, ◌++◌, append_assoc, append-nil}
use native.Mathlib.Omega.{arith}
use native.Mathlib.Nat.{mul-zero, mul-suc, zero-add, suc-add, mul-le-mul_left}
use native.Mathlib.Numerals.{add-one, add-one-le}
use lib.ListN.{length, get_or, set, take, drop, length-append, length-drop, length-set, take-append-drop}
use lib.Seq.{sets, sets-eq, take-add, take_all, drop-drop, drop_at, set-append_left}
use Rattle.layout.specs.Forms.{Form, cell_form, entry_form, pair_form, read_many, write_many}

-- words stored behind others, and before others
sets_cons : (x : ℕ) (l : List ℕ) (k : ℕ) (vs : List ℕ) → sets (x ∷ l) (suc k) vs ≡ x ∷ sets l k vs
sets_cons x l k [] = refl
sets_cons x l k (v ∷ vs) = sets_cons x (set l k v) (suc k) vs

pub sets_behind : (xs ys : List ℕ) (k : ℕ) (vs : List ℕ) → sets (xs ++ ys) (length xs + k) vs ≡ xs ++ sets ys k vs
sets_behind [] ys k vs = ap (λ j. sets ys j vs) (zero-add k)
sets_behind (x ∷ xs) ys k vs = ap (λ j. sets (x ∷ (xs ++ ys)) j vs) (suc-add (length xs) k) ∙ sets_cons x (xs ++ ys) (length xs + k) vs ∙ ap (λ l. x ∷ l) (sets_behind xs ys k vs)

pub sets-within : (xs ys : List ℕ) (k : ℕ) (vs : List ℕ) → k + length vs ≤ length xs → sets (xs ++ ys) k vs ≡ sets xs k vs ++ ys
sets-within xs ys k [] h = refl
sets-within xs ys k (v ∷ vs) h =
    ap (λ l. sets l (suc k) vs) (set-append_left xs ys k v (omega arith)) ∙ sets-within (set xs k v) ys (suc k) vs (omega (arith, length-set xs k v))

pub record Lawful {A : Type 0} (f : Form A) : Type 0 where
  pub length_write : (a : A) → length (f.write a) ≡ f.width
  pub read_write : (a : A) (zs : List ℕ) → f.read (f.write a ++ zs) ≡ a
  pub write_read : (ws : List ℕ) → f.width ≤ length ws → f.write (f.read ws) ≡ take f.width ws

-- the first words of a list that is long enough
two : (ws : List ℕ) → 2 ≤ length ws → get_or ws 0 0 ∷ get_or ws 1 0 ∷ [] ≡ take 2 ws
two [] h = absurd (omega arith)
two (a ∷ []) h = absurd (omega arith)
two (a ∷ b ∷ ws) h = refl

three : (ws : List ℕ) → 3 ≤ length ws → get_or ws 0 0 ∷ get_or ws 1 0 ∷ get_or ws 2 0 ∷ [] ≡ take 3 ws
three [] h = absurd (omega arith)
three (a ∷ []) h = absurd (omega arith)
three (a ∷ b ∷ []) h = absurd (omega arith)
three (a ∷ b ∷ c ∷ ws) h = refl

pub cell_lawful : Lawful cell_form
cell_lawful = record { length_write = λ a. refl; read_write = λ a zs. refl; write_read = two }

pub entry_lawful : Lawful entry_form
entry_lawful = record { length_write = λ a. refl; read_write = λ a zs. refl; write_read = three }

pub pair_lawful : Lawful pair_form
pair_lawful = record { length_write = λ a. refl; read_write = λ a zs. refl; write_read = two }

module _ {A : Type 0} (f : Form A) where
  pub write_append : (l m : List A) → write_many f (l ++ m) ≡ write_many f l ++ write_many f m
  unfolding write_many
  write_append [] m = refl
  write_append (a ∷ l) m = ap (λ ws. f.write a ++ ws) (write_append l m) ∙ sym (append_assoc (f.write a) (write_many f l) (write_many f m))

  pub write_one : (a : A) → write_many f (a ∷ []) ≡ f.write a
  unfolding write_many
  write_one a = append-nil (f.write a)

  pub length-read_many : (n : ℕ) (ws : List ℕ) → length (read_many f n ws) ≡ n
  unfolding read_many
  length-read_many zero ws = refl
  length-read_many (suc n) ws = ap suc (length-read_many n (drop f.width ws))

  -- the things from place i on, and the one there: how a loop reads
  pub read_from : (n i : ℕ) (ws : List ℕ) → i < n → read_many f (n - i) (drop (f.width * i) ws) ≡ f.read (drop (f.width * i) ws) ∷ read_many f (n - (i + 1)) (drop (f.width * (i + 1)) ws)
  unfolding read_many
  read_from n i ws h =
      let e : n - i ≡ suc (n - (i + 1)) = omega arith in
      let d : i + 1 ≡ suc i = omega arith in
      ap (λ k. read_many f k (drop (f.width * i) ws)) e
      ∙ ap (λ vs. f.read (drop (f.width * i) ws) ∷ read_many f (n - (i + 1)) vs) (drop-drop f.width (f.width * i) ws ∙ ap (λ k. drop k ws) (sym (mul-suc f.width i) ∙ ap (λ k. f.width * k) (sym d)))

  pub read_none : (n i : ℕ) (ws : List ℕ) → n ≤ i → read_many f (n - i) ws ≡ []
  unfolding read_many
  read_none n i ws h = let e : n - i ≡ 0 = omega arith in ap (λ k. read_many f k ws) e

  pub read_at : (n i : ℕ) (ws : List ℕ) (d : A) → i < n → get_or (read_many f n ws) i d ≡ f.read (drop (f.width * i) ws)
  unfolding read_many
  read_at zero i ws d h = absurd (omega arith)
  read_at (suc n) zero ws d h = ap (λ k. f.read (drop k ws)) (sym (mul-zero f.width))
  read_at (suc n) (suc i) ws d h =
      read_at n i (drop f.width ws) d (omega arith)
      ∙ ap f.read (drop-drop (f.width * i) f.width ws ∙ ap (λ k. drop k ws) (let m = mul-suc f.width i in let e : f.width + f.width * i ≡ f.width * suc i = omega arith in e))

  module _ (ok : Lawful f) where
    pub length-write_many : (l : List A) → length (write_many f l) ≡ f.width * length l
    unfolding write_many
    length-write_many [] = sym (mul-zero f.width)
    length-write_many (a ∷ l) = omega (arith, length-append (f.write a) (write_many f l), ok.length_write a, length-write_many l, mul-suc f.width (length l))

    pub read_written : (l : List A) (zs : List ℕ) → read_many f (length l) (write_many f l ++ zs) ≡ l
    unfolding read_many write_many
    read_written [] zs = refl
    read_written (a ∷ l) zs =
        let e : (f.write a ++ write_many f l) ++ zs ≡ f.write a ++ (write_many f l ++ zs) = append_assoc (f.write a) (write_many f l) zs in
        ap (λ ws. f.read ws ∷ read_many f (length l) (drop f.width ws)) e
        ∙ ap (λ b. b ∷ read_many f (length l) (drop f.width (f.write a ++ (write_many f l ++ zs)))) (ok.read_write a (write_many f l ++ zs))
        ∙ ap (λ ws. a ∷ read_many f (length l) ws) (drop_at (f.write a) (write_many f l ++ zs) f.width (ok.length_write a))
        ∙ ap (λ m. a ∷ m) (read_written l zs)

    pub write_read_many : (n : ℕ) (ws : List ℕ) → f.width * n ≤ length ws → write_many f (read_many f n ws) ≡ take (f.width * n) ws
    unfolding read_many write_many
    write_read_many zero ws h = ap (λ k. take k ws) (sym (mul-zero f.width))
    write_read_many (suc n) ws h =
        let m = mul-suc f.width n in
        let e : f.width + f.width * n ≡ f.width * suc n = omega arith in
        ap (λ us. us ++ write_many f (read_many f n (drop f.width ws))) (ok.write_read ws (omega arith))
        ∙ ap (λ us. take f.width ws ++ us) (write_read_many n (drop f.width ws) (omega (arith, length-drop f.width ws)))
        ∙ sym (take-add f.width (f.width * n) ws) ∙ ap (λ k. take k ws) e

    -- all the words of a table
    pub write_all : (n : ℕ) (ws : List ℕ) → length ws ≡ f.width * n → write_many f (read_many f n ws) ≡ ws
    write_all n ws e = write_read_many n ws (omega arith) ∙ take_all (f.width * n) ws (omega arith)

    pub read_all : (l : List A) → read_many f (length l) (write_many f l) ≡ l
    read_all l = ap (read_many f (length l)) (sym (append-nil (write_many f l))) ∙ read_written l []

    -- one thing replaced
    pub write_set : (l : List A) (i : ℕ) (a : A) → i < length l → write_many f (set l i a) ≡ sets (write_many f l) (f.width * i) (f.write a)
    unfolding write_many
    write_set [] i a h = absurd (omega arith)
    write_set (b ∷ l) zero a h =
        let lb = ok.length_write b in
        let la = ok.length_write a in
        sym (ap (λ k. sets (f.write b ++ write_many f l) k (f.write a)) (mul-zero f.width)
        ∙ sets-eq (f.write a) (f.write b ++ write_many f l) 0 (omega (arith, length-append (f.write b) (write_many f l)))
        ∙ ap (λ ws. f.write a ++ ws) (drop_at (f.write b) (write_many f l) (0 + length (f.write a)) (omega arith)))
    write_set (b ∷ l) (suc i) a h =
        let m = mul-suc f.width i in
        let e : f.width * suc i ≡ length (f.write b) + f.width * i = omega (arith, ok.length_write b) in
        ap (λ ws. f.write b ++ ws) (write_set l i a (omega arith))
        ∙ sym (ap (λ k. sets (f.write b ++ write_many f l) k (f.write a)) e ∙ sets_behind (f.write b) (write_many f l) (f.width * i) (f.write a))

    pub read_set : (n i : ℕ) (ws : List ℕ) (a : A) → i < n → f.width * n ≤ length ws → read_many f n (sets ws (f.width * i) (f.write a)) ≡ set (read_many f n ws) i a
    read_set n i ws a h l =
        let many : List A = read_many f n ws in
        let rest : List ℕ = drop (f.width * n) ws in
        let ln : length many ≡ n = length-read_many n ws in
        let lw : length (write_many f many) ≡ f.width * n = length-write_many many ∙ ap (λ k. f.width * k) ln in
        let all : ws ≡ write_many f many ++ rest = sym (take-append-drop (f.width * n) ws) ∙ ap (λ us. us ++ rest) (sym (write_read_many n ws l)) in
        let fits : f.width * i + length (f.write a) ≤ length (write_many f many) =
        omega (arith, ok.length_write a, mul-suc f.width i, mul-le-mul_left f.width (add-one-le h), ap (λ k. f.width * k) (sym (add-one i))) in
        ap (λ us. read_many f n (sets us (f.width * i) (f.write a))) all
        ∙ ap (read_many f n) (sets-within (write_many f many) rest (f.width * i) (f.write a) fits ∙ ap (λ us. us ++ rest) (sym (write_set many i a (omega arith))))
        ∙ ap (λ k. read_many f k (write_many f (set many i a) ++ rest)) (sym (length-set many i a ∙ ln))
        ∙ read_written (set many i a) rest
