-- Document 01, "Memory": how cells, entries and pairs lie in words, one behind the other, each in as many words as its form is wide. Assumes nothing.
use Rattle.std.specs.Prelude.{ℕ, zero, suc, List, [], ◌∷◌, ◌++◌, get_or, drop}
use Rattle.words.specs.Words.{pad_to}
use Rattle.rules.specs.Store.{Cell, Entry, Pair}

-- how one thing lies in words
pub record Form (A : Type 0) : Type 0 where
  pub width : ℕ
  pub write : A → List ℕ
  pub read : List ℕ → A

-- "cell i is key, value"
abbrev pub cell_form : Form Cell
cell_form = record { width = 2; write = λ c. c.key ∷ c.value ∷ []; read = λ ws. record { key = get_or ws 0 0; value = get_or ws 1 0 } }

-- "key, value, side for each entry"
abbrev pub entry_form : Form Entry
entry_form = record { width = 3; write = λ e. e.key ∷ e.value ∷ e.side ∷ []; read = λ ws. record { key = get_or ws 0 0; value = get_or ws 1 0; side = get_or ws 2 0 } }

-- "key, side for each pair"
abbrev pub pair_form : Form Pair
pair_form = record { width = 2; write = λ p. p.key ∷ p.side ∷ []; read = λ ws. record { key = get_or ws 0 0; side = get_or ws 1 0 } }

module _ {A : Type 0} (f : Form A) where
  -- the first n things that the words hold
  unfoldable pub read_many : ℕ → List ℕ → List A
  read_many zero ws = []
  read_many (suc n) ws = f.read ws ∷ read_many n (drop f.width ws)

  -- the words of a list, one thing behind the other
  unfoldable pub write_many : List A → List ℕ
  write_many [] = []
  write_many (a ∷ l) = f.write a ++ write_many l

  -- and with zeros behind them, `room` words in all: "all queue and detector places past their lengths are zero"
  unfoldable pub packed : ℕ → List A → List ℕ
  packed room l = pad_to room (write_many l)
