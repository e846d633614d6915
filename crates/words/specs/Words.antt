-- What the functions on lent words leave: words cleared, and a gap closed. Assumes nothing.
use Rattle.std.specs.Prelude.{ℕ, ◌+◌, ◌-◌, List, ◌++◌, length, take, drop, replicate}

-- the words with zeros from one place up to another
unfoldable pub cleared : ℕ → ℕ → List ℕ → List ℕ
cleared from to ws = take from ws ++ (replicate (to - from) 0 ++ drop to ws)

-- the words between two places, the second not among them
unfoldable pub between : ℕ → ℕ → List ℕ → List ℕ
between from to ws = take (to - from) (drop from ws)

-- the w words at a place gone: those behind them, up to the end given, moved up, and w zeros before that end
unfoldable pub closed : ℕ → ℕ → ℕ → List ℕ → List ℕ
closed at w end ws = take at ws ++ (between (at + w) end ws ++ (replicate w 0 ++ drop end ws))

-- n words in all: those of xs, then zeros
unfoldable pub pad_to : ℕ → List ℕ → List ℕ
pad_to n xs = xs ++ replicate (n - length xs) 0
