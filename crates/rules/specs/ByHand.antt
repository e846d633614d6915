-- Document 01, "Checked by hand": the lines with a star, as one table under one claim. Assumes nothing.
use Rattle.std.specs.Prelude.{ℕ, ◌≡◌, Bool, true, false, ◌&&◌, List, [], ◌∷◌, eqb, length}
use Rattle.numbers.specs.Home.{home}
use Rattle.rules.specs.Store.{Table, table_0, table_1, Entry, Pair, cell_at, Store, Numbers, fresh}
use Rattle.rules.specs.Calls.{Answer, answer, Call, Find, Define, Change, Remove, Settle, does}
use Rattle.rules.specs.Sound.{present}
use Rattle.rules.specs.Groups.{cells_of}

-- "a_0 1, b_0 0, a_1 536870912, b_1 0"
abbrev pub homes_of : ℕ → Table → ℕ → ℕ
homes_of r table_0 x = home 1 0 r x
homes_of r table_1 x = home 536870912 0 r x

-- "Store S: r 4, Q 4, D 8, L 2"
abbrev pub S : Numbers
S = record { r = 4; Q = 4; D = 8; L = 2; home = homes_of 4 }

-- "Store T: r 1, Q 1, D 2, L 1, functions as in S"
abbrev pub T : Numbers
T = record { r = 1; Q = 1; D = 2; L = 1; home = homes_of 1 }

-- what a line says of the store that the calls before it left
pub data Line : Type 0 where
  has_homes : (key in0 in1 : ℕ) → Line
  answers : (call : Call) (number value steps moves : ℕ) → Line
  accepts : (call : Call) → Line
  cell_holds : (t : Table) (i key value : ℕ) → Line
  waits : (entries : List Entry) → Line
  marks : (pairs : List Pair) → Line
  marks_are : (count : ℕ) → Line
  keys_and_cells : (keys cells : ℕ) → Line

abbrev pub entry : ℕ → ℕ → ℕ → Entry
entry key value side = record { key = key; value = value; side = side }

abbrev pub pair : ℕ → ℕ → Pair
pair key side = record { key = key; side = side }

abbrev pub same_answer : Answer → Answer → Bool
same_answer a b = eqb a.number b.number && eqb a.value b.value && eqb a.steps b.steps && eqb a.moves b.moves

abbrev pub same_entries : List Entry → List Entry → Bool
same_entries [] [] = true
same_entries [] (b ∷ m) = false
same_entries (a ∷ l) [] = false
same_entries (a ∷ l) (b ∷ m) = eqb a.key b.key && eqb a.value b.value && eqb a.side b.side && same_entries l m

abbrev pub same_pairs : List Pair → List Pair → Bool
same_pairs [] [] = true
same_pairs [] (b ∷ m) = false
same_pairs (a ∷ l) [] = false
same_pairs (a ∷ l) (b ∷ m) = eqb a.key b.key && eqb a.side b.side && same_pairs l m

unfoldable pub holds_of : Numbers → Store → Line → Bool
holds_of n s (has_homes x i j) = eqb (n.home table_0 x) i && eqb (n.home table_1 x) j
holds_of n s (answers call number value steps moves) = same_answer (does n call s).answer (answer number value steps moves)
holds_of n s (accepts call) = eqb (does n call s).answer.number 0
holds_of n s (cell_holds t i key value) = eqb (cell_at s.tables t i).key key && eqb (cell_at s.tables t i).value value
holds_of n s (waits entries) = same_entries s.waiting entries
holds_of n s (marks pairs) = same_pairs s.marked pairs
holds_of n s (marks_are count) = eqb (length s.marked) count
holds_of n s (keys_and_cells keys cells) = eqb (length (present s)) keys && eqb (length (cells_of n.home (present s))) cells

unfoldable pub left_by : Numbers → Store → Line → Store
left_by n s (has_homes x i j) = s
left_by n s (answers call number value steps moves) = (does n call s).store
left_by n s (accepts call) = (does n call s).store
left_by n s (cell_holds t i key value) = s
left_by n s (waits entries) = s
left_by n s (marks pairs) = s
left_by n s (marks_are count) = s
left_by n s (keys_and_cells keys cells) = s

-- each line holds of what the lines before it left
unfoldable pub hold : Numbers → Store → List Line → Bool
hold n s [] = true
hold n s (line ∷ lines) = holds_of n s line && hold n (left_by n s line) lines

-- Store S, in the order of the page
unfoldable pub lines_of_s : List Line
lines_of_s =
    -- "Key 21 has homes 1 and 1; key 2,147,483,647 has home 0 in both."
    has_homes 21 1 1
    ∷ has_homes 2147483647 0 0
    -- "Define 1 (10), 5 (20), 9 (30), 21 (40) in a fresh S: steps 1, 2, 2, 2, moves 0, 1, 1, 1."
    ∷ answers (Define 1 10) 0 0 1 0
    ∷ answers (Define 5 20) 0 0 2 1
    ∷ answers (Define 9 30) 0 0 2 1
    ∷ answers (Define 21 40) 0 0 2 1
    -- "Table 0 cell 1 holds 21; table 1 cells 0, 1, 2 hold 1, 5, 9."
    ∷ cell_holds table_0 1 21 40
    ∷ cell_holds table_1 0 1 10
    ∷ cell_holds table_1 1 5 20
    ∷ cell_holds table_1 2 9 30
    -- "Then define 13 (50): 2 steps, 2 moves, and 5 waits with side 0. Find 5 answers 20; define 5 is refused 5 with 20."
    ∷ answers (Define 13 50) 0 0 2 2
    ∷ waits (entry 5 20 0 ∷ [])
    ∷ answers (Find 5) 0 20 0 0
    ∷ answers (Define 5 21) 5 20 0 0
    -- "Settle 2: 2 steps, 1 move, queue empty, 13 in table 1 cell 3."
    ∷ answers (Settle 2) 0 0 2 1
    ∷ waits []
    ∷ cell_holds table_1 3 13 50
    -- "Then define 17 (60): six keys, five cells. After three times settle 2 the detector holds 8 pairs and 17 is in front with side 0."
    ∷ accepts (Define 17 60)
    ∷ keys_and_cells 6 5
    ∷ accepts (Settle 2)
    ∷ accepts (Settle 2)
    ∷ accepts (Settle 2)
    ∷ marks_are 8
    ∷ waits (entry 17 60 0 ∷ [])
    -- "Settle 1: 1 step, 0 moves, 17 still waits, detector empty."
    ∷ answers (Settle 1) 0 0 1 0
    ∷ waits (entry 17 60 0 ∷ [])
    ∷ marks_are 0
    -- "Then remove 21 answers 40, and settle 2 empties the queue."
    ∷ answers (Remove 21) 0 40 0 0
    ∷ accepts (Settle 2)
    ∷ waits []
    -- "Settle 0 is accepted with 0 steps; settle 3 is refused 8."
    ∷ answers (Settle 0) 0 0 0 0
    ∷ answers (Settle 3) 8 0 0 0
    -- "Key 0 and key 2,147,483,648 are refused 4."
    ∷ answers (Find 0) 4 0 0 0
    ∷ answers (Define 0 1) 4 0 0 0
    ∷ answers (Change 0 1) 4 0 0 0
    ∷ answers (Remove 0) 4 0 0 0
    ∷ answers (Find 2147483648) 4 0 0 0
    ∷ answers (Define 2147483648 1) 4 0 0 0
    ∷ answers (Change 2147483648 1) 4 0 0 0
    ∷ answers (Remove 2147483648) 4 0 0 0
    ∷ []

-- Store T; the values are ours, the page names none
unfoldable pub lines_of_t : List Line
lines_of_t =
    -- "Define 1, define 2: 1 now waits. Define 3 is refused 6; define 1 is refused 5."
    accepts (Define 1 10)
    ∷ accepts (Define 2 20)
    ∷ waits (entry 1 10 1 ∷ [])
    ∷ answers (Define 3 30) 6 0 0 0
    ∷ answers (Define 1 11) 5 10 0 0
    -- "Settle 1, define 3, settle 1: 1 waits with side 0 and two other pairs are marked."
    ∷ accepts (Settle 1)
    ∷ accepts (Define 3 30)
    ∷ accepts (Settle 1)
    ∷ waits (entry 1 10 0 ∷ [])
    ∷ marks (pair 3 0 ∷ pair 2 1 ∷ [])
    -- "Settle 1 sets it aside because the detector is full."
    ∷ answers (Settle 1) 0 0 1 0
    ∷ waits (entry 1 10 0 ∷ [])
    ∷ marks []
    ∷ []

-- Not starred, but on the page: "Taking a free cell's step to need detector room. Rule 1 comes before rule 2", and "The detector is kept". In T a
-- removal frees the cell that 1 heads for while the detector is full; the cell takes it.
unfoldable pub lines_of_rule1 : List Line
lines_of_rule1 =
    accepts (Define 1 10)
    ∷ accepts (Define 2 20)
    ∷ accepts (Settle 1)
    ∷ accepts (Define 3 30)
    ∷ accepts (Settle 1)
    ∷ answers (Remove 3) 0 30 0 0
    ∷ cell_holds table_0 0 0 0
    ∷ marks (pair 3 0 ∷ pair 2 1 ∷ [])
    ∷ answers (Settle 1) 0 0 1 0
    ∷ waits []
    ∷ marks []
    ∷ cell_holds table_0 0 1 10
    ∷ []

-- Not starred: change in a cell and in the queue ("the old one is answered"), refusal 7, and a removal from the queue's middle ("Queue entries
-- behind it move up one. The detector is kept."), in S.
unfoldable pub lines_of_change : List Line
lines_of_change =
    accepts (Define 1 10)
    ∷ accepts (Define 5 20)
    ∷ answers (Change 1 11) 0 10 0 0
    ∷ cell_holds table_1 0 1 11
    ∷ answers (Find 2) 7 0 0 0
    ∷ answers (Change 2 1) 7 0 0 0
    ∷ answers (Remove 2) 7 0 0 0
    ∷ accepts (Define 9 30)
    ∷ accepts (Define 21 40)
    ∷ accepts (Define 13 50)
    ∷ answers (Change 5 22) 0 20 0 0
    ∷ waits (entry 5 22 0 ∷ [])
    ∷ accepts (Define 17 60)
    ∷ accepts (Define 2 70)
    ∷ accepts (Define 6 80)
    ∷ waits (entry 1 11 0 ∷ entry 2 70 0 ∷ entry 6 80 0 ∷ [])
    ∷ answers (Remove 2) 0 70 0 0
    ∷ waits (entry 1 11 0 ∷ entry 6 80 0 ∷ [])
    ∷ marks (pair 17 0 ∷ pair 5 1 ∷ pair 21 0 ∷ pair 17 1 ∷ [])
    ∷ []

-- "The starred lines are proved together, as one table under a single claim about the rules."
abbrev pub StarredLines : Type 0
StarredLines = (hold S (fresh S) lines_of_s && hold T (fresh T) lines_of_t) ≡ true

-- and so are ours
abbrev pub FurtherLines : Type 0
FurtherLines = (hold T (fresh T) lines_of_rule1 && hold S (fresh S) lines_of_change) ≡ true
