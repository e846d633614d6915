-- Laws of the test of a table: a key held, one cell, and the cells from place i on. Assumes nothing.
use Prim.Native.Nat.{ℕ, zero, suc, ◌+◌, ◌-◌, ◌*◌, ◌≤◌, ◌<◌}
use mathlib.Core.Path.{◌≡◌, refl, sym, ap, ◌∙◌}
use mathlib.Core.Logic.{◌≢◌}
use mathlib.Core.Bool.{Bool, true, not, ◌&&◌}
use mathlib.Core.List.{List}
use native.Mathlib.Omega.{arith}
use native.Mathlib.Nat.{add-zero}
use native.Mathlib.Numerals.{add-one}
use borrow.Author.Tests.{eq-eqb, ne_eqb}
use lib.Dec.{eqb}
use lib.ListN.{get_or, drop}
use lib.Seq.{get_or-drop}
use Rattle.std.specs.List.{list_all, range_with_len}
use Rattle.numbers.specs.declared.Functions.{Functions}
use Rattle.numbers.specs.declared.Table.{Table as CodeTable}
use Rattle.numbers.specs.declared.Table.TheVariants.{Zero, One}
use Rattle.numbers.specs.Tables.{other as code_other}
use Rattle.numbers.specs.Homes.{home_in}
use Rattle.numbers.specs.Ranges.{good_key}
use Rattle.rules.specs.Store.{Table, other, Cell, Tables, cell_at, Numbers}
use Rattle.rules.specs.Check.{is_held, cell_ok, cells_ok}
use Rattle.layout.specs.Memory.{rules_table, cells_in, homes_of}
use Rattle.layout.specs.Forms.{cell_form, read_many}
use Rattle.layout.proofs.Forms.{read_from, read_none}
use Rattle.layout.proofs.Tables.{homes_named, home_in_table}
use Rattle.steps.specs.Shape.{with_table}
use Rattle.steps.proofs.InTable.{cell_in, cell_read}

-- the cell at place i
abbrev pub cell_of : List ℕ → ℕ → Cell
cell_of t i = record { key = get_or t (2 * i) 0; value = get_or t (2 * i + 1) 0 }

-- the cells from place i on
abbrev pub cells_from : ℕ → List ℕ → ℕ → List Cell
cells_from r t i = read_many cell_form (r - i) (drop (2 * i) t)

module _ (f : Functions) where
  -- the cell at its home has the key
  pub held : (table : CodeTable) (x i : ℕ) (t : List ℕ) → 0 < f.r → i ≡ home_in f table x
      → (n : Numbers) (o : List Cell) → n.home ≡ homes_of f
      → eqb (get_or t (2 * i) 0) x ≡ is_held n (with_table (rules_table table) (cells_in f.r t) o) (rules_table table) x
  held table x i t some e n o h =
      let tb = rules_table table in
      let inside : i < f.r = rw e (home_in_table f table x some) in
      let at_home : n.home tb x ≡ i = ap (λ (g : Table → ℕ → ℕ). g tb x) h ∙ homes_named f table x ∙ sym e in
      let here : cell_at (with_table tb (cells_in f.r t) o) tb (n.home tb x) ≡ cell_of t i =
      ap (cell_at (with_table tb (cells_in f.r t) o) tb) at_home ∙ cell_in tb (cells_in f.r t) o i ∙ cell_read f.r i t inside in
      ap (λ (c : Cell). eqb c.key x) (sym here)

-- the other table's key, of tables that are the same two the other way round
twin_held : (n : Numbers) (table : CodeTable) (x : ℕ) (cs o : List Cell)
    → is_held n (with_table (rules_table (code_other table)) o cs) (rules_table (code_other table)) x
    ≡ is_held n (with_table (rules_table table) cs o) (other (rules_table table)) x
twin_held n Zero x cs o = refl
twin_held n One x cs o = refl

module _ (f : Functions) (table : CodeTable) (i : ℕ) (t u : List ℕ) (n : Numbers) (h : n.home ≡ homes_of f) where
  abbrev both : Tables
  both = with_table (rules_table table) (cells_in f.r t) (cells_in f.r u)

  abbrev passes : Bool
  passes = cell_ok n both (rules_table table) i (cell_of t i)

  abbrev key : ℕ
  key = get_or t (2 * i) 0

  pub free_value : key ≡ 0 → eqb (get_or t (2 * i + 1) 0) 0 ≡ passes
  unfolding cell_ok
  free_value z = simp (eq-eqb _ _ z)

  -- whether the other table, seen from itself, holds the key
  abbrev twin : Bool
  twin = is_held n (with_table (rules_table (code_other table)) (cells_in f.r u) (cells_in f.r t)) (rules_table (code_other table)) key

  pub some_key : key ≢ 0 → good_key key && eqb (home_in f table key) i && not twin ≡ passes
  unfolding cell_ok
  some_key some =
      let at_home : n.home (rules_table table) key ≡ home_in f table key = ap (λ (g : Table → ℕ → ℕ). g (rules_table table) key) h ∙ homes_named f table key in
      simp (ne_eqb _ _ some, at_home)
      (ap (λ b. good_key key && eqb (home_in f table key) i && not b) (twin_held n table key (cells_in f.r t) (cells_in f.r u)))

module _ (n : Numbers) (ts : Tables) (t : Table) (r : ℕ) (ws : List ℕ) where
  abbrev pub passes_at : ℕ → Bool
  passes_at i = cell_ok n ts t i (cell_of ws i)

  cells-step : (i : ℕ) → i < r → cells_ok n ts t i (cells_from r ws i) ≡ passes_at i && cells_ok n ts t (i + 1) (cells_from r ws (i + 1))
  unfolding cells_ok
  cells-step i l = ap (cells_ok n ts t i) (read_from cell_form r i ws l) ∙ simp (get_or-drop, add-zero, add-one)

  cells_end : (i : ℕ) → r ≤ i → cells_ok n ts t i (cells_from r ws i) ≡ true
  unfolding cells_ok
  cells_end i l = ap (cells_ok n ts t i) (read_none cell_form r i (drop (2 * i) ws) l)

  -- the cells from place i on pass exactly if each does
  each_cell : (k i : ℕ) → i + k ≡ r → list_all passes_at (range_with_len i k) ≡ cells_ok n ts t i (cells_from r ws i)
  each_cell zero i e = sym (cells_end i (omega arith))
  each_cell (suc k) i e = ap (λ b. passes_at i && b) (each_cell k (i + 1) (omega arith)) ∙ sym (cells-step i (omega arith))

  pub all_cells : list_all passes_at (range_with_len 0 r) ≡ cells_ok n ts t 0 (cells_in r ws)
  all_cells = let e : r - 0 ≡ r = omega arith in each_cell r 0 (omega arith) ∙ ap (λ k. cells_ok n ts t 0 (read_many cell_form k ws)) e
