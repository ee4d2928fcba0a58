-- Columns, when two of them are equal and when they conflict (clauses 6.1 to 6.8), for a list of bound inputs that is given.
-- A vertex has its digits in the order of this list, a free row in that of the inputs (clauses 6.2 and 6.3). Assumes nothing.
use Rattle.std.specs.Prelude.{Bool, true, false, ◌&&◌, ◌||◌, List, [], ◌∷◌, map, ℕ, zero, suc, ◌^◌, length}
use Rattle.std.specs.Bool.{beq}
use Rattle.bits.specs.Values.{values_upto}
use Rattle.bits.specs.Logic.{pick, xorb}
use Rattle.names.specs.Name.{Name, among}
use Rattle.rows.specs.Row.{row_of}
use Rattle.formula.specs.Value.{on_row}
use Rattle.sheet.specs.Examine.{Design}
use Rattle.sheet.specs.Value.{output_on}

-- the free inputs, in the order of the inputs
unfoldable pub free : List Name → List Name → List Name
free [] bs = []
free (n ∷ ns) bs =
    let others = free ns bs in
    pick (among n bs) others (n ∷ others)

-- the value of the input n where the bound inputs bs are on vertex x and the free inputs fs on free row y
unfoldable pub on_parts : List Name → List Name → ℕ → ℕ → Name → Bool
on_parts bs fs x y n = pick (among n bs) (on_row bs x n) (on_row fs y n)

-- the row over all inputs ns that has vertex x and free row y
unfoldable pub join_row : List Name → List Name → ℕ → ℕ → ℕ
join_row ns bs x y = row_of (map (on_parts bs (free ns bs) x y) ns)

-- the vertex and the free row of a row
unfoldable pub vertex_of : List Name → List Name → ℕ → ℕ
vertex_of ns bs r = row_of (map (on_row ns r) bs)

unfoldable pub free_row_of : List Name → List Name → ℕ → ℕ
free_row_of ns bs r = row_of (map (on_row ns r) (free ns bs))

-- how many vertices and free rows there are; without free inputs there is one free row
abbrev pub vertex_count : List Name → ℕ
vertex_count bs = 2 ^ length bs

abbrev pub free_count : List Name → List Name → ℕ
free_count ns bs = 2 ^ length (free ns bs)

-- output o's value at vertex x and free row y
unfoldable pub value_at : Design → List Name → ℕ → ℕ → ℕ → Bool
value_at d bs o x y = output_on d o (join_row d.inputs bs x y)

-- output o's column at vertex x: its value at each free row (clause 6.5)
unfoldable pub column : Design → List Name → ℕ → ℕ → List Bool
column d bs o x = values_upto (value_at d bs o x) (free_count d.inputs bs)

-- whether two columns are equal
unfoldable pub same_values : List Bool → List Bool → Bool
same_values [] [] = true
same_values [] (v ∷ vs) = false
same_values (u ∷ us) [] = false
same_values (u ∷ us) (v ∷ vs) = beq u v && same_values us vs

-- whether at some place one of two columns has 0 and the other 1 (clause 6.6)
unfoldable pub apart : List Bool → List Bool → Bool
apart [] vs = false
apart (u ∷ us) [] = false
apart (u ∷ us) (v ∷ vs) = xorb u v || apart us vs

-- two vertices conflict for an output
unfoldable pub conflict : Design → List Name → ℕ → ℕ → ℕ → Bool
conflict d bs o x y = apart (column d bs o x) (column d bs o y)

-- vertices of one local class, and of one global class: equal columns in one output, or in every output
unfoldable pub alike : Design → List Name → ℕ → ℕ → ℕ → Bool
alike d bs o x y = same_values (column d bs o x) (column d bs o y)

unfoldable pub alike_upto : Design → List Name → ℕ → ℕ → ℕ → Bool
alike_upto d bs zero x y = true
alike_upto d bs (suc m) x y = alike_upto d bs m x y && alike d bs m x y

abbrev pub alike_in_all : Design → List Name → ℕ → ℕ → Bool
alike_in_all d bs x y = alike_upto d bs (length d.outputs) x y
