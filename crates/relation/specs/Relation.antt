-- What given tables leave of the conflicts. A given table is known at every vertex; of the vertices in conflict for an output,
-- those remain for the search that the given tables read by the output do not tell apart. Assumes nothing.
use Rattle.std.specs.Prelude.{◌≡◌, List, ℕ, ◌<◌, length, get_or}
use Rattle.std.specs.Int.Bits.{bit_and}
use Rattle.limits.specs.Limits.{max_vertices, label_count}
use Rattle.cells.specs.Core.{Differ, Within}
use Rattle.problem.specs.Problem.{label_at, part_at, item, Labels}

-- the classes of the outputs at the vertices; an output has no more classes than there are vertices
pub record Classes (cl : List ℕ) : Type 0 where
  pub long : length cl ≡ label_count
  pub low : (k : ℕ) → k < label_count → get_or cl k 0 < max_vertices

-- output o has to tell x and y apart; no other definition says what a conflict is
unfoldable pub Conflict : List ℕ → ℕ → ℕ → ℕ → Type 0
Conflict cl o x y = Differ (label_at cl) o x y

-- A conflict that the given tables of the set g leave: they agree at x and y. Table i has digit i of item given x at vertex x.
pub record Left (cl given : List ℕ) (g o x y : ℕ) : Type 0 where
  pub conflict : Conflict cl o x y
  pub agree : bit_and (item given x) g ≡ bit_and (item given y) g

-- The labels and parts r say what is left: output i of r is output item from i of cl, and reads the given tables of item gs i.
pub record Leaves (cl given from gs : List ℕ) (n v : ℕ) (r : List ℕ) : Type 0 where
  pub labels : Labels r
  pub left : (i x y : ℕ) → i < n → x < v → y < v → Within (part_at r) (label_at r) i x y → Left cl given (item gs i) (item from i) x y
  pub within : (i x y : ℕ) → i < n → x < v → y < v → Left cl given (item gs i) (item from i) x y → Within (part_at r) (label_at r) i x y

-- the given tables of the set g leave no conflict of output o at the first v vertices
pub record NoneLeft (cl given : List ℕ) (g o v : ℕ) : Type 0 where
  pub none : (x y : ℕ) → x < v → y < v → Left cl given g o x y → ⊥

-- of the first v vertices output o has to tell apart none that output q need not tell apart
pub record Inside (cl : List ℕ) (o q v : ℕ) : Type 0 where
  pub inside : (x y : ℕ) → x < v → y < v → Conflict cl o x y → Conflict cl q x y
