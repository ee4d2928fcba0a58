-- Groups of cells with the same readers, and codes that give every output the same blocks. Assumes nothing.
use Rattle.std.specs.Prelude.{◌≡◌, ℕ, ◌<◌, ◌⊎◌, List, bit_and}
use Rattle.cells.specs.Shared.{block}
use Rattle.problem.specs.Problem.{item}

-- an output that reads the cells of m reads all cells of g or none
abbrev pub Uniform : ℕ → ℕ → Type 0
Uniform m g = (bit_and m g ≡ g) ⊎ (bit_and m g ≡ 0)

-- codes g and h give every output the same blocks
pub record SameBlocks (ms : List ℕ) (v j : ℕ) (g h : ℕ → ℕ) : Type 0 where
  pub there : (o x y : ℕ) → o < j → x < v → y < v → block (item ms) g o x ≡ block (item ms) g o y → block (item ms) h o x ≡ block (item ms) h o y
  pub back : (o x y : ℕ) → o < j → x < v → y < v → block (item ms) h o x ≡ block (item ms) h o y → block (item ms) g o x ≡ block (item ms) g o y
