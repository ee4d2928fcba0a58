-- Which blocks each class of an output holds among the vertices with codes. Assumes nothing.
use Rattle.std.specs.Prelude.{◌≡◌, true, false, List, ℕ, ◌≤◌, ◌<◌, length, get_or}
use Rattle.std.specs.Int.Bits.{bit_and}
use Rattle.limits.specs.Limits.{max_vertices, max_codes}
use Rattle.bits.specs.Digit.{on}
use Rattle.cells.specs.Lists.{All, Pairs}
use Rattle.problem.specs.Problem.{no_code, label_at, item}

-- own has for each class the codes of the blocks that it holds among the first y vertices, owns how many blocks; the vertices of
-- a list have each another of these blocks, and a code in none of theirs is in none of these
pub record Held (cl codes : List ℕ) (o mask y : ℕ) (own owns : List ℕ) : Type 0 where
  pub own_long : length own ≡ max_vertices
  pub owns_long : length owns ≡ max_vertices
  pub inside : (w c : ℕ) → w < y → item codes w < no_code → c < max_codes → bit_and c mask ≡ bit_and (item codes w) mask → on (get_or own (label_at cl o w) 0) c ≡ true
  pub outside : (l c : ℕ) → l < max_vertices → c < max_codes → on (get_or own l 0) c ≡ true
      → (w : ℕ) × (w < y) × (item codes w < no_code) × (label_at cl o w ≡ l) × (bit_and (item codes w) mask ≡ bit_and c mask)
  pub lists : (l : ℕ) → l < max_vertices
      → (ws : List ℕ) × All (λ (w : ℕ). (w < y) × (item codes w < no_code) × (label_at cl o w ≡ l)) ws × Pairs (λ (a b : ℕ). bit_and (item codes a) mask ≡ bit_and (item codes b) mask → ⊥) ws ×
      (length ws ≡ get_or owns l 0) ×
      ((c : ℕ) → c < max_codes → All (λ (w : ℕ). bit_and (item codes w) mask ≡ bit_and c mask → ⊥) ws → on (get_or own l 0) c ≡ false)
  pub less : (l : ℕ) → l < max_vertices → get_or owns l 0 ≤ y
