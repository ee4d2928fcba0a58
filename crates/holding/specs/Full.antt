-- Which classes of a part have vertices with codes in a block, and how many they are. Assumes nothing.
use Rattle.std.specs.Prelude.{◌≡◌, true, false, List, ℕ, ◌≤◌, ◌<◌, length}
use Rattle.bits.specs.Digit.{on}
use Rattle.cells.specs.Lists.{All, Pairs}
use Rattle.problem.specs.Problem.{label_at, part_at, part_of, item}

-- n of the first y vertices have codes in b, each of another class of part p, and these classes are in seen, as are all classes
-- of other parts
pub record Crowd (cl codes : List ℕ) (o p b y seen n : ℕ) : Type 0 where
  pub found : (ws : List ℕ) × All (λ (w : ℕ). (w < y) × (item codes w < 64) × (on b (item codes w) ≡ true) × (on seen (label_at cl o w) ≡ true) × (part_of cl o w ≡ p)) ws × Pairs
      (λ (a b : ℕ). label_at cl o a ≡ label_at cl o b → ⊥) ws × (length ws ≡ n)
  pub few : n ≤ y
  pub strangers : (l : ℕ) → l < 32 → on seen l ≡ false → part_at cl o l ≡ p

-- a code k at y where the block b is full: y's class is among those in it or of another part, or k is outside
abbrev pub Free : List ℕ → ℕ → ℕ → ℕ → ℕ → ℕ → Type 0
Free cl o seen b y k = on seen (label_at cl o y) ≡ false → on b k ≡ false

-- the classes of other parts than p, of the first n
pub record Others (cl : List ℕ) (o p n r : ℕ) : Type 0 where
  pub rest : (l : ℕ) → l < n → on r l ≡ false → part_at cl o l ≡ p
