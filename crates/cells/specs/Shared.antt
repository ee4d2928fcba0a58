-- Private cells are left out of the search. A cell that only one output reads can do no more for it than number the classes
-- inside each block, a block being the vertices with one code in the shared cells that the output reads. So codes over the
-- shared cells stand for a core when no block of an output holds more classes than 2 to the number of its private cells.
-- Conflict is "two classes of one part" throughout: the classes of each part of a block are counted. Without parts all classes are
-- in part 0. Assumes nothing.
use Rattle.std.specs.Prelude.{◌≡◌, true, false, List, ℕ, ◌^◌, ◌≤◌, ◌<◌, length}
use Rattle.std.specs.Int.Bits.{bit_and}
use Rattle.bits.specs.Logic.{orb}
use Rattle.bits.specs.Digit.{on}
use Rattle.cells.specs.Lists.{All, Pairs}

-- what each of j outputs reads, split into cells of sh and private ones, which no other output reads
pub record Split (j u : ℕ) (rows shared private : ℕ → ℕ) (sh : ℕ) : Type 0 where
  pub whole : (o i : ℕ) → o < j → on (rows o) i ≡ orb (on (shared o) i) (on (private o) i)
  pub among : (o i : ℕ) → o < j → on (shared o) i ≡ true → on sh i ≡ true
  pub outside : (o i : ℕ) → o < j → on (private o) i ≡ true → on sh i ≡ false
  pub own : (o q i : ℕ) → o < j → q < j → (o ≡ q → ⊥) → on (private o) i ≡ true → on (rows q) i ≡ false
  pub short : (o : ℕ) → o < j → rows o < 2 ^ u
  pub short_shared : (o : ℕ) → o < j → shared o < 2 ^ u

-- the block of x for an output: what x's code has in the output's shared cells
abbrev pub block : (ℕ → ℕ) → (ℕ → ℕ) → ℕ → ℕ → ℕ
block mask g o x = bit_and (g x) (mask o)

-- codes g over the shared cells: no block holds more classes of one part than cap, no more pairs of a class of one part and a
-- block occur than spots, and class l of o, of k classes, occurs in at least base o l blocks
pub record Fits (v j k : ℕ) (part cls : ℕ → ℕ → ℕ) (mask cap spots : ℕ → ℕ) (base : ℕ → ℕ → ℕ) (g : ℕ → ℕ) : Type 0 where
  pub crowd : (o p b : ℕ) (xs : List ℕ) → o < j → All (λ (x : ℕ). (x < v) × (part o (cls o x) ≡ p) × (block mask g o x ≡ b)) xs → Pairs (λ (x y : ℕ). cls o x ≡ cls o y → ⊥) xs → length xs ≤ cap o
  pub places : (o p : ℕ) (xs : List ℕ) → o < j → All (λ (x : ℕ). (x < v) × (part o (cls o x) ≡ p)) xs → Pairs (λ (x y : ℕ). cls o x ≡ cls o y → block mask g o x ≡ block mask g o y → ⊥) xs
      → length xs ≤ spots o
  pub needs : (o l : ℕ) → o < j → l < k → (xs : List ℕ) × All (λ (x : ℕ). (x < v) × (cls o x ≡ l)) xs × Pairs (λ (x y : ℕ). block mask g o x ≡ block mask g o y → ⊥) xs × (base o l ≤ length xs)

-- the codes of a core over the shared cells
abbrev pub shared_code : ℕ → (ℕ → ℕ) → ℕ → ℕ
shared_code sh f x = bit_and (f x) sh

-- class l, as label says, has at least n vertices with different keys
abbrev pub Group : (v : ℕ) (label key : ℕ → ℕ) → ℕ → ℕ → Type 0
Group v label key l n = (xs : List ℕ) × All (λ (x : ℕ). (x < v) × (label x ≡ l)) xs × Pairs (λ (x y : ℕ). key x ≡ key y → ⊥) xs × (n ≤ length xs)
