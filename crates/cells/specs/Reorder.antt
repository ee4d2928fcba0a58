-- The order of cells when outputs are given their rows in any order: which cells may change places, when a row is in order, and what is
-- kept. The cells from k to u - 1 may change places; those before have known digits, those after are given. Assumes nothing.
use Rattle.std.specs.Prelude.{◌≡◌, true, false, ◌⊎◌, ℕ, suc, ◌^◌, ◌≤◌, ◌<◌}
use Rattle.bits.specs.Digit.{on}
use Rattle.bits.specs.Count.{count}
use Rattle.cells.specs.Codes.{Coded}

-- same has only cells that may change places with the next, and that the outputs with a row so far read like the next
pub record Exchangeable (k u : ℕ) (Before : ℕ → Type 0) (rows : ℕ → ℕ) (same : ℕ) : Type 0 where
  pub from : (i : ℕ) → on same i ≡ true → k ≤ i
  pub within : (i : ℕ) → on same i ≡ true → suc i < u
  pub alike : (i p : ℕ) → on same i ≡ true → Before p → on (rows p) i ≡ on (rows p) (suc i)

-- a row is in order: of a cell of same and the next it has the next only where it has the cell
abbrev pub InOrder : ℕ → ℕ → Type 0
InOrder same r = (i : ℕ) → on same i ≡ true → on r (suc i) ≡ true → on r i ≡ true

-- the cells from k to u - 1 are off
abbrev pub Off : ℕ → ℕ → ℕ → Type 0
Off k u n = (i : ℕ) → k ≤ i → i < u → on n i ≡ false

-- what is kept when the cells from k to u - 1 change places and no row of Before changes
pub record Exchanged (v j k u : ℕ) (Conflict : ℕ → ℕ → ℕ → Type 0) (Before : ℕ → Type 0) (rows codes rows' codes' : ℕ → ℕ) : Type 0 where
  pub coded : Coded v j Conflict rows codes → Coded v j Conflict rows' codes'
  pub before : (p : ℕ) → Before p → rows' p ≡ rows p
  pub counts : (q n : ℕ) → u ≤ n → count (on (rows' q)) n ≡ count (on (rows q)) n
  pub short : (q n : ℕ) → u ≤ n → rows q < 2 ^ n → rows' q < 2 ^ n
  pub low : (x n : ℕ) → u ≤ n → codes x < 2 ^ n → codes' x < 2 ^ n
  pub rows_kept : (q i : ℕ) → (i < k) ⊎ (u ≤ i) → on (rows' q) i ≡ on (rows q) i
  pub codes_kept : (x i : ℕ) → (i < k) ⊎ (u ≤ i) → on (codes' x) i ≡ on (codes x) i
  pub off : (x : ℕ) → Off k u (codes x) → Off k u (codes' x)
