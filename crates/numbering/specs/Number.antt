-- Private cells written out: what the numbers of an output's classes inside its blocks say, a number's digits spread over the
-- private cells, and the codes with these digits. Assumes nothing.
use Rattle.std.specs.Prelude.{◌≡◌, Bool, true, false, List, ℕ, ◌≤◌, ◌<◌, length}
use Rattle.std.specs.Int.Bits.{bit_and}
use Rattle.limits.specs.Limits.{max_vertices, max_cells}
use Rattle.bits.specs.Logic.{andb}
use Rattle.bits.specs.Digit.{on}
use Rattle.bits.specs.Count.{count}
use Rattle.cells.specs.Lists.{All, Pairs}
use Rattle.problem.specs.Problem.{label_at, part_of, item}

module _ (cl codes : List ℕ) (o mask : ℕ) where
  -- the part and the block of x
  abbrev pub key : ℕ → ℕ × ℕ
  key x = (part_of cl o x, bit_and (item codes x) mask)

  -- n vertices before b in x's block, of classes that differ from each other and from x's
  abbrev pub Fellows : ℕ → ℕ → ℕ → Type 0
  Fellows b x n = (ws : List ℕ) × All (λ (w : ℕ). (w < b) × (key w ≡ key x) × (label_at cl o w ≡ label_at cl o x → ⊥)) ws
      × Pairs (λ (a b : ℕ). label_at cl o a ≡ label_at cl o b → ⊥) ws × (length ws ≡ n)

-- the first x vertices are numbered
pub record Numbered (cl codes : List ℕ) (o mask x : ℕ) (nums : List ℕ) : Type 0 where
  pub long : length nums ≡ max_vertices
  pub apart : (y z : ℕ) → y < x → z < x → key cl codes o mask y ≡ key cl codes o mask z → item nums y ≡ item nums z → label_at cl o y ≡ label_at cl o z
  pub fellows : (y : ℕ) → y < x → Fellows cl codes o mask y y (item nums y)
  pub low : (y : ℕ) → y < x → item nums y ≤ y

-- n is a number for x
pub record Number (cl codes : List ℕ) (o mask x : ℕ) (nums : List ℕ) (n : ℕ) : Type 0 where
  pub new : (y : ℕ) → y < x → key cl codes o mask y ≡ key cl codes o mask x → item nums y ≡ n → label_at cl o y ≡ label_at cl o x
  pub others : Fellows cl codes o mask x x n
  pub small : n ≤ x

-- the scan for a number has passed the first y vertices
pub record Passed (cl codes : List ℕ) (o mask x : ℕ) (nums : List ℕ) (y next : ℕ) : Type 0 where
  pub none : (w : ℕ) → w < y → key cl codes o mask w ≡ key cl codes o mask x → label_at cl o w ≡ label_at cl o x → ⊥
  pub above : (w : ℕ) → w < y → key cl codes o mask w ≡ key cl codes o mask x → item nums w < next
  pub seen : (ws : List ℕ) × All (λ (w : ℕ). (w < y) × (key cl codes o mask w ≡ key cl codes o mask x)) ws × Pairs (λ (a b : ℕ). label_at cl o a ≡ label_at cl o b → ⊥) ws × (length ws ≡ next)
  pub under : next ≤ y

-- r has the digits of n at the digits of p below i, and no other digits
pub record Spread (n p i r : ℕ) : Type 0 where
  pub digits : (k : ℕ) → k < i → on r k ≡ andb (on p k) (on n (count (on p) k))
  pub rest : (k : ℕ) → i ≤ k → on r k ≡ false

-- the loop's state: r is spread so far, and k digits of p are passed
pub record Spreading (n p i r k : ℕ) : Type 0 where
  pub spread : Spread n p i r
  pub passed : k ≡ count (on p) i
  pub low : k ≤ i

-- the first x codes have their numbers in the digits of p, and are as before elsewhere
pub record Wrote (nums : List ℕ) (p cap x : ℕ) (codes r : List ℕ) : Type 0 where
  pub long : length r ≡ max_vertices
  pub less : (y : ℕ) → y < x → item nums y < cap
  pub here : (y i : ℕ) → y < x → i < max_cells → on p i ≡ true → on (item r y) i ≡ on (item nums y) (count (on p) i)
  pub there : (y i : ℕ) → y < x → i < max_cells → on p i ≡ false → on (item r y) i ≡ on (item codes y) i
  pub rest : (y : ℕ) → x ≤ y → item r y ≡ item codes y

-- what writing answers: the codes written, or a number too large
abbrev pub Written : List ℕ → ℕ → ℕ → ℕ → List ℕ → Bool → List ℕ → Type 0
Written nums p cap v codes true r = Wrote nums p cap v codes r
Written nums p cap v codes false r = (x : ℕ) × (x < v) × (cap ≤ item nums x)

pub record Finished (cl ms ps : List ℕ) (v o : ℕ) (codes r : List ℕ) : Type 0 where
  pub long : length r ≡ 32
  pub kept : (x i : ℕ) → x < v → i < 6 → ((q : ℕ) → q < o → on (item ps q) i ≡ false) → on (item r x) i ≡ on (item codes x) i
  pub parted : (q x y : ℕ) → q < o → x < v → y < v → part_of cl q x ≡ part_of cl q y → bit_and (item r x) (item ms q) ≡ bit_and (item r y) (item ms q)
      → bit_and (item r x) (item ps q) ≡ bit_and (item r y) (item ps q) → label_at cl q x ≡ label_at cl q y
