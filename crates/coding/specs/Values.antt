-- Groups of cells with the same readers, the values of them that vertices with codes have, and the codes that a search asks of
-- the next vertex: of each group a value in use or one more, and 0 in cells that no two outputs read. Three groups are enough,
-- for a group of one cell has no value to spare once vertex 0 has a code. Assumes nothing.
use Rattle.std.specs.Prelude.{◌≡◌, ℕ, ◌-◌, ◌/◌, ◌^◌, ◌<◌, ◌≤◌, true, false, ◌⊎◌, List, length, ◌≢◌, bit_and, bit_or}
use Rattle.limits.specs.Limits.{max_codes, max_cells}
use Rattle.bits.specs.Digit.{on}
use Rattle.problem.specs.Problem.{no_code, item, Block, Blocks, Solves}
use Rattle.coding.specs.Exchange.{Uniform}

-- groups of cells: of two cells or more there are no more
abbrev pub group_count : ℕ
group_count = max_cells / 2

-- groups of cells of sh, none in two of them
pub record Groups (gs : List ℕ) (sh : ℕ) : Type 0 where
  pub low : (k : ℕ) → k < group_count → item gs k < max_codes
  pub among : (k i : ℕ) → k < group_count → on (item gs k) i ≡ true → on sh i ≡ true
  pub disjoint : (k l i : ℕ) → k < group_count → l < group_count → (k ≢ l) → on (item gs k) i ≡ true → on (item gs l) i ≡ false

-- each of j outputs, which read the cells of ms, reads cells of sh, and all cells of a group or none
pub record ReadTogether (ms gs : List ℕ) (sh j : ℕ) : Type 0 where
  pub short : (o : ℕ) → o < j → item ms o < max_codes
  pub masked : (o i : ℕ) → o < j → on (item ms o) i ≡ true → on sh i ≡ true
  pub uniform : (k o : ℕ) → k < group_count → o < j → Uniform (item ms o) (item gs k)

-- all has the codes over the cells of sh
pub record Over (sh all : ℕ) : Type 0 where
  pub low : sh < max_codes
  pub is : Block (2 ^ 8 - 1 - sh) 0 all

-- a has with a code all codes of one value of the group
abbrev pub Closed : ℕ → ℕ → Type 0
Closed g a = (c d : ℕ) → c < max_codes → d < max_codes → bit_and c g ≡ bit_and d g → on a c ≡ true → on a d ≡ true

-- for each group a set of codes that is closed
pub record Marks (gs used : List ℕ) : Type 0 where
  pub long : length used ≡ group_count
  pub closed : (k : ℕ) → k < group_count → Closed (item gs k) (item used k)

-- for each group the codes whose value some vertex with a code has
pub record Used (gs codes : List ℕ) (v : ℕ) (used : List ℕ) : Type 0 where
  pub marks : Marks gs used
  pub has : (k y : ℕ) → k < group_count → y < v → item codes y < no_code → on (item used k) (item codes y) ≡ true

-- cell 0 is one of the cells of sh, and in no group
pub record Alone (gs : List ℕ) (sh : ℕ) : Type 0 where
  pub shared : on sh 0 ≡ true
  pub outside : (k : ℕ) → k < group_count → on (item gs k) 0 ≡ false

-- all has the codes over the cells that two outputs read, gb the blocks of groups of these cells, and used their values
-- in use; cell 0 is in no group where some of its digits are known, at the vertices of kn
pub record Valued (ms gb : List ℕ) (all j kn : ℕ) (codes : List ℕ) (v : ℕ) (used : List ℕ) : Type 0 where
  pub gs : List ℕ
  pub sh : ℕ
  pub over : Over sh all
  pub blocks : Blocks gs gb group_count
  pub groups : Groups gs sh
  pub alike : ReadTogether ms gs sh j
  pub alone : (x : ℕ) → x < v → on kn x ≡ true → Alone gs sh
  pub values : Used gs codes v used

-- b is the codes with the value of a code that is not in a, unless a has every code
abbrev pub Fresh : ℕ → ℕ → ℕ → Type 0
Fresh g a b = ((c : ℕ) × (c < max_codes) × (on a c ≡ false) × Block g c b) ⊎ ((c : ℕ) → c < max_codes → on a c ≡ true)

-- g has the codes given so far
abbrev pub Agrees : List ℕ → ℕ → (ℕ → ℕ) → Type 0
Agrees codes v g = (x : ℕ) → x < v → item codes x < no_code → g x ≡ item codes x

-- where a solution goes on from the codes given, there is one whose code at a vertex without a code is in can, with the same
-- digits of cell 0 where that is in no group; the first n groups have narrowed can, and it does not look at the others
pub record Canon (gs used : List ℕ) (sh n can : ℕ) : Type 0 where
  pub reach : (cl base ms caps spots codes : List ℕ) (v j x : ℕ) → no_code ≤ item codes x → ReadTogether ms gs sh j
      → ((k y : ℕ) → k < group_count → y < v → item codes y < no_code → on (item used k) (item codes y) ≡ true)
      → (g : ℕ → ℕ) → Solves cl base ms caps spots v j g → Agrees codes v g → x < v
      → (g' : ℕ → ℕ) × Solves cl base ms caps spots v j g' × Agrees codes v g' × (on can (g' x) ≡ true) × (Alone gs sh → (y : ℕ) → y < v → on (g' y) 0 ≡ on (g y) 0)
  pub blind : (k c d : ℕ) → n ≤ k → k < group_count → c < max_codes → d < max_codes → ((i : ℕ) → i < max_cells → on (item gs k) i ≡ false → on c i ≡ on d i) → on can c ≡ true → on can d ≡ true

-- the sets with the value of c in each of the first n groups
pub record Marked (gs used : List ℕ) (c n : ℕ) (r : List ℕ) : Type 0 where
  pub long : length r ≡ group_count
  pub done : (k : ℕ) → k < n → (b : ℕ) × Block (item gs k) c b × (item r k ≡ bit_or (item used k) b)
  pub rest : (k : ℕ) → n ≤ k → item r k ≡ item used k
