-- How labels and parts are made of classes and given tables: the values of the given tables at the vertices are numbered, which
-- gives the parts, and the pairs of a part and a class are numbered, which gives the labels. Assumes nothing.
use Rattle.std.specs.Prelude.{◌≡◌, List, ℕ, ◌+◌, ◌*◌, ◌/◌, ◌%◌, ◌≤◌, ◌<◌, length, get_or}
use Rattle.std.specs.Int.Bits.{bit_and}
use Rattle.limits.specs.Limits.{search_outputs, max_vertices, label_count}
use Rattle.bits.specs.Filled.{Filled}
use Rattle.problem.specs.Problem.{label_at, part_at, part_of, item, Labels}

-- the values of the given tables of g at the first n vertices
abbrev pub Valued : List ℕ → ℕ → ℕ → List ℕ → Type 0
Valued given g n r = Filled max_vertices (λ x. bit_and (item given x) g) n r

-- a number for the part and the class of output o at each of the first n vertices
abbrev pub Paired : List ℕ → ℕ → List ℕ → ℕ → List ℕ → Type 0
Paired cl o parts n r = Filled max_vertices (λ x. item parts x * max_vertices + label_at cl o x) n r

-- y is the first vertex with x's key
pub record First (keys : List ℕ) (x y : ℕ) : Type 0 where
  pub under : y ≤ x
  pub same : item keys y ≡ item keys x
  pub none : (z : ℕ) → z < y → item keys z ≡ item keys x → ⊥

-- numbers for the keys of the first x vertices: equal numbers for equal keys, and for no others
pub record Numbers (keys : List ℕ) (x : ℕ) (r : List ℕ) : Type 0 where
  pub long : length r ≡ max_vertices
  pub low : (y : ℕ) → y < x → item r y < max_vertices
  pub same : (y z : ℕ) → y < x → z < x → item keys y ≡ item keys z → item r y ≡ item r z
  pub apart : (y z : ℕ) → y < x → z < x → item r y ≡ item r z → item keys y ≡ item keys z

-- the same with all numbers below next
pub record Numbering (keys : List ℕ) (x next : ℕ) (r : List ℕ) : Type 0 where
  pub numbers : Numbers keys x r
  pub below : (y : ℕ) → y < x → item r y < next
  pub few : next ≤ x

-- labels of the first v vertices that have a part each
pub record Fine (labels parts : List ℕ) (v : ℕ) : Type 0 where
  pub label_low : (x : ℕ) → x < v → item labels x < max_vertices
  pub part_low : (x : ℕ) → x < v → item parts x < max_vertices
  pub one_part : (x y : ℕ) → x < v → y < v → item labels x ≡ item labels y → item parts x ≡ item parts y

-- r is as old for every output but i
abbrev Others : ℕ → List ℕ → List ℕ → Type 0
Others i old r = (q z : ℕ) → q < search_outputs → (q ≡ i → ⊥) → z < max_vertices → (label_at r q z ≡ label_at old q z) × (part_at r q z ≡ part_at old q z)

-- output i has these labels and parts at the first x vertices
pub record Placed (old labels parts : List ℕ) (i x : ℕ) (r : List ℕ) : Type 0 where
  pub whole : Labels r
  pub label : (y : ℕ) → y < x → label_at r i y ≡ item labels y
  pub part : (y : ℕ) → y < x → part_at r i (item labels y) ≡ item parts y
  pub others : Others i old r

-- lab and part say for output o what its classes and the given tables of g say
pub record Split (cl given : List ℕ) (o g v : ℕ) (lab part : ℕ → ℕ) : Type 0 where
  pub one_value : (x y : ℕ) → x < v → y < v → part x ≡ part y → bit_and (item given x) g ≡ bit_and (item given y) g
  pub one_part : (x y : ℕ) → x < v → y < v → bit_and (item given x) g ≡ bit_and (item given y) g → part x ≡ part y
  pub one_class : (x y : ℕ) → x < v → y < v → lab x ≡ lab y → label_at cl o x ≡ label_at cl o y
  pub one_label : (x y : ℕ) → x < v → y < v → part x ≡ part y → label_at cl o x ≡ label_at cl o y → lab x ≡ lab y

-- output i says what output o and the given tables of g say
pub record RefinedAt (cl given : List ℕ) (o g v i : ℕ) (old r : List ℕ) : Type 0 where
  pub whole : Labels r
  pub split : Split cl given o g v (label_at r i) (part_of r i)
  pub others : Others i old r

-- the first k labels are the classes of the outputs of from, the other numbers are 0
pub record Copied (cl from : List ℕ) (k : ℕ) (r : List ℕ) : Type 0 where
  pub filled : Filled (2 * label_count) (λ l. label_at cl (item from (l / max_vertices)) (l % max_vertices)) k r
  pub rest : (l : ℕ) → k ≤ l → get_or r l 0 ≡ 0

-- the first i outputs say what is left; the others have their classes, all in part 0
pub record Cutting (cl given from gs : List ℕ) (n v i : ℕ) (r : List ℕ) : Type 0 where
  pub whole : Labels r
  pub done : (q : ℕ) → q < i → Split cl given (item from q) (item gs q) v (label_at r q) (part_of r q)
  pub rest : (q z : ℕ) → i ≤ q → q < n → z < max_vertices → (label_at r q z ≡ label_at cl (item from q) z) × (part_at r q z ≡ 0)
