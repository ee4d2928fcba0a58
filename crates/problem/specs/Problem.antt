-- What the search for codes is given, and what it is to find (the crate has a glossary). Labels: output o's class at vertex x stands at
-- o * max_vertices + x, and the part of its class l at label_count + o * max_vertices + l. An output has to tell two classes apart
-- where they are of one part. A set of codes is a number of max_codes digits. Assumes nothing.
use Rattle.std.specs.Prelude.{◌≡◌, Bool, true, false, List, ℕ, ◌+◌, ◌*◌, ◌^◌, ◌<◌, eqb, length, get_or}
use Rattle.std.specs.Int.Bits.{bit_and}
use Rattle.limits.specs.Limits.{max_vertices, label_count, block_count, max_codes, max_cells}
use Rattle.bits.specs.Digit.{on}
use Rattle.bits.specs.Count.{count}
use Rattle.cells.specs.Shared.{Fits}

-- what stands for the code of a vertex that has none yet
abbrev pub no_code : ℕ
no_code = max_codes

abbrev pub label_at : List ℕ → ℕ → ℕ → ℕ
label_at cl o x = get_or cl (o * max_vertices + x) 0

-- the part of class l of output o
abbrev pub part_at : List ℕ → ℕ → ℕ → ℕ
part_at cl o l = get_or cl (label_count + (o * max_vertices + l)) 0

-- the part of vertex x for output o
abbrev pub part_of : List ℕ → ℕ → ℕ → ℕ
part_of cl o x = part_at cl o (label_at cl o x)

abbrev pub item : List ℕ → ℕ → ℕ
item l o = get_or l o 0

-- the set of codes in one block with c, for a mask
abbrev pub Block : ℕ → ℕ → ℕ → Type 0
Block mask c s = (k : ℕ) → k < max_codes → on s k ≡ eqb (bit_and k mask) (bit_and c mask)

-- the labels of the outputs at the vertices, and the parts of the classes; an output has no more classes or parts than there
-- are vertices
pub record Labels (cl : List ℕ) : Type 0 where
  pub long : length cl ≡ 2 * label_count
  pub low : (k : ℕ) → k < 2 * label_count → get_or cl k 0 < max_vertices

-- for each output and code the block of the code
pub record Blocks (ms bs : List ℕ) (j : ℕ) : Type 0 where
  pub long : length bs ≡ block_count
  pub each : (o c : ℕ) → o < j → c < max_codes → Block (item ms o) c (get_or bs (o * max_codes + c) 0)

-- shared and private cells of each output: a private cell is no other output's, and cap is 2 to their number
pub record Plan (ms ps caps : List ℕ) (j : ℕ) : Type 0 where
  pub private : (o q i : ℕ) → o < j → q < j → on (item ps o) i ≡ true → on (item ms q) i ≡ false
  pub single : (o q i : ℕ) → o < j → q < j → (o ≡ q → ⊥) → on (item ps o) i ≡ true → on (item ps q) i ≡ false
  pub room : (o : ℕ) → o < j → item caps o ≡ 2 ^ count (on (item ps o)) max_cells
  pub short : (o : ℕ) → o < j → item ps o < max_codes
  pub short_shared : (o : ℕ) → o < j → item ms o < max_codes

-- codes over the shared cells that stand for a core
pub record Solves (cl base ms caps spots : List ℕ) (v j : ℕ) (g : ℕ → ℕ) : Type 0 where
  pub fits : Fits v j max_vertices (part_at cl) (label_at cl) (item ms) (item caps) (item spots) (label_at base) g
  pub small : (x : ℕ) → x < v → g x < max_codes

-- g has the codes given so far, and keeps to the sets that are left
pub record Extends (codes dom : List ℕ) (v : ℕ) (g : ℕ → ℕ) : Type 0 where
  pub coded : (x : ℕ) → x < v → item codes x < no_code → g x ≡ item codes x
  pub within : (x : ℕ) → x < v → on (item dom x) (g x) ≡ true

-- each solution that keeps to dom keeps to r
pub record Kept (cl base ms caps spots : List ℕ) (v j : ℕ) (codes dom r : List ℕ) : Type 0 where
  pub keeps : (g : ℕ → ℕ) → Solves cl base ms caps spots v j g → Extends codes dom v g → Extends codes r v g

-- codes over all cells that tell the classes of each part of the first j outputs apart
pub record Parted (cl ms ps : List ℕ) (v j : ℕ) (r : List ℕ) : Type 0 where
  pub parted : (o x y : ℕ) → o < j → x < v → y < v → part_of cl o x ≡ part_of cl o y
      → bit_and (item r x) (item ms o) ≡ bit_and (item r y) (item ms o) → bit_and (item r x) (item ps o) ≡ bit_and (item r y) (item ps o) → label_at cl o x ≡ label_at cl o y

-- cell 0 has its known digits: it is known at the vertices of kn, and val has its digits there
abbrev pub Fixed : ℕ → ℕ → ℕ → (ℕ → ℕ) → Type 0
Fixed kn val v f = (x : ℕ) → x < v → on kn x ≡ true → on (f x) 0 ≡ on val x

-- the codes given have the known digits of cell 0, and where some are known it is no output's private cell
pub record Knows (kn val : ℕ) (ps codes : List ℕ) (v j : ℕ) : Type 0 where
  pub public : (x o : ℕ) → x < v → on kn x ≡ true → o < j → on (item ps o) 0 ≡ false
  pub given : (x : ℕ) → x < v → on kn x ≡ true → item codes x < no_code → on (item codes x) 0 ≡ on val x

-- no solution with the known digits goes on from the codes given
pub record Hopeless (cl base ms caps spots : List ℕ) (v j kn val : ℕ) (codes dom : List ℕ) : Type 0 where
  pub none : (g : ℕ → ℕ) → Solves cl base ms caps spots v j g → Extends codes dom v g → Fixed kn val v g → ⊥

-- what the search answers
abbrev pub Told : List ℕ → List ℕ → List ℕ → List ℕ → List ℕ → List ℕ → ℕ → ℕ → ℕ → ℕ → List ℕ → List ℕ → Bool → List ℕ → Type 0
Told cl base ms ps caps spots v j kn val codes dom true r = Parted cl ms ps v j r × Fixed kn val v (item r)
Told cl base ms ps caps spots v j kn val codes dom false r = Hopeless cl base ms caps spots v j kn val codes dom
