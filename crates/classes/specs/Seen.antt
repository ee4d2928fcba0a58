-- What each part of the code says of its answer: the digits of inputs, the rows gathered by them, the columns seen in a
-- table, keys of vertices, and classes by a relation. Assumes nothing.
use Rattle.std.specs.Prelude.{◌≡◌, Bool, List, [], ◌∷◌, map, ℕ, ◌+◌, ◌-◌, ◌*◌, ◌^◌, ◌≤◌, ◌<◌, eqb, length, get_or, Option, Some, None}
use Rattle.bits.specs.Logic.{pick}
use Rattle.limits.specs.Limits.{max_inputs, max_bound, max_outputs, max_rows, max_vertices}
use Rattle.bits.specs.Digit.{on}
use Rattle.names.specs.Name.{Name, same_name, among}
use Rattle.rows.specs.Row.{row_of}
use Rattle.rows.specs.Words.{row_on}
use Rattle.sheet.specs.Known.{position}
use Rattle.classes.specs.Columns.{free, same_values}
use Rattle.bits.specs.Values.{values_upto}
use Rattle.classes.specs.Classes.{first_like, class_count, class_of}
use Rattle.classes.specs.Proper.{Parted}

-- the first place of i among some numbers, or their number
pub record PlaceIs (l : List ℕ) (i j : ℕ) : Type 0 where
  pub within : j ≤ length l
  pub there : j < length l → get_or l j 0 ≡ i
  pub not_before : (k : ℕ) → k < j → get_or l k 0 ≡ i → ⊥

-- the place of i, where it has one
abbrev pub Placing : List ℕ → ℕ → Option ℕ → Type 0
Placing l i (Some j) = (j < length l) × PlaceIs l i j
Placing l i None = PlaceIs l i (length l)

-- ---- digits
-- how many names stand after n's first place among some; 0 where it has none
unfoldable pub from_last : List Name → Name → ℕ
from_last [] n = 0
from_last (m ∷ ms) n =
    let later = from_last ms n in
    pick (same_name m n) (length ms) later

-- the digit of input n in the number y * 2 ^ length bs + x of vertex x and free row y
unfoldable pub digit_of : List Name → List Name → Name → ℕ
digit_of bs fs n = pick (among n bs) (from_last bs n) (length bs + from_last fs n)

-- digits of a word
pub record Small (l : List ℕ) : Type 0 where
  pub each : (i : ℕ) → get_or l i 0 < 64

-- the digits of n inputs, where the bound ones have these places
pub record DigitsAre (places : List ℕ) (n : ℕ) (l : List ℕ) : Type 0 where
  pub size : length l ≡ max_inputs
  pub small : Small l
  pub right : (ns bs : List Name) → Parted ns bs → length ns ≡ n → places ≡ map (position ns) bs
      → (i : ℕ) → i < n → get_or l i 0 ≡ digit_of bs (free ns bs) (get_or ns i [])

-- the row whose inputs have the digits of z at these places
unfoldable pub gathered : List ℕ → ℕ → ℕ
gathered l z = row_of (map (on z) l)

pub record Gathered (l : List ℕ) (step : ℕ) (out : List ℕ) : Type 0 where
  pub each : (i : ℕ) → i < length out → get_or out i 0 ≡ gathered l (i * step)

-- ---- columns
-- every row of a vertex and a free row is a row of a table
pub record Inside (vertex free : List ℕ) : Type 0 where
  pub each : (x y : ℕ) → x < length vertex → y < length free → get_or vertex x 0 + get_or free y 0 < max_rows

-- the value of the table t at vertex x and free row y
unfoldable pub seen : List ℕ → List ℕ → List ℕ → ℕ → ℕ → Bool
seen t vertex free x y = row_on t (get_or vertex x 0 + get_or free y 0)

-- whether x and y have equal columns of n values
unfoldable pub same_column : (ℕ → ℕ → Bool) → ℕ → ℕ → ℕ → Bool
same_column f n x y = same_values (values_upto (f x) n) (values_upto (f y) n)

-- whether vertices x and y have equal columns in the table t
abbrev pub alike_seen : List ℕ → List ℕ → List ℕ → ℕ → ℕ → Bool
alike_seen t vertex free = same_column (seen t vertex free) (length free)

-- ---- keys
abbrev pub same_key : List ℕ → ℕ → ℕ → Bool
same_key l x y = eqb (get_or l x 0) (get_or l y 0)

-- keys to which another class number can be joined
pub record Keyable (keys : List ℕ) (class : ℕ → ℕ) (v : ℕ) : Type 0 where
  pub low-key : (x : ℕ) → x < v → get_or keys x 0 < 2 ^ (max_bound * (max_outputs - 1))
  pub low_class : (x : ℕ) → x < v → class x < max_vertices

pub record KeysBy (keys : List ℕ) (class : ℕ → ℕ) (v : ℕ) (list : List ℕ) : Type 0 where
  pub size : length list ≡ max_vertices
  pub each : (x : ℕ) → x < v → get_or list x 0 ≡ get_or keys x 0 * max_vertices + class x

-- ---- classes
-- the first number below x that is related to x, and none where x is its own first relative
abbrev pub FirstIs : (ℕ → ℕ → Bool) → ℕ → Option ℕ → Type 0
FirstIs same x (Some y) = y ≡ first_like same x
FirstIs same x None = x ≡ first_like same x

-- the classes of the numbers below v, and how many they are
pub record ClassesBy (same : ℕ → ℕ → Bool) (v count : ℕ) (class : ℕ → ℕ) : Type 0 where
  pub counted : count ≡ class_count same v
  pub classes : (x : ℕ) → x < v → class x ≡ class_of same x
