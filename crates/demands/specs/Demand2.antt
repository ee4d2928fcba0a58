-- Demand 2, about Table, Map and Check (clause 14.2): Table's digits are the outputs' values; Map's network has these values,
-- looked up in its own tables; and Check says "same" to the network sheets that have them and to no others. Assumes nothing.
use Rattle.std.specs.Prelude.{◌≡◌, List, ℕ, ◌≤◌, ◌<◌, length, get_or, take}
use Rattle.rows.specs.Digits.{digit}
use Rattle.sheet.specs.Examine.{Design, Examined}
use Rattle.sheet.specs.Value.{output_on}
use Rattle.design.specs.Tabulate as tables
use Rattle.design.specs.Tabulate.{table_of, row_count}
use Rattle.network.specs.Network.{Network}
use Rattle.network.specs.Check as checks
use Rattle.network.specs.Check.{check_of}
use Rattle.network.specs.Answers.{Computes, Drawn}
use Rattle.mapper.specs.Map.{MapAnswer, mapped}

-- where Table answered n digits for output o, with the buffer b before and c afterwards: a digit for each row, and later bytes
-- as they were
pub record TableRight (d : Design) (o n : ℕ) (b c : List ℕ) : Type 0 where
  pub is_output : o < length d.outputs
  pub row_each : n ≡ row_count d
  pub same_length : length c ≡ length b
  pub digit_is : (r : ℕ) → r < row_count d → get_or c r 0 ≡ digit (output_on d o r)
  pub later : (i : ℕ) → row_count d ≤ i → get_or c i 0 ≡ get_or b i 0

-- t is a network sheet that passes 10 and 11, and read by its own tables it has the design's value in every output on every
-- row (Computes)
pub record RightNetwork (d : Design) (t : List ℕ) : Type 0 where
  pub said : Network
  pub drawn : Drawn d t said
  pub values : Computes d said

-- where Map answered a network of n bytes, with the buffer b before and c afterwards: the first n bytes are such a network sheet, and
-- later bytes are as they were
pub record MapRight (d : Design) (n : ℕ) (b c : List ℕ) : Type 0 where
  pub writes : RightNetwork d (take n c)
  pub fits : n ≤ length b
  pub same_length : length c ≡ length b
  pub later : (i : ℕ) → n ≤ i → get_or c i 0 ≡ get_or b i 0

-- x is an examination's answer, the well_formed design d; o is any number, b any buffer; Map answers a on x and b, and leaves
-- the buffer b'
pub record Demand2 (x : Examined) (d : Design) (o : ℕ) (b : List ℕ) (a : MapAnswer) (b' : List ℕ) : Type 0 where
  pub table_right : (n : ℕ) → (table_of x o b).answer ≡ tables.written n → TableRight d o n b (table_of x o b).buffer
  pub map_right : (u n : ℕ) → a ≡ mapped u n → MapRight d n b b'
  pub same_is_right : (t : List ℕ) (w : Network) → Drawn d t w → check_of x t ≡ checks.same → Computes d w
  pub right_is_same : (t : List ℕ) (w : Network) → Drawn d t w → Computes d w → check_of x t ≡ checks.same
