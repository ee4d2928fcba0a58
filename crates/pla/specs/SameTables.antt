-- Two designs with the same tables, whatever their formulas (clause 14.9): they get the same answers of Table, Map and Check, and
-- a refusal by 8 has the same cause. Assumes nothing.
use Rattle.std.specs.Prelude.{◌≡◌, List, ℕ, ◌^◌, ◌<◌, length}
use Rattle.sheet.specs.Examine.{Design, Examined, output_names}
use Rattle.sheet.specs.Value.{output_on}
use Rattle.design.specs.Tabulate.{table_of}
use Rattle.network.specs.Check.{check_of}
use Rattle.mapper.specs.Map.{MapAnswer, OutcomeOf}
use Rattle.mapper.specs.Cause.{CauseAnswer, CauseOf}

-- they have the same names and the same limit, and the same value of each output on each row
pub record SameTables (d e : Design) : Type 0 where
  pub same_inputs : d.inputs ≡ e.inputs
  pub same-bound : d.bound ≡ e.bound
  pub same_limit : d.limit ≡ e.limit
  pub same_outputs : output_names d.outputs ≡ output_names e.outputs
  pub same_values : (o r : ℕ) → o < length d.outputs → r < 2 ^ length d.inputs → output_on d o r ≡ output_on e o r

-- Table, Map and Check answer the same on what two examinations answer, and a refusal by 8 has the same cause
pub record SameAnswers (x y : Examined) : Type 0 where
  pub table_same : (o : ℕ) (b : List ℕ) → table_of x o b ≡ table_of y o b
  pub map_there : (b : List ℕ) (a : MapAnswer) (b' : List ℕ) → OutcomeOf x b a b' → OutcomeOf y b a b'
  pub map_back : (b : List ℕ) (a : MapAnswer) (b' : List ℕ) → OutcomeOf y b a b' → OutcomeOf x b a b'
  pub cause_there : (a : CauseAnswer) → CauseOf x a → CauseOf y a
  pub cause_back : (a : CauseAnswer) → CauseOf y a → CauseOf x a
  pub check_same : (t : List ℕ) → check_of x t ≡ check_of y t
