-- An output's value on a row, as its formula's operators define it (clause 5.6). Assumes nothing.
use Rattle.std.specs.Prelude.{Bool, false, [], ℕ, get_or}
use Rattle.formula.specs.Tree.{Formula, constant}
use Rattle.formula.specs.Value.{value, on_row}
use Rattle.sheet.specs.Examine.{Design}

-- output o's formula
abbrev pub formula_of : Design → ℕ → Formula
formula_of d o = (get_or d.outputs o (record { name = []; formula = constant false })).formula

-- output o's value on row r
unfoldable pub output_on : Design → ℕ → ℕ → Bool
output_on d o r = value (on_row d.inputs r) (formula_of d o)
