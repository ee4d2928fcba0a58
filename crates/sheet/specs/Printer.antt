-- How a whole design sheet is written, line after line (clause 4.1). Assumes nothing.
use Rattle.std.specs.Prelude.{List, [], ◌∷◌, ◌++◌, map, ℕ}
use Rattle.text.specs.Line.{ended_lines}
use Rattle.sheet.specs.Lines.{design_line, end_line, print_in, print_bound, print_limit, print_out}
use Rattle.sheet.specs.Examine.{Design}

-- all lines of a design sheet
unfoldable pub design_lines : Design → List (List ℕ)
design_lines d =
    design_line
    ∷ print_in d.inputs
    ∷ print_bound d.bound
    ∷ print_limit d.limit
    ∷ (map print_out d.outputs ++ (end_line ∷ []))

unfoldable pub print_design : Design → List ℕ
print_design d = ended_lines (design_lines d)
