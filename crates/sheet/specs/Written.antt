-- How a sheet writes a design: as its print, but that the `bound` line may have its names in another spelling than the `in`
-- line (clauses 4.9 and 14.10). Assumes nothing.
use Rattle.std.specs.Prelude.{◌≡◌, true, List, ℕ, ◌≤◌, length}
use Rattle.limits.specs.Limits.{max_sheet}
use Rattle.names.specs.Name.{Name}
use Rattle.names.specs.Spelled.{same_names}
use Rattle.sheet.specs.Examine.{Design, with_bound}
use Rattle.sheet.specs.WellFormed.{WellFormed}
use Rattle.sheet.specs.Printer.{print_design}

-- the sheet s writes the design d, with the names `written` on its `bound` line
pub record Writes (s : List ℕ) (d : Design) : Type 0 where
  pub well_formed : WellFormed d
  pub written : List Name
  pub same-bound : same_names d.bound written ≡ true
  pub is_print : s ≡ print_design (with_bound d written)
  pub fits : length s ≤ max_sheet
