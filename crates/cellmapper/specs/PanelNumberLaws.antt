-- A panel is refused by 1 to 14. Assumes nothing.
use Rattle.std.specs.Prelude.{List, ℕ}
use Rattle.panel.specs.Examine.{examine}
use Rattle.panel.specs.DesignLaws.{panel_refused}
use Rattle.reports.specs.Numbers.{panel_numbers}
use Rattle.reports.specs.NumberLaws.{Within}

pub panel_number : (p b : List ℕ) → Within panel_numbers (examine p b)
panel_number p b q l e =
    let h = panel_refused p b q l e in
    record { low = h.at_least_one; high = h.at_most_fourteen }
