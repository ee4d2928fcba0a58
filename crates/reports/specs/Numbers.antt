-- The numbers that refusals have: 1 to 11 for sheets, and 1 to 14 for a panel that arrives as PLA, so that 0 is free to say that no
-- question was answered "no". Assumes nothing.
use Rattle.std.specs.Prelude.{ℕ, ◌≤◌}
use Rattle.design.specs.Tabulate as table
use Rattle.design.specs.Tabulate.{TableAnswer}
use Rattle.mapper.specs.Map as map
use Rattle.mapper.specs.Map.{MapAnswer}
use Rattle.network.specs.Check as check
use Rattle.network.specs.Check.{Checked}
use Rattle.blif.specs.Export as blif
use Rattle.blif.specs.Export.{ExportAnswer}

abbrev pub sheet_numbers : ℕ
sheet_numbers = 11

abbrev pub panel_numbers : ℕ
panel_numbers = 14

pub record IsNumber (most q : ℕ) : Type 0 where
  pub low : 1 ≤ q
  pub high : q ≤ most

-- a refusal of each operation is by one of them
abbrev pub TableNumber : ℕ → TableAnswer → Type 0
TableNumber most (table.refused_by q l) = IsNumber most q
TableNumber most (table.written n) = Unit {0}

abbrev pub MapNumber : ℕ → MapAnswer → Type 0
MapNumber most (map.refused_by q l) = IsNumber most q
MapNumber most (map.mapped u n) = Unit {0}

abbrev pub CheckNumber : ℕ → Checked → Type 0
CheckNumber most (check.refused_by q l) = IsNumber most q
CheckNumber most check.same = Unit {0}
CheckNumber most (check.differs o r) = Unit {0}

abbrev pub ExportNumber : ℕ → ExportAnswer → Type 0
ExportNumber most (blif.refused_by q l) = IsNumber most q
ExportNumber most (blif.written n) = Unit {0}
