-- What a caller in C is told of each answer (clause 15.2): the refusal's number, 0 where no question was answered "no", and beside
-- it a value for each out-parameter, 0 where it does not apply. Assumes nothing.
use Rattle.std.specs.Prelude.{◌≡◌, List, ℕ}
use Rattle.std.proofs.Math.ListN as lists
use Rattle.bits.specs.Logic.{pick}
use Rattle.sheet.specs.Examine.{Examined}
use Rattle.design.specs.Tabulate as table
use Rattle.design.specs.Tabulate.{TableAnswer}
use Rattle.mapper.specs.Map as map
use Rattle.mapper.specs.Map.{MapAnswer, OutcomeOf}
use Rattle.mapper.specs.Cause as cause
use Rattle.mapper.specs.Cause.{CauseAnswer, CauseOf}
use Rattle.network.specs.Check as check
use Rattle.network.specs.Check.{Checked}
use Rattle.blif.specs.Export as blif
use Rattle.blif.specs.Export.{ExportAnswer}
use Rattle.locate.specs.Located.{Part}
use Rattle.reports.specs.declared.TableReport.{TableReport}
use Rattle.reports.specs.declared.MapReport.{MapReport}
use Rattle.reports.specs.declared.CheckReport.{CheckReport}
use Rattle.reports.specs.declared.ExportReport.{ExportReport}

abbrev pub table_report : TableAnswer → TableReport
table_report (table.refused_by q l) = record { number = q; line = l; written = 0 }
table_report (table.written n) = record { number = 0; line = 0; written = n }

abbrev pub map_report : MapAnswer → MapReport
map_report (map.refused_by q l) = record { number = q; line = l; cells = 0; length = 0 }
map_report (map.mapped u n) = record { number = 0; line = 0; cells = u; length = n }

abbrev pub check_report : Checked → CheckReport
check_report (check.refused_by q l) = record { number = q; line = l; differs = 0; output = 0; row = 0 }
check_report check.same = record { number = 0; line = 0; differs = 0; output = 0; row = 0 }
check_report (check.differs o r) = record { number = 0; line = 0; differs = 1; output = o; row = r }

abbrev pub export_report : ExportAnswer → ExportReport
export_report (blif.refused_by q l) = record { number = q; line = l; length = 0 }
export_report (blif.written n) = record { number = 0; line = 0; length = n }

-- one of Map's outcomes on what an examination answers and the buffer b, which is b' afterwards, and the report of its answer
pub record ReportedMap (x : Examined) (b : List ℕ) (r : MapReport) (b' : List ℕ) : Type 0 where
  pub answer : MapAnswer
  pub outcome : OutcomeOf x b answer b'
  pub reported : r ≡ map_report answer

-- what is told of a cause: its outputs, output o where digit o is 1; 0 where there is none
abbrev pub cause_report : CauseAnswer → ℕ
cause_report cause.no_cause = 0
cause_report (cause.outputs_of s) = s

-- the cause on what an examination answers, and what is told of it
pub record ReportedCause (x : Examined) (n : ℕ) : Type 0 where
  pub answer : CauseAnswer
  pub caused : CauseOf x answer
  pub reported : n ≡ cause_report answer

-- what is told of a refusal's line: 0 for a part of the design sheet and 1 for one of the network sheet, where it starts and how
-- many bytes it has; there is nothing to refuse
pub record LineReport : Type 0 where
  pub number : ℕ
  pub second : ℕ
  pub start : ℕ
  pub length : ℕ

abbrev pub line_report : Part → LineReport
line_report p = record { number = 0; second = pick p.second 1 0; start = p.start; length = lists.length p.text }
