-- `cellmapper_table`: what Table answers, reported. Assumes nothing.
use Rattle.std.proofs.Common.{ap, ◌∙◌}
use Rattle.design.specs.Tabulate.{Tabulated}
use Rattle.reports.specs.Report.{table_report}
use Rattle.cellmapper.proofs.cellmapper_table.Goals as goal

pub returns : goal.returns
returns c = let t = c.table.ensures in
    record {
      written_after = c.tell_table.ensures ∙ ap (λ (t : Tabulated). table_report t.answer) t;
      buffer_after = ap (λ (t : Tabulated). t.buffer) t;
    }
