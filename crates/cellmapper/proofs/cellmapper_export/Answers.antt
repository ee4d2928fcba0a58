-- `cellmapper_export`: what Export answers, reported. Assumes nothing.
use Rattle.std.proofs.Common.{ap, ◌∙◌}
use Rattle.blif.specs.Export.{Exported}
use Rattle.reports.specs.Report.{export_report}
use Rattle.cellmapper.proofs.cellmapper_export.Goals as goal

pub returns : goal.returns
returns c = let exported = c.export.ensures in
    record {
      length_after = c.report_export-r.ensures ∙ ap (λ (e : Exported). export_report e.answer) exported;
      buffer_after = ap (λ (e : Exported). e.buffer) exported;
    }
