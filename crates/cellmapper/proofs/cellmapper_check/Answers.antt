-- `cellmapper_check`: what Check answers, reported. Assumes nothing.
use Rattle.std.proofs.Common.{ap, ◌∙◌}
use Rattle.reports.specs.Report.{check_report}
use Rattle.cellmapper.proofs.cellmapper_check.Goals as goal

pub returns : goal.returns
returns c = c.tell_check.ensures ∙ ap check_report c.check.ensures
