-- `offending`: the outputs that were asked keep within their widths. Assumes nothing.
use Rattle.checker.proofs.LimitsLaws.{Kept}
use Rattle.checker.proofs.offending.Given as goal

abbrev pub invariant-loop-o : goal.invariant-loop-o
invariant-loop-o l = Kept l.luts l.reads l.widths l.o
