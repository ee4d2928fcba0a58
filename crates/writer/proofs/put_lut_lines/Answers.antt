-- `put_lut_lines`: the plan is taken apart for `put_luts`. Assumes nothing.
use Rattle.writer.specs.Plans.{lut_lines}
use Rattle.writer.proofs.put_lut_lines.Goals as goal

pub returns : goal.returns
unfolding lut_lines
returns c = c.put_luts.ensures
