use Rattle.std.proofs.Common.{inr}
use Rattle.bits.specs.DigitLaws.{on_or_one, on_single}
use Rattle.border.specs.LineLaws.{off_first}
use Rattle.border.proofs.known_digits.Goals as goal

pub returns : goal.returns
returns c = inr (on_or_one c.loop-x.kn 1 0 (on_single 0), off_first c.loop-x.val)
