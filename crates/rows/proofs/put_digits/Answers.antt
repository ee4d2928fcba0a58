use mathlib.Core.Path.{ap, ◌∙◌}
use native.Mathlib.Omega.{arith}
use Rattle.std.proofs.Common.{length-take-le}
use Rattle.rows.specs.Digits.{digit}
use Rattle.rows.proofs.Put.{put_none, put_next, put_front}
use Rattle.rows.proofs.put_digits.Goals as goal

pub loop-r-init : goal.loop-r-init
loop-r-init c = put_none _ _ _

pub loop-r-preserved : goal.loop-r-preserved
loop-r-preserved c = put_next c.loop-r.invariant (omega (arith, length-take-le c.args.n c.args.buf.now c.requires.1)) (c.digit_of.ensures ∙ ap digit c.row.ensures)

pub returns : goal.returns
returns c = put_front _ c.requires.1 c.loop-r.invariant c.loop-r-test.false
