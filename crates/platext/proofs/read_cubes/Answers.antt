use Rattle.std.proofs.Common.{sym, ◌∙◌}
use Rattle.platext.specs.CubesLaws.{no_line_here, no-cube-here, one-more-cube, last-here}
use Rattle.platext.proofs.Refused.{refused}
use Rattle.platext.proofs.read_cubes.Goals as goal

pub returns-in_err-e : goal.returns-in_err-e
returns-in_err-e c =
    let line = c.in_err-e.ensures in
    λ h f. rw (refused _ _ _ c.from_residual.ensures.1 (rw line.ok_part at line.value))
    (no_line_here _ _ _ _ c.loop-e.invariant c.args.p (rw line.ok_part at c.next_line.ensures) h f)

pub returns-then-equal : goal.returns-then-equal
returns-then-equal c =
    let line = rw c.in_ok-e.ensures.ok_part at c.next_line.ensures in
    λ h f. last-here _ _ _ _ c.loop-e.invariant line c.args.p h f c.at_last.ensures (sym c.equal.ensures ∙ c.if-equal.true)

pub returns-then-not-is_cube : goal.returns-then-not-is_cube
returns-then-not-is_cube c =
    let line = rw c.in_ok-e.ensures.ok_part at c.next_line.ensures in
    no-cube-here _ _ _ _ c.loop-e.invariant line c.args.p (sym c.equal.ensures ∙ c.if-equal.false) (sym c.is_cube.ensures ∙ c.if-not-is_cube.true)

pub loop-e-preserved : goal.loop-e-preserved
loop-e-preserved c =
    let line = rw c.in_ok-e.ensures.ok_part at c.next_line.ensures in
    one-more-cube _ _ _ _ c.loop-e.invariant line (sym c.equal.ensures ∙ c.if-equal.false) (sym c.is_cube.ensures ∙ c.if-not-is_cube.false)
