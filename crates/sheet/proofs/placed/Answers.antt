use Rattle.std.proofs.Common.{[], ◌∷◌, refl}
use Rattle.sheet.specs.PlaceLaws.{placed_none, place_missing, placed_more, placed_all}
use Rattle.sheet.proofs.placed.Goals as goal

pub loop-i-init : goal.loop-i-init
loop-i-init c = placed_none c.args.ns.now c.args.inputs.now (0 ∷ 0 ∷ 0 ∷ 0 ∷ 0 ∷ []) refl

pub returns-in_err-list : goal.returns-in_err-list
returns-in_err-list c = rw c.from_residual.ensures (place_missing c.loop-i.invariant c.loop-i-test.true c.in_err-list.ensures)

pub loop-i-preserved : goal.loop-i-preserved
loop-i-preserved c = placed_more c.loop-i.invariant c.loop-i-test.true c.in_ok-list.field-0 c.in_ok-list.ensures c.requires

pub returns : goal.returns
returns c = placed_all c.loop-i.invariant c.loop-i-test.false
