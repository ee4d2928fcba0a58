use Rattle.std.proofs.Common.{◌≡◌, ◌≤◌, ◌∙◌, Bool, true, false, refl, arith}
use Rattle.std.specs.Int.{from_bool}
use Rattle.bits.specs.Logic.{bit}
use Rattle.classes.proofs.Rows.{gather_none, gather_more, gather_all, gather_small}
use Rattle.classes.proofs.gather.Goals as goal

as_bit : (b : Bool) → from_bool b ≡ bit b
as_bit true = refl
as_bit false = refl

few_bit : (b : Bool) → from_bool b ≤ 1
few_bit true = omega arith
few_bit false = omega arith

pub loop-k-init : goal.loop-k-init
loop-k-init c = gather_none c.args.digits.now c.args.z

pub overflow_mul-r : goal.overflow_mul-r
overflow_mul-r c = omega (arith, gather_small c.args.digits.now c.args.z c.loop-k.k-index c.requires.0, c.loop-k.invariant)

pub overflow_add-r : goal.overflow_add-r
overflow_add-r c =
    omega (arith, gather_small c.args.digits.now c.args.z c.loop-k.k-index c.requires.0, c.loop-k.invariant, c.from.ensures, few_bit c.has.result)

pub loop-k-preserved : goal.loop-k-preserved
loop-k-preserved c =
    gather_more c.args.digits.now c.args.z c.loop-k.k-index c.loop-k.r c.from.result
    c.has.result (omega arith) c.loop-k.invariant c.has.ensures (c.from.ensures ∙ as_bit c.has.result)

pub returns : goal.returns
returns c = c.loop-k.invariant ∙ gather_all c.args.digits.now c.args.z c.loop-k.k-index (omega arith)
