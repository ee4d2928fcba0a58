-- `step`: the sum fits, and the rest is the definition. Assumes nothing.
use mathlib.Core.Path.{refl}
use native.Mathlib.Omega.{arith}
use lib.Bits.{or_lt}
use Rattle.limits.specs.Limits.{max_inputs}
use Rattle.rows.specs.Step.{stepped}
use Rattle.rows.proofs.step.Goals as goal

pub overflow_add-result : goal.overflow_add-result
overflow_add-result c = let args = c.args in
    record { fits = omega (arith, or_lt max_inputs args.r args.bound c.requires.0 c.requires.1) }

pub returns : goal.returns
unfolding stepped
returns c = refl
