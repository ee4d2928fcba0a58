use mathlib.Core.Path.{refl}
use native.Mathlib.Omega.{arith}
use borrow.Author.Rules.{rules}
use Rattle.classes.proofs.Keys.{joining_none, joining_more, joining_all, key-small}
use Rattle.classes.proofs.with_output.Goals as goal

pub loop-x-init : goal.loop-x-init
loop-x-init c = joining_none (search rules)

pub overflow_mul-list : goal.overflow_mul-list
overflow_mul-list c = omega (arith, (key-small c.loop-x.invariant c.requires.1 (omega arith)).0)

pub overflow_add-list : goal.overflow_add-list
overflow_add-list c = let small = key-small c.loop-x.invariant c.requires.1 (omega arith) in
    omega (arith, small.0, small.1)

pub loop-x-preserved : goal.loop-x-preserved
loop-x-preserved c = joining_more c.loop-x.invariant (omega arith) c.requires.0 refl

pub returns : goal.returns
returns c = joining_all c.loop-x.invariant (omega arith)
