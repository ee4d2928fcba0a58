use native.Mathlib.Omega.{arith}
use mathlib.Core.Path.{refl}
use Rattle.numbering.specs.NumberLaws.{numbered_more, numbered-start}
use Rattle.numbering.proofs.numbers.Goals as goal

pub loop-x-init : goal.loop-x-init
loop-x-init c = numbered-start c.args.cl.now c.args.codes c.args.o c.args.mask _ refl

pub loop-x-preserved : goal.loop-x-preserved
loop-x-preserved c = let a = c.args in
    let h = c.loop-x-test.true in
    let few = c.requires.2 in
    numbered_more a.cl.now a.codes a.o a.mask c.loop-x.x c.loop-x.nums c.number.result (omega arith) c.number.ensures c.loop-x.invariant
