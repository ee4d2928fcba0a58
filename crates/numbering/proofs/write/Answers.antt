use native.Mathlib.Omega.{arith}
use borrow.Author.Rules.{rules}
use Rattle.numbering.specs.NumberLaws.{wrote-start, wrote_more}
use Rattle.numbering.proofs.write.Goals as goal

pub loop-x-init : goal.loop-x-init
loop-x-init c = wrote-start c.args.nums c.args.p c.args.cap c.args.codes (search rules)

pub returns-then-cap-n : goal.returns-then-cap-n
returns-then-cap-n c = (c.loop-x.x, c.loop-x-test.true, c.if-cap-n.true)

pub loop-x-preserved : goal.loop-x-preserved
loop-x-preserved c = let a = c.args in
    let h = c.loop-x-test.true in
    let few = c.requires in
    wrote_more a.nums a.p a.cap c.loop-x.x a.codes c.loop-x.r c.spread.result (omega arith) c.ranges.p.fits c.if-cap-n.false c.spread.ensures c.loop-x.invariant
