use Rattle.readers.specs.MasksLaws.{seen_more, seen_all}
use Rattle.readers.proofs.shared.Goals as goal

pub loop-o-preserved : goal.loop-o-preserved
loop-o-preserved c = seen_more c.args.rows c.loop-o.o c.loop-o.once c.loop-o.many c.loop-o.invariant

pub returns : goal.returns
returns c = let a = c.args in
    seen_all a.rows a.j c.loop-o.o c.loop-o.once c.loop-o.many c.loop-o-test.false c.requires.1 c.loop-o.invariant
