use borrow.Author.Rules.{rules}
use Rattle.numbering.specs.NumberLaws.{finished_start, finished_more, crowded}
use Rattle.numbering.proofs.finish.Goals as goal

pub loop-o-init : goal.loop-o-init
loop-o-init c = let a = c.args in finished_start a.cl.now a.p.ms a.p.ps a.p.vertices a.codes (search rules)

pub returns-in_err-r : goal.returns-in_err-r
returns-in_err-r c = let a = c.args in
    let p = a.p in
    let b = c.in_err-r.ensures in
    rw c.from_residual.ensures (
    λ base spots dom kn val k. crowded a.cl.now base p.ms p.caps spots p.vertices p.outputs c.loop-o.o kn val a.codes dom c.numbers-nums.result b.0
    c.loop-o-test.true b.1 c.requires.4 b.2 c.numbers-nums.ensures)

pub loop-o-preserved : goal.loop-o-preserved
loop-o-preserved c = let a = c.args in
    let p = a.p in
    finished_more a.cl.now p.ms p.ps p.caps p.vertices p.outputs c.requires.3 c.loop-o.o a.codes c.numbers-nums.result c.loop-o.r _ c.loop-o-test.true
    c.numbers-nums.ensures c.in_ok-r.ensures c.loop-o.invariant
