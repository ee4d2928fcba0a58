use Rattle.readingsets.specs.ChoiceLaws.{barred_alone}
use Rattle.problem.specs.Problem.{item}
use Rattle.readingsets.proofs.possible.Goals as goal

pub returns-then-not-possible : goal.returns-then-not-possible
returns-then-not-possible c = let a = c.args in
    let p = a.p in
    let none = c.possible.ensures (c.if-not-possible.true) p.kn p.val in
    λ e. barred_alone a.cl.now a.given.now p.kn p.val p.vertices a.done a.n c.with.result (item a.rows) c.with.ensures c.requires.4 none
