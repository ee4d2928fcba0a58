use Rattle.cache.specs.CacheLaws.{barred_among}
use Rattle.problem.specs.Problem.{item}
use Rattle.cache.proofs.known_bad.Goals as goal

pub returns-then-is_bad : goal.returns-then-is_bad
returns-then-is_bad c = λ cl given kn val v free s e.
    let a = c.args in
    barred_among cl given kn val v _ a.among (item a.rows) (c.between.ensures c.if-between.true)
    (c.question.ensures.barred cl given kn val v free (c.is_bad.ensures cl given kn val v s c.if-is_bad.true))
