use Rattle.std.proofs.Common.{arith}
use Rattle.border.proofs.report.Goals as goal

pub solve-a-requires : goal.solve-a-requires
solve-a-requires c = let k = c.kept-kept.ensures in
    let q = c.asked-whole.ensures in (
      c.requires.0,
      k.classes,
      c.given-tables.ensures,
      q.0,
      k.few,
      q.2,
      q.3,
      q.1,
      (λ o h. let b = k.below o h in let f = k.few in omega arith),
      c.recall.ensures c.asked-whole.result.kn c.asked-whole.result.val,
    )
