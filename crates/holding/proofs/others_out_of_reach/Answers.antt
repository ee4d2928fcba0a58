use Rattle.holding.proofs.others_out_of_reach.Goals as goal

pub returns-then-out_of_reach : goal.returns-then-out_of_reach
returns-then-out_of_reach c = let p = c.lowest-p.result in
    let r = c.out_of_reach.ensures c.if-out_of_reach.true in
    λ e. (r.0, (p, c.lacks-a.result.total, c.lacks-a.result.news, c.lacks-a.ensures, r.1))
