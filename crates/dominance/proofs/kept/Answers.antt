use Rattle.dominance.specs.DominanceLaws.{chosen_stand_for}
use Rattle.dominance.proofs.kept.Goals as goal

pub chosen-c-requires : goal.chosen-c-requires
chosen-c-requires c = let p = c.requires in (p.0, p.1, p.2)

pub labels-labels-requires : goal.labels-labels-requires
labels-labels-requires c = (c.requires.0.long, c.chosen-c.ensures.indices)

pub picked-budgets-requires : goal.picked-budgets-requires
picked-budgets-requires c = c.chosen-c.ensures.indices

pub returns : goal.returns
returns c = let a = c.args in
    let p = c.requires in
    let r = c.chosen-c.result in
    chosen_stand_for a.cl.now a.budgets a.v a.m r.count r.from r.by c.labels-labels.result c.picked-budgets.result p.0 p.1 c.chosen-c.ensures c.labels-labels.ensures c.picked-budgets.ensures
