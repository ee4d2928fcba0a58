use Rattle.dominance.specs.DominanceLaws.{taken_classes}
use Rattle.unserved.specs.QuestionLaws.{kept_stand}
use Rattle.unserved.specs.MemberLaws.{lists_indices, lists_most, of_members}
use Rattle.unserved.proofs.kept_of.Goals as goal

pub members-l-requires : goal.members-l-requires
members-l-requires c = c.requires.2

pub labels-labels-requires : goal.labels-labels-requires
labels-labels-requires c = let a = c.args in
    let p = c.requires in
    (p.0.long, lists_indices a.m a.set c.members-l.result.count c.members-l.result.from c.members-l.ensures)

pub picked-taken-requires : goal.picked-taken-requires
picked-taken-requires c = let a = c.args in
    lists_indices a.m a.set c.members-l.result.count c.members-l.result.from c.members-l.ensures

pub kept-requires : goal.kept-requires
kept-requires c = let a = c.args in
    let p = c.requires in
    let f = lists_indices a.m a.set c.members-l.result.count c.members-l.result.from c.members-l.ensures in
    let l = c.members-l.result in
    (taken_classes a.cl.now l.from c.labels-labels.result c.labels-labels.ensures p.0 f, p.1, lists_most a.m a.set l.count l.from p.2 c.members-l.ensures)

pub returns : goal.returns
returns c = let a = c.args in
    let p = c.requires in
    let l = c.members-l.result in
    kept_stand a.cl.now a.budgets a.v a.m a.set l.count c.labels-labels.result c.picked-taken.result
    (of_members a.cl.now a.budgets a.v a.m a.set l.count l.from c.labels-labels.result c.picked-taken.result p.1 p.2 c.members-l.ensures c.labels-labels.ensures c.picked-taken.ensures)
    c.kept.result.labels c.kept.result.budgets c.kept.result.outputs c.kept.result.by c.kept.ensures
