-- `pose`: what the classes of the design's rows come to, where there are few enough. Assumes nothing.
use Rattle.classes.specs.ShapeLaws.{proper_counts}
use Rattle.mapper.specs.PosedLaws.{budgets_ready, poses, poses_none}
use Rattle.mapper.proofs.pose.Goals as goal

pub classes_of-c-requires : goal.classes_of-c-requires
classes_of-c-requires c = let pre = c.requires in
    proper_counts pre.design c.args.k pre.holds pre.proper

pub returns-then-c-gt-MAX_CLASSES : goal.returns-then-c-gt-MAX_CLASSES
returns-then-c-gt-MAX_CLASSES c = λ d h p.
    poses_none d c.args.k h c.classes_of-c.result (c.classes_of-c.ensures d h p) c.if-c-gt-MAX_CLASSES.true

pub budgets-requires : goal.budgets-requires
budgets-requires c = let pre = c.requires in
    let q = c.classes_of-c.ensures pre.design pre.holds pre.proper in
    budgets_ready pre.design c.args.k pre.holds c.classes_of-c.result q

pub returns : goal.returns
returns c = λ d h p.
    poses d c.args.k h c.classes_of-c.result (c.classes_of-c.ensures d h p) c.labels.result c.budgets.result
    c.if-c-gt-MAX_CLASSES.false c.labels.ensures c.budgets.ensures
