use mathlib.Core.Path.{refl}
use Rattle.readers.specs.GroupsLaws.{grouping_start, grouping_same, grouping_more}
use Rattle.readers.proofs.groups.Goals as goal
use Rattle.readers.proofs.groups.Goals.{then-n-lt-GROUPS+then-useful, else-n-lt-GROUPS}

pub loop-i-init : goal.loop-i-init
loop-i-init c = grouping_start c.args.rows c.args.sh c.args.j

pub loop-i-preserved : goal.loop-i-preserved
loop-i-preserved c =
    let a = c.args in
    let old = c.loop-i.invariant in
    elim c.if-n-lt-GROUPS.branch [
      | then-n-lt-GROUPS+then-useful w ↦
          let u = w.useful.ensures w.if-useful.true in
          let one = grouping_more a.rows c.loop-i.gs a.sh a.j c.loop-i.done c.loop-i.n _ c.twins.result w.if-n-lt-GROUPS.true c.requires.1 refl u.0 u.1 old in
          grouping_same a.rows _ c.if-n-lt-GROUPS.gs a.sh a.j _ c.if-n-lt-GROUPS.done w.gs-is w.done-is one
      | else-n-lt-GROUPS w ↦ grouping_same a.rows c.loop-i.gs c.if-n-lt-GROUPS.gs a.sh a.j c.loop-i.done c.if-n-lt-GROUPS.done w.gs-is w.done-is old
    ]
