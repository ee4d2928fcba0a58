use Rattle.std.proofs.Common.{ℕ, ◌+◌, ◌<◌, List, refl, sym, subst, arith}
use Rattle.relation.specs.Refining.{Numbering}
use Rattle.relation.specs.RefiningLaws.{numbering_old, numbering_new}
use Rattle.relation.proofs.numbers.Goals as goal
use Rattle.relation.proofs.numbers.Goals.{then-y-x, else-y-x}

pub loop-x-preserved : goal.loop-x-preserved
loop-x-preserved c = let z = c.requires in
    let keys = c.args.keys in
    let l = c.loop-x in
    let b : l.x < 32 = omega arith in
    let f = c.first-y.ensures in
    let P : ℕ → List ℕ → Type 0 = Numbering keys (l.x + 1) in
    elim c.if-y-x.branch [
      | then-y-x w ↦ subst (P _) (sym w.r-is) (numbering_old keys l.x l.next l.r b l.invariant c.first-y.result _ _ f w.if-y-x.true refl w.next-is)
      | else-y-x w ↦ subst (P _) (sym w.r-is) (numbering_new keys l.x l.next l.r b l.invariant c.first-y.result _ _ f w.if-y-x.false refl w.next-is)
    ]
