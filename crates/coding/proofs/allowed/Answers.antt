use Rattle.coding.specs.ValuesLaws.{canon_start, canon_more}
use Rattle.coding.proofs.allowed.Goals as goal

pub loop-k-init : goal.loop-k-init
loop-k-init c = λ gs sh o b g m. canon_start gs c.args.used sh c.args.all o g

pub loop-k-preserved : goal.loop-k-preserved
loop-k-preserved c = let used = c.args.used in
    λ gs sh o b g m. canon_more gs used sh c.loop-k.k c.loop-k.can c.fresh.result c.loop-k-test.true g m (c.fresh.ensures gs b) (c.loop-k.invariant gs sh o b g m)
