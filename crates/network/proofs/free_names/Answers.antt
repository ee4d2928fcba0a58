use Rattle.std.proofs.Common.{◌≤◌, ◌∙◌, ap, not, arith, length, take}
use Rattle.network.specs.FreeNameLaws.{freeing_none, freeing_bound, freeing_free, freeing_all}
use Rattle.network.proofs.free_names.Goals as goal
use Rattle.network.proofs.free_names.Goals.{then-is_none, else-is_none}

pub loop-i-init : goal.loop-i-init
loop-i-init c = freeing_none _ _ _ c.no_names-r.ensures.0 c.no_names-r.ensures.1

pub loop-i-preserved : goal.loop-i-preserved
loop-i-preserved c =
    let vs = take c.args.bs.count c.args.bs.list in
    let few : c.args.n ≤ length c.args.names = omega (arith, c.requires.0) in
    elim c.if-is_none.branch [
      | then-is_none w ↦ rw w.r-is
          (freeing_free vs c.loop-i.invariant (omega arith) few c.find.result c.find.ensures (c.is_none.ensures ∙ ap not w.if-is_none.true)
          w.pushed-r.ensures.0 w.pushed-r.ensures.1)
      | else-is_none w ↦ rw w.r-is
          (freeing_bound vs c.loop-i.invariant (omega arith) few c.find.result c.find.ensures (c.is_none.ensures ∙ ap not w.if-is_none.false))
    ]

pub returns : goal.returns
returns c = freeing_all c.loop-i.invariant (omega arith)
