-- `ask_node`: the node line of the output, or bad. Assumes nothing.
use Rattle.std.proofs.Common.{arith, length-take-le}
use Rattle.netsheet.specs.AskLaws.{safe_node, node_bad, node_good}
use Rattle.netsheet.proofs.ask_node.Goals as goal

pub read_node-requires : goal.read_node-requires
read_node-requires c =
    let count = length-take-le c.args.k.frees c.args.k.free (omega (arith, c.requires.0.few_free)) in
    (omega (arith, c.requires.0.few_free), c.requires.1)

pub overflow_add-at : goal.overflow_add-at
overflow_add-at c = record { fits = omega (arith, c.requires.3, c.in_ok-r.ensures.stands.stands.inside) }

pub returns-in_err-r : goal.returns-in_err-r
returns-in_err-r c = let a = c.args in
    rw c.from_residual.ensures (tt, λ t d w q n h here below. node_bad a.l.now t a.at d w a.k a.s q n h a.o here below c.in_err-r.ensures)

pub returns : goal.returns
returns c = let a = c.args in (
  safe_node a.s c.with_node.result _ _ _ _ c.with_node.ensures c.requires.1 c.requires.0.few_outputs,
  λ t d w q n h here below. node_good a.l.now t a.at d w a.k a.s q n h a.o here below c.with_node.result c.in_ok-r.ensures c.with_node.ensures
      (omega arith) (omega arith) c.requires.2,
)
