-- `node_head`: each part where the one before ends. Assumes nothing.
use Rattle.names.specs.Pack.{name_of}
use Rattle.network.specs.HeadLaws.{node_no_word, node_no_name, node_list}
use Rattle.network.proofs.node_head.Goals as goal

pub returns-in_err-a : goal.returns-in_err-a
returns-in_err-a c =
    rw c.from_residual.ensures (node_no_word c.args.l.now (name_of c.args.name) (rw c.start.ensures at c.in_err-a.ensures))

pub name_at-requires : goal.name_at-requires
name_at-requires c = c.in_ok-a.ensures.inside

pub returns-in_err-b : goal.returns-in_err-b
returns-in_err-b c =
    rw c.from_residual-in_err-b.ensures (node_no_name c.args.l.now (name_of c.args.name) (rw c.start.ensures at c.in_ok-a.ensures) c.in_err-b.ensures)

pub text-requires-2 : goal.text-requires-2
text-requires-2 c = c.in_ok-b.ensures.inside

pub returns : goal.returns
returns c =
    node_list c.args.l.now (name_of c.args.name) (rw c.start.ensures at c.in_ok-a.ensures) c.in_ok-b.ensures c.text-2.result c.text-2.ensures
