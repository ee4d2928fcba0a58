-- `put_node_lines`: the plan is taken apart for `put_nodes`, with the vertices' and the free rows' own parts of the arrays. Assumes nothing.
use Rattle.writer.specs.Plans.{node_lines}
use Rattle.writer.proofs.put_node_lines.Goals as goal

pub returns : goal.returns
unfolding node_lines
returns c = c.put_nodes.ensures
