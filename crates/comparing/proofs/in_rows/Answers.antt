use Rattle.std.proofs.Common.{arith, rules}
use Rattle.comparing.specs.FillingLaws.{filled_none, filled_more, filled_all, code_ready, vertex_room}
use Rattle.comparing.proofs.in_rows.Goals as goal

pub loop-x-init : goal.loop-x-init
loop-x-init c = filled_none (search rules)

pub code-c-requires : goal.code-c-requires
code-c-requires c = (c.requires.few_luts, λ i l. code_ready c.requires c.loop-x.x c.loop-x-test.true i l)

pub overflow_mul-c : goal.overflow_mul-c
overflow_mul-c c = omega (arith, (vertex_room c.requires c.loop-x.x c.code-c.result c.loop-x-test.true c.code-c.ensures).readable)

pub overflow_add-at : goal.overflow_add-at
overflow_add-at c = omega (arith, (vertex_room c.requires c.loop-x.x c.code-c.result c.loop-x-test.true c.code-c.ensures).readable)

pub put_vertex-requires : goal.put_vertex-requires
put_vertex-requires c = (
  c.loop-x.invariant.size,
  omega (arith, c.requires.few_vertices, c.loop-x-test.true),
  vertex_room c.requires c.loop-x.x c.code-c.result c.loop-x-test.true c.code-c.ensures,
)

pub loop-x-preserved : goal.loop-x-preserved
loop-x-preserved c = filled_more c.loop-x.x c.code-c.result c.loop-x.invariant c.code-c.ensures c.put_vertex.ensures

pub returns : goal.returns
returns c = filled_all c.loop-x.invariant c.loop-x.auto.x-end c.loop-x-test.false
