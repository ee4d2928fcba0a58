use mathlib.Core.Path.{sym}
use native.Mathlib.Omega.{arith}
use Rattle.classes.proofs.Outputs.{outlined_none, outlined_more, outlined_all, few_classes, output_keyable, keys_part}
use Rattle.classes.proofs.Outputs.{vertex_part_lem, free_part_lem, few_part, parts_inside}
use Rattle.classes.proofs.classes_of.Goals as goal

pub loop-o-init : goal.loop-o-init
loop-o-init c = outlined_none c.shape_of-shape.ensures _

pub slice_bounds-local_classes-end : goal.slice_bounds-local_classes-end
slice_bounds-local_classes-end c = sym (vertex_part_lem c.shape_of-shape.ensures)

pub slice_bounds-local_classes-end-in-loop-o : goal.slice_bounds-local_classes-end-in-loop-o
slice_bounds-local_classes-end-in-loop-o c = sym (free_part_lem c.shape_of-shape.ensures)

pub local_classes-l-requires : goal.local_classes-l-requires
local_classes-l-requires c = (parts_inside c.shape_of-shape.ensures, few_part c.shape_of-shape.ensures)

pub with_output-keys-requires : goal.with_output-keys-requires
with_output-keys-requires c = (
  c.shape_of-shape.ensures.few_vertices,
  output_keyable c.shape_of-shape.ensures c.requires.few_outputs c.loop-o.invariant (omega arith)
      c.local_classes-l.result c.local_classes-l.ensures,
)

pub width-requires : goal.width-requires
width-requires c = few_classes c.shape_of-shape.ensures c.requires.few_outputs c.loop-o.invariant (omega arith)
    c.local_classes-l.result c.local_classes-l.ensures

pub loop-o-preserved : goal.loop-o-preserved
loop-o-preserved c = outlined_more c.shape_of-shape.ensures c.requires.few_outputs c.loop-o.invariant (omega arith)
    c.local_classes-l.result c.local_classes-l.ensures c.with_output-keys.result
    c.width.result c.with_output-keys.ensures c.width.ensures.0 c.width.ensures.1

pub slice_bounds-global_classes-end : goal.slice_bounds-global_classes-end
slice_bounds-global_classes-end c = sym (keys_part c.shape_of-shape.ensures c.loop-o.invariant)

pub global_classes-globals-requires : goal.global_classes-globals-requires
global_classes-globals-requires c = (let a = keys_part c.shape_of-shape.ensures c.loop-o.invariant in let b = c.shape_of-shape.ensures.few_vertices in omega arith)

pub returns : goal.returns
returns c = outlined_all c.shape_of-shape.ensures c.loop-o.invariant (omega arith) c.global_classes-globals.result
    c.global_classes-globals.ensures
