use Rattle.std.proofs.Common.{List, ℕ, ◌+◌, ◌<◌, length, refl, sym, ◌∙◌, arith}
use Rattle.panel.specs.Held.{CubesStand}
use Rattle.panel.specs.PassLaws.{cube_there}
use Rattle.panel.specs.MarkLaws.{MarksFrom, marks_start, mark_found, marks_more, marks_none}
use Rattle.panel.proofs.other_mark.Goals as goal

-- the next cube stands in the text
room : {s : List ℕ} {i o first cubes at k : ℕ} → CubesStand s i o first cubes → MarksFrom s i o first cubes at k → k < cubes
    → at + (i + 1 + o) < length s
room r f l = (cube_there f.cubes_from l r.list r.end r.stand r.counted).inside

pub loop-k-init : goal.loop-k-init
loop-k-init c = marks_start _ _ _ _ _

pub overflow_add-m : goal.overflow_add-m
overflow_add-m c = omega (arith, room c.requires c.loop-k.invariant c.loop-k-test.true)

pub overflow_add-m-in-loop-k : goal.overflow_add-m-in-loop-k
overflow_add-m-in-loop-k c = omega (arith, room c.requires c.loop-k.invariant c.loop-k-test.true)

pub overflow_add-e : goal.overflow_add-e
overflow_add-e c = omega (arith, room c.requires c.loop-k.invariant c.loop-k-test.true)

pub slice_bounds-zeros_and_ones-end : goal.slice_bounds-zeros_and_ones-end
slice_bounds-zeros_and_ones-end c = omega (arith, room c.requires c.loop-k.invariant c.loop-k-test.true)

pub overflow_add-result : goal.overflow_add-result
overflow_add-result c = omega (arith, room c.requires c.loop-k.invariant c.loop-k-test.true, c.loop-k.invariant.cubes_from.apart)

pub returns-then-not-zeros_and_ones : goal.returns-then-not-zeros_and_ones
returns-then-not-zeros_and_ones c = mark_found _ _ _ _ _ _ _ c.loop-k.invariant c.loop-k-test.true _ _ refl refl (sym c.if-not-zeros_and_ones.true ∙ c.zeros_and_ones.ensures)

pub overflow_add-at : goal.overflow_add-at
overflow_add-at c = omega (arith, room c.requires c.loop-k.invariant c.loop-k-test.true)

pub loop-k-preserved : goal.loop-k-preserved
loop-k-preserved c = marks_more _ _ _ _ _ _ _ c.loop-k.invariant c.loop-k-test.true _ _ refl refl (sym c.if-not-zeros_and_ones.false ∙ c.zeros_and_ones.ensures)

pub returns : goal.returns
returns c = marks_none _ _ _ _ _ _ _ c.loop-k.invariant c.loop-k-test.false
