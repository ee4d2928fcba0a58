use Rattle.std.proofs.Common.{List, ℕ, ◌+◌, ◌<◌, length, drop, refl, arith}
use Rattle.sheet.specs.declared.Rows.{Rows}
use Rattle.platext.specs.declared.PlaText.{PlaText}
use Rattle.panel.specs.Held.{Readable}
use Rattle.panel.specs.PassLaws.{cube_there}
use Rattle.panel.specs.TableLaws.{TablesFrom, read_cubes, outputs_counted, part_few, tables_start, tables_more, tables_all}
use Rattle.panel.proofs.tables.Goals as goal

-- the next cube stands in the text
room : {s : List ℕ} {t : PlaText} {ts : List Rows} {at k : ℕ} → Readable s t
    → TablesFrom s t.inputs.count t.outputs.count t.first t.cubes ts at k → k < t.cubes
    → at + (t.inputs.count + 1 + t.outputs.count) < length s
room {s} {t} r f l =
    let w = read_cubes s r.text t r.read_as in
    (cube_there f.cubes_from l w.list w.end w.stand w.counted).inside

pub loop-cube-init : goal.loop-cube-init
loop-cube-init c = tables_start _ _ _ _ _ (outputs_counted _ _ c.requires)

pub overflow_add-m : goal.overflow_add-m
overflow_add-m c = omega (arith, room c.requires c.loop-cube.invariant c.loop-cube-test.true)

pub overflow_add-e : goal.overflow_add-e
overflow_add-e c = omega (arith, room c.requires c.loop-cube.invariant c.loop-cube-test.true)

pub overflow_add-e-in-loop-cube : goal.overflow_add-e-in-loop-cube
overflow_add-e-in-loop-cube c = omega (arith, room c.requires c.loop-cube.invariant c.loop-cube-test.true)

pub slice_bounds-covered-end : goal.slice_bounds-covered-end
slice_bounds-covered-end c = omega (arith, room c.requires c.loop-cube.invariant c.loop-cube-test.true)

pub overflow_add-m-in-loop-cube : goal.overflow_add-m-in-loop-cube
overflow_add-m-in-loop-cube c = omega (arith, room c.requires c.loop-cube.invariant c.loop-cube-test.true)

pub slice_bounds-add-end : goal.slice_bounds-add-end
slice_bounds-add-end c = omega (arith, room c.requires c.loop-cube.invariant c.loop-cube-test.true)

pub add-requires : goal.add-requires
add-requires c =
    let t = c.args.t in
    part_few (c.loop-cube.at + t.inputs.count + 1) t.outputs.count (drop (c.loop-cube.at + t.inputs.count + 1) c.args.s.now)
    (outputs_counted _ _ c.requires)

pub overflow_add-at : goal.overflow_add-at
overflow_add-at c = omega (arith, room c.requires c.loop-cube.invariant c.loop-cube-test.true)

pub loop-cube-preserved : goal.loop-cube-preserved
loop-cube-preserved c =
    tables_more _ _ _ _ _ _ _ _ c.loop-cube.invariant c.loop-cube-test.true _ _ _ _ refl refl c.covered-rows.ensures c.add.ensures

pub returns : goal.returns
returns c = tables_all _ _ _ _ _ c.loop-cube.invariant c.loop-cube-test.false
