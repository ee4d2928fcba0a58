use native.Mathlib.Omega.{arith}
use Rattle.emit.specs.UptoLaws.{texts_none, texts_put, texts_all}
use Rattle.emit.specs.PutLaws.{put_length}
use Rattle.blif.specs.RowLaws.{rows_few, rows_text_lem}
use Rattle.blif.specs.Texts.{digits_at}
use Rattle.blif.proofs.put_rows.Goals as goal

pub loop-r-init : goal.loop-r-init
loop-r-init c = texts_none _ _ _ _ _

pub overflow_add-place : goal.overflow_add-place
overflow_add-place c = let pre = c.requires in
    let fits = c.ranges in
    omega (arith, pre, c.loop-r-test.true, c.power-rows.ensures, fits)

pub bounds-t-place : goal.bounds-t-place
bounds-t-place c = let pre = c.requires in
    omega (arith, pre, c.loop-r-test.true, c.power-rows.ensures)

pub put_row-p-requires : goal.put_row-p-requires
put_row-p-requires c = let pre = c.requires in
    let few = rows_few _ _ pre.1 c.power-rows.ensures in
    (omega (arith, pre.0, few, c.loop-r-test.true, c.loop-r.invariant.so_far.place, c.loop-r.invariant.so_far.short), pre.1)

pub loop-r-preserved : goal.loop-r-preserved
loop-r-preserved c = texts_put c.loop-r.invariant c.loop-r-test.true c.put_row-p.ensures

pub shape_of-buf : goal.shape_of-buf
shape_of-buf c = put_length c.loop-r.invariant.so_far

pub returns : goal.returns
returns c = let pre = c.requires in
    let args = c.args in
    let few = rows_few _ _ pre.1 c.power-rows.ensures in
    let text = rows_text_lem args.n _ (digits_at args.t.now args.place) c.power-rows.ensures in
    texts_all c.loop-r.invariant c.loop-r-test.false (omega (arith, few)) text
