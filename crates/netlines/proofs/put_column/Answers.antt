use native.Mathlib.Omega.{arith}
use Rattle.emit.specs.PutLaws.{put_length}
use Rattle.netlines.specs.RunningLaws.{row_small, bound-small, running_start, running_step, running_all}
use Rattle.netlines.proofs.put_column.Goals as goal

pub loop-init : goal.loop-init
loop-init c = λ v. running_start v

pub row-requires : goal.row-requires
row-requires c = let v = c.requires.1 in
    omega (arith, (c.loop.invariant v).runs, row_small v c.loop.counter)

pub put_digit-p-requires : goal.put_digit-p-requires
put_digit-p-requires c = let pre = c.requires in
    let so_far = (c.loop.invariant pre.1).put.so_far in
    omega (arith, pre.0, so_far.place, so_far.short)

pub step-row-requires : goal.step-row-requires
step-row-requires c = let v = c.requires.1 in
    (omega (arith, (c.loop.invariant v).runs, row_small v c.loop.counter), bound-small v)

pub loop-preserved : goal.loop-preserved
loop-preserved c = λ v.
    running_step v (c.loop.invariant v) (omega arith) c.put_digit-p.ensures c.row.ensures c.step-row.ensures

pub shape_of-buf : goal.shape_of-buf
shape_of-buf c = put_length (c.loop.invariant c.requires.1).put.so_far

pub returns : goal.returns
returns c = λ v. running_all v (c.loop.invariant v) (omega arith)
