-- `put_code`: the column at a vertex, or zeros where none produces the code. Assumes nothing.
use mathlib.Core.Path.{ap}
use native.Mathlib.Omega.{arith}
use Rattle.network.specs.Printer.{print_digits}
use Rattle.emit.specs.PutLaws.{put_same}
use Rattle.netlines.specs.RunningLaws.{some_free, vertex-row, column_entries, zero_entries}
use Rattle.netlines.proofs.put_code.Goals as goal
use Rattle.netlines.proofs.put_code.Goals.{in_default-via-in-Some+else-x-v, in_default-via-in_default}

pub put_column-requires : goal.put_column-requires
put_column-requires c = (c.requires.0, vertex-row c.requires.1 c.in-Some.x.0 c.if-x-v.true)

pub overflow_sub-n : goal.overflow_sub-n
overflow_sub-n c = omega (arith, some_free c.requires.1)

pub bounds-free-n : goal.bounds-free-n
bounds-free-n c = omega (arith, some_free c.requires.1)

pub returns-in-Some : goal.returns-in-Some
returns-in-Some c = let laid = c.requires.1 in
    rw c.in-Some.is
    (put_same (c.put_column.ensures (vertex-row laid c.in-Some.x.0 c.if-x-v.true))
    (ap print_digits (column_entries laid c.args.t.now c.in-Some.x c.if-x-v.true))
    (omega arith))

pub returns-in_default : goal.returns-in_default
returns-in_default c = let args = c.args in
    put_same c.put_zeros.ensures
    (ap print_digits (zero_entries args.t.now args.vertex.now args.free.now args.x
    (elim c.in_default.branch [
      | in_default-via-in-Some+else-x-v w ↦ rw w.in-Some.is w.if-x-v.false
      | in_default-via-in_default w ↦ rw w.in_default.is tt
    ])))
    (omega arith)
