use Prim.Native.Nat.{◌*◌, ◌≤◌}
use native.Mathlib.Omega.{arith}
use native.Mathlib.Nat.{mul_comm}
use lib.ListN.{length}
use Rattle.emit.specs.PutLaws.{put_length}
use Rattle.emit.specs.UptoLaws.{texts_none, texts_put, texts_all}
use Rattle.netlines.specs.DigitLaws.{cells_by_codes, code_room}
use Rattle.netlines.proofs.put_entries.Goals as goal

pub loop-c-init : goal.loop-c-init
loop-c-init c = texts_none _ _ _ _ _

pub offset_bounds-firsts-c : goal.offset_bounds-firsts-c
offset_bounds-firsts-c c = record { fits = omega (arith, c.requires.1) }

pub bounds-firsts-c : goal.bounds-firsts-c
bounds-firsts-c c = omega (arith, c.requires.1)

pub put_code-p-requires : goal.put_code-p-requires
put_code-p-requires c = let so_far = c.loop-c.invariant.so_far in
    let room = code_room (length c.args.free.now) c.loop-c.c c.args.count (omega arith) in
    (omega (arith, c.requires.0, so_far.place, so_far.short, room), c.requires.2)

pub loop-c-preserved : goal.loop-c-preserved
loop-c-preserved c = texts_put c.loop-c.invariant (omega arith) c.put_code-p.ensures

pub shape_of-buf : goal.shape_of-buf
shape_of-buf c = put_length c.loop-c.invariant.so_far

pub returns : goal.returns
returns c = let args = c.args in
    let frees = length args.free.now in
    let room : frees * args.count ≤ args.count * frees = omega (arith, mul_comm frees args.count) in
    texts_all c.loop-c.invariant (omega arith) room
    (cells_by_codes args.t.now args.vertex.now args.free.now _ args.count)
