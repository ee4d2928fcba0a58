-- `put_led`: the name, after a space unless it is the first. Assumes nothing.
use mathlib.Core.Bool.{Bool}
use mathlib.Core.Path.{ap, sym}
use native.Mathlib.Omega.{arith}
use Rattle.network.specs.Printer.{led}
use Rattle.names.specs.Pack.{name_of}
use Rattle.emit.specs.PutLaws.{put_same, put_next, put_then, put_length}
use Rattle.emit.proofs.put_led.Goals as goal

pub shape_of-buf-then-first : goal.shape_of-buf-then-first
shape_of-buf-then-first c = put_length c.put_name.ensures

pub returns-then-first : goal.returns-then-first
returns-then-first c = let args = c.args in
    put_same c.put_name.ensures (ap (λ (b : Bool). led b (name_of args.v)) (sym c.if-first.true)) (omega arith)

pub shape_of-buf : goal.shape_of-buf
shape_of-buf c = put_length (put_then c.put_byte-p.ensures c.put_name-2.ensures)

pub returns : goal.returns
returns c = let args = c.args in
    put_next c.put_byte-p.ensures c.put_name-2.ensures (ap (λ (b : Bool). led b (name_of args.v)) (sym c.if-first.false)) (omega arith)
