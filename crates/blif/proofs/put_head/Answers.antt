-- `put_head`: two texts with names after each, and the end of the last line. Assumes nothing.
use Rattle.std.proofs.Common.{arith, length-take-le}
use Rattle.emit.specs.PutLaws.{put_next, put_then}
use Rattle.blif.specs.BlockLaws.{head_text_lem}
use Rattle.blif.proofs.put_head.Goals as goal

pub returns : goal.returns
returns c =
    let k = c.args.k in
    let inputs = length-take-le k.inputs k.names (omega arith) in
    let outputs = length-take-le k.outputs k.outs (omega arith) in
    put_next c.put_text-p.ensures (put_then c.put_items-q.ensures (put_then c.put_text-r.ensures (put_then c.put_items-s.ensures c.put_byte.ensures)))
    (head_text_lem _ _) (omega (arith, inputs, outputs))
