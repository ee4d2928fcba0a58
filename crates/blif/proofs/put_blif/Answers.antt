-- `put_blif`: the parts one after the other are the text of any design and network that are held so. Assumes nothing.
use mathlib.Core.Path.{ap}
use native.Mathlib.Omega.{arith}
use lib.ListN.{length}
use Rattle.emit.specs.PutLaws.{put_next, put_then}
use Rattle.blif.specs.PassedLaws.{bound-shown, free-shown, luts_ready, nodes_ready, text_is}
use Rattle.blif.proofs.put_blif.Goals as goal

pub put_luts-q-requires : goal.put_luts-q-requires
put_luts-q-requires c = let pre = c.requires in
    let p = pre.passed in
    let b = c.bound_names-bs.ensures.1 in
    let bound = p.drawing.holds.bound_few in
    (omega (arith, c.put_head-p.ensures.place, c.put_head-p.ensures.short), omega (arith, b, bound), luts_ready _ _ _ _ _ p _ b)

pub put_nodes-r-requires : goal.put_nodes-r-requires
put_nodes-r-requires c = let pre = c.requires in
    let p = pre.passed in
    let h = p.drawing.holds in
    let bound = bound-shown _ _ _ _ _ p c.bound_names-bs.ensures.0 in
    let free = free-shown _ _ _ _ _ p bound c.free_names-fs.ensures.0 in (
      omega (arith, c.put_head-p.ensures.place, c.put_head-p.ensures.short, c.put_luts-q.ensures.place, c.put_luts-q.ensures.short),
      h.outputs_few,
      omega (arith, c.free_names-fs.ensures.1, h.inputs_few),
      nodes_ready _ _ _ _ _ p _ (ap length free),
    )

pub returns : goal.returns
returns c = λ d w p.
    (let bound = bound-shown _ _ _ d w p c.bound_names-bs.ensures.0 in
    let free = free-shown _ _ _ d w p bound c.free_names-fs.ensures.0 in
    put_next c.put_head-p.ensures (put_then c.put_luts-q.ensures (put_then c.put_nodes-r.ensures c.put_text.ensures))
    (text_is _ _ _ d w p _ _ bound free) (omega arith))
