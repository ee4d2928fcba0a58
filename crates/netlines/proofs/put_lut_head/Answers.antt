-- `put_lut_head`: four texts, one after the other. Assumes nothing.
use native.Mathlib.Omega.{arith}
use Rattle.emit.specs.PutLaws.{put_next, put_then}
use Rattle.netlines.specs.TextLaws.{lut_head_text}
use Rattle.netlines.proofs.put_lut_head.Goals as goal

pub returns : goal.returns
returns c = put_next c.put_text-p.ensures (put_then c.put_name-q.ensures (put_then c.put_text-r.ensures c.put_list.ensures)) (lut_head_text _ _ _ c.lut_name.ensures) (omega arith)
