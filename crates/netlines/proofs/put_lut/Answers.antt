-- `put_lut`: three texts, one after the other. Assumes nothing.
use native.Mathlib.Omega.{arith}
use Rattle.emit.specs.PutLaws.{put_next, put_then}
use Rattle.netlines.specs.TextLaws.{lut_text}
use Rattle.netlines.proofs.put_lut.Goals as goal

pub returns : goal.returns
returns c = let pre = c.requires in
    put_next c.put_lut_head-p.ensures (put_then c.put_table-q.ensures c.put_text.ensures) (lut_text _ _ _) (omega (arith, pre))
