-- `put_end`: three texts, one after the other. Assumes nothing.
use native.Mathlib.Omega.{arith}
use Rattle.emit.specs.PutLaws.{put_next, put_then}
use Rattle.netlines.specs.TextLaws.{last_text}
use Rattle.netlines.proofs.put_end.Goals as goal

pub returns : goal.returns
returns c = let pre = c.requires in
    put_next c.put_text-p.ensures (put_then c.put_byte-q.ensures c.put_text.ensures) (last_text _ pre.1) (omega arith)
