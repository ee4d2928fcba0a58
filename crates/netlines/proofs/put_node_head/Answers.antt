-- `put_node_head`: three texts, one after the other. Assumes nothing.
use native.Mathlib.Omega.{arith}
use Rattle.emit.specs.PutLaws.{put_next, put_then}
use Rattle.netlines.specs.TextLaws.{node_head_text}
use Rattle.netlines.proofs.put_node_head.Goals as goal

pub returns : goal.returns
returns c = put_next c.put_text-p.ensures (put_then c.put_name-q.ensures c.put_text.ensures) (node_head_text _) (omega arith)
