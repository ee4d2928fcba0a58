-- `put_item`: a space, and the name after it. Assumes nothing.
use mathlib.Core.Path.{refl}
use native.Mathlib.Omega.{arith}
use Rattle.emit.specs.PutLaws.{put_next}
use Rattle.blif.proofs.put_item.Goals as goal

pub returns : goal.returns
returns c = put_next c.put_byte-p.ensures c.put_name.ensures refl (omega arith)
