-- `put_byte`: a store inside the buffer, or none past its end. Assumes nothing.
use Rattle.emit.specs.PutLaws.{byte_stored, byte_past}
use Rattle.emit.proofs.put_byte.Goals as goal
use Rattle.emit.proofs.put_byte.Goals.{then-at-buf, else-at-buf}

pub returns : goal.returns
returns c =
    elim c.if-at-buf.branch [
      | then-at-buf w ↦ rw w.buf-is (byte_stored _ _ _)
      | else-at-buf w ↦ rw w.buf-is (byte_past _ _ _ w.if-at-buf.false)
    ]
