-- `Cursor::byte`: the text has ended, the byte is another, or it is the one. Assumes nothing.
use Rattle.std.proofs.Common.{refl}
use Rattle.cursor.specs.EatingLaws.{byte_past, byte_differs, byte_same}
use Rattle.cursor.proofs.Cursor.byte.Goals as goal
use Rattle.cursor.proofs.Cursor.byte.Goals.{else-self-s-via-then-self-s+else-s-self, else-self-s-via-else-self-s}

pub returns-then-s-self : goal.returns-then-s-self
returns-then-s-self c = byte_same _ _ _ c.if-self-s.true c.if-s-self.true _ refl

pub returns-else-self-s : goal.returns-else-self-s
returns-else-self-s c = elim c.else-self-s.branch [
  | else-self-s-via-then-self-s+else-s-self w ↦ byte_differs _ _ _ w.if-self-s.true w.if-s-self.false
  | else-self-s-via-else-self-s w ↦ byte_past _ _ _ w.if-self-s.false
]
