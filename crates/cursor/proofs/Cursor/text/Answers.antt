-- `Cursor::text`: the text begins with the bytes or not. Assumes nothing.
use Rattle.std.proofs.Common.{refl}
use Rattle.cursor.proofs.Texts.{text_there, no_text}
use Rattle.cursor.proofs.Cursor.text.Goals as goal

pub returns-then-starts_with : goal.returns-then-starts_with
returns-then-starts_with c = text_there c.args.s.now c.args.w.now c.args.self.at _ c.starts_with.ensures.value _ refl c.if-starts_with.true c.requires
    (c.starts_with.ensures.bound c.if-starts_with.true)

pub returns-else-starts_with : goal.returns-else-starts_with
returns-else-starts_with c = no_text c.args.s.now c.args.w.now c.args.self.at _ c.starts_with.ensures.value c.if-starts_with.false
