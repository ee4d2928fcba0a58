-- `put_rows`: each turn puts the line of one row more, or none. Assumes nothing.
use Rattle.emit.specs.UptoLaws.{Texts}
use Rattle.blif.specs.Texts.{row_text, digits_at}
use Rattle.blif.specs.Room.{row_room}
use Rattle.blif.proofs.put_rows.Given as goal

abbrev pub invariant-loop-r : goal.invariant-loop-r
invariant-loop-r l = Texts (row_text l.n (digits_at l.t l.place)) row_room l.rows l.initial.buf l.buf l.at l.p l.r
