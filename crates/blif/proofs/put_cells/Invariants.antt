-- `put_cells`: each turn puts one cell more, or none. Assumes nothing.
use Rattle.emit.specs.Written.{item_room}
use Rattle.emit.specs.UptoLaws.{Texts}
use Rattle.blif.specs.Texts.{cell_text}
use Rattle.blif.proofs.put_cells.Given as goal

abbrev pub invariant-loop-i : goal.invariant-loop-i
invariant-loop-i l = Texts (cell_text l.mask) item_room l.u l.initial.buf l.buf l.at l.p l.i
