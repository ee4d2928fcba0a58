-- `put_luts`: each turn puts one block more. Assumes nothing.
use Rattle.emit.specs.UptoLaws.{Texts}
use Rattle.network.specs.Shown.{shown}
use Rattle.blif.specs.Texts.{lut_text}
use Rattle.blif.specs.Room.{block_room}
use Rattle.blif.proofs.put_luts.Given as goal

abbrev pub invariant-loop-i : goal.invariant-loop-i
invariant-loop-i l = Texts (lut_text l.t (shown l.bs) l.n.lutat) block_room l.n.luts l.initial.buf l.buf l.at l.p l.i
