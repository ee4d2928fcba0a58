-- `put_luts`: each turn puts one line more. Assumes nothing.
use Prim.Native.Nat.{ℕ}
use Rattle.network.specs.Shown.{shown, item}
use Rattle.network.specs.Printer.{print_lut}
use Rattle.bits.specs.Values.{values_upto}
use Rattle.bits.specs.Digit.{on}
use Rattle.emit.specs.UptoLaws.{Texts}
use Rattle.netlines.specs.Lines.{ended}
use Rattle.netlines.specs.Room.{lut_room}
use Rattle.netlines.proofs.put_luts.Given as goal

abbrev pub invariant-loop-i : goal.invariant-loop-i
invariant-loop-i l = Texts (ended (λ (j : ℕ). print_lut (shown l.bs) j (values_upto (λ (x : ℕ). on (item l.codes x) j) l.n))) lut_room l.u l.initial.buf l.buf l.at l.p l.i
