-- `put_table`: each turn puts one digit more. Assumes nothing.
use Prim.Native.Nat.{ℕ}
use Rattle.network.specs.Shown.{item}
use Rattle.bits.specs.Digit.{on}
use Rattle.netlines.specs.DigitLaws.{Digits}
use Rattle.netlines.proofs.put_table.Given as goal

abbrev pub invariant-loop-x : goal.invariant-loop-x
invariant-loop-x l = Digits (λ (y : ℕ). on (item l.codes y) l.i) l.n l.initial.buf l.buf l.at l.p l.x
