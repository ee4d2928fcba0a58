-- `put_zeros`: each turn puts one digit more. Assumes nothing.
use mathlib.Core.Bool.{false}
use Prim.Native.Nat.{ℕ}
use Rattle.netlines.specs.DigitLaws.{Digits}
use Rattle.netlines.proofs.put_zeros.Given as goal

abbrev pub invariant-loop : goal.invariant-loop
invariant-loop l = Digits (λ (y : ℕ). false) l.n l.initial.buf l.buf l.at l.p l.counter
