use mathlib.Core.Path.{sym, ap, subst, ◌∙◌}
use Prim.Native.Nat.{ℕ, ◌+◌}
use native.Mathlib.Omega.{arith}
use Rattle.bits.specs.Digit.{on}
use Rattle.bits.specs.Logic.{bit}
use Rattle.netnames.specs.NumbersLaws.{Coding, coding_none, coding_without, coding_with, coding_below, coding_all, digit_read, as_bit, bit_small}
use Rattle.netnames.proofs.code_of.Goals as goal
use Rattle.netnames.proofs.code_of.Goals.{then-has, else-has}

pub loop-i-init : goal.loop-i-init
loop-i-init c = coding_none _ _ _

pub overflow_mul-code : goal.overflow_mul-code
overflow_mul-code c = record { fits = omega (arith, coding_below c.loop-i.invariant c.requires) }

pub overflow_add-code : goal.overflow_add-code
overflow_add-code c = let pre = c.requires in
    record { fits = omega (arith, coding_below c.loop-i.invariant pre, c.from-then-has-2.ensures, bit_small c.has-then-has.result) }

pub loop-i-preserved : goal.loop-i-preserved
loop-i-preserved c = let args = c.args in
    elim c.if-has.branch [
      | then-has w ↦ subst (λ (k : ℕ). Coding args.mask args.n args.u (c.loop-i.i + 1) k) (sym w.code-is)
          (coding_with c.loop-i.invariant (omega arith) (digit_read c.loop-i.i c.has.ensures c.from.ensures w.if-has.true)
          (w.from-then-has-2.ensures ∙ as_bit w.has-then-has.result ∙ ap bit (w.has-then-has.ensures ∙ ap (λ (k : ℕ). on k c.loop-i.i) w.from-then-has.ensures)))
      | else-has w ↦ subst (λ (k : ℕ). Coding args.mask args.n args.u (c.loop-i.i + 1) k) (sym w.code-is)
          (coding_without c.loop-i.invariant (omega arith) (digit_read c.loop-i.i c.has.ensures c.from.ensures w.if-has.false))
    ]

pub returns : goal.returns
returns c = coding_all c.loop-i.invariant (omega arith) c.requires
