use Rattle.std.proofs.Common.{◌≡◌, Bool, true, false, refl, sym, ap, ◌∙◌, ◌+◌, arith, get_or}
use mir.Val.{bool_byte}
use Rattle.bits.specs.Logic.{bit}
use Rattle.bits.specs.LogicLaws.{bit_le}
use Rattle.comparing.specs.Code.{one_at, code_at}
use Rattle.comparing.specs.CodeLaws.{code_none, code_with, code_without, code_small}
use Rattle.comparing.proofs.code.Goals as goal
use Rattle.comparing.proofs.code.Goals.{then-has, else-has}

bit_is : (b : Bool) → bool_byte b ≡ bit b
bit_is true = refl
bit_is false = refl

pub loop-i-init : goal.loop-i-init
loop-i-init c = code_none c.args.t.now c.args.lutat c.args.mask c.args.x.0

pub overflow_mul-c : goal.overflow_mul-c
overflow_mul-c c = let few = c.requires.0 in
    let turn = c.loop-i-test.true in
    omega (arith, c.loop-i.invariant, code_small c.args.t.now c.args.lutat c.args.mask c.args.x.0 c.loop-i.i (omega arith))

pub overflow_add-c : goal.overflow_add-c
overflow_add-c c = let few = c.requires.0 in
    let turn = c.loop-i-test.true in
    let a = c.args in
    let digit = one_at a.t.now (get_or a.lutat c.loop-i.i 0 + a.x.0) in
    omega (
      arith,
      c.from.ensures ∙ bit_is digit,
      bit_le digit,
      c.loop-i.invariant,
      code_small a.t.now a.lutat a.mask a.x.0 c.loop-i.i (omega arith),
    )

pub loop-i-preserved : goal.loop-i-preserved
loop-i-preserved c = let told = c.has.ensures in
    let turn = c.loop-i-test.true in
    let a = c.args in
    elim c.if-has.branch [
      | then-has w ↦
          w.c-is
          ∙ code_with a.t.now a.lutat a.mask a.x.0 c.loop-i.i c.loop-i.c w.from.result c.loop-i.invariant
          (sym told ∙ w.if-has.true) (w.from.ensures ∙ bit_is _)
      | else-has w ↦
          w.c-is
          ∙ code_without a.t.now a.lutat a.mask a.x.0 c.loop-i.i c.loop-i.c c.loop-i.invariant (sym told ∙ w.if-has.false)
    ]

pub returns : goal.returns
returns c = let e : c.loop-i.i ≡ c.args.luts = omega arith in
    c.loop-i.invariant ∙ ap (code_at c.args.t.now c.args.lutat c.args.mask c.args.x.0) e
