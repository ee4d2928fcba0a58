use Rattle.std.proofs.Common.{ℕ, arith}
use mathlib.Core.Path.{sym, ap, ◌∙◌}
use Rattle.std.proofs.Math.Decide.{dec_lt}
use Rattle.problem.specs.Problem.{item}
use Rattle.numbering.specs.NumberLaws.{both_same, passed_start, number_old, at_miss, at_low, at_high, number_new}
use Rattle.numbering.proofs.number.Goals as goal
use Rattle.numbering.proofs.number.Goals.{then-together+else-label-class, else-together}

pub loop-y-init : goal.loop-y-init
loop-y-init c = let a = c.args in passed_start a.cl.now a.codes a.o a.mask a.x a.nums

pub returns-then-label-class : goal.returns-then-label-class
returns-then-label-class c = let a = c.args in
    let t = c.together.ensures.0 c.if-together.true in
    number_old a.cl.now a.codes a.o a.mask a.x a.nums c.loop-y.y c.loop-y-test.true (both_same (t.0 ∙ c.part-own.ensures.0) t.1)
    (sym c.label.ensures ∙ c.if-label-class.true ∙ c.label-class.ensures) c.requires.3

pub loop-y-preserved : goal.loop-y-preserved
loop-y-preserved c = let a = c.args in
    let t = c.together.ensures in
    elim c.if-together.branch [
      | then-together+else-label-class w ↦ let k = t.0 w.if-together.true in
          let there = both_same (k.0 ∙ c.part-own.ensures.0) k.1 in
          elim (dec_lt (item a.nums c.loop-y.y) c.loop-y.next) [
            | yes l ↦ at_low a.cl.now a.codes a.o a.mask a.x a.nums c.loop-y.y c.loop-y.next _
                w.label.result c.label-class.result w.label.ensures c.label-class.ensures w.if-label-class.false l (w.next-is ∙ (omega arith)) c.loop-y.invariant
            | no g ↦ at_high a.cl.now a.codes a.o a.mask a.x a.nums c.loop-y.y c.loop-y.next _
                w.label.result c.label-class.result c.loop-y-test.true there
                w.label.ensures c.label-class.ensures w.if-label-class.false (omega arith) (w.next-is ∙ (omega arith)) c.requires.3 c.loop-y.invariant
          ]
      | else-together w ↦ at_miss a.cl.now a.codes a.o a.mask a.x a.nums c.loop-y.y c.loop-y.next _
          (λ e. t.1 w.if-together.false (ap (λ (k : ℕ × ℕ). k.0) e ∙ sym c.part-own.ensures.0) (ap (λ (k : ℕ × ℕ). k.1) e))
          w.next-is c.loop-y.invariant
    ]

pub returns : goal.returns
returns c = let a = c.args in
    number_new a.cl.now a.codes a.o a.mask a.x a.nums c.loop-y.y c.loop-y.next c.loop-y-test.false c.loop-y.auto.y-end c.loop-y.invariant
