use mathlib.Core.Path.{sym, ◌∙◌}
use Rattle.numbering.specs.NumberLaws.{spread_low, spreading_start, spreading_skip, spreading_one, spreading_zero, spreading_end}
use Rattle.numbering.proofs.spread.Goals as goal
use Rattle.numbering.proofs.spread.Goals.{then-in_set, then-in_set-2, else-in_set-2, else-in_set}

pub loop-i-init : goal.loop-i-init
loop-i-init c = spreading_start c.args.n c.args.p

pub loop-i-preserved : goal.loop-i-preserved
loop-i-preserved c = let args = c.args in
    elim c.if-in_set.branch [
      | then-in_set w ↦ elim w.if-in_set-2.branch [
        | then-in_set-2 z ↦ spreading_one args.n args.p c.loop-i.i c.loop-i.r c.loop-i.k _ _ _ (sym w.if-in_set.true ∙ c.in_set.ensures)
            (sym z.if-in_set-2.true ∙ w.in_set-then-in_set.ensures) z.with-r.ensures (w.r-is ∙ z.r-is) w.k-is c.loop-i.invariant
        | else-in_set-2 z ↦ spreading_zero args.n args.p c.loop-i.i c.loop-i.r c.loop-i.k _ _ (sym w.if-in_set.true ∙ c.in_set.ensures)
            (sym z.if-in_set-2.false ∙ w.in_set-then-in_set.ensures) (w.r-is ∙ z.r-is) w.k-is c.loop-i.invariant
      ]
      | else-in_set w ↦ spreading_skip args.n args.p c.loop-i.i c.loop-i.r c.loop-i.k _ _ (sym w.if-in_set.false ∙ c.in_set.ensures) w.r-is w.k-is c.loop-i.invariant
    ]

pub overflow_cast-result : goal.overflow_cast-result
overflow_cast-result c = let a = c.args in
    record { fits = spread_low a.n a.p c.loop-i.r (spreading_end a.n a.p c.loop-i.i c.loop-i.r c.loop-i.k c.loop-i-test.false c.loop-i.auto.i-end c.loop-i.invariant) }

pub returns : goal.returns
returns c = let a = c.args in
    spreading_end a.n a.p c.loop-i.i c.loop-i.r c.loop-i.k c.loop-i-test.false c.loop-i.auto.i-end c.loop-i.invariant
