use Rattle.std.proofs.Common.{◌≡◌, ◌∙◌, refl, arith, get_or-set_other}
use Rattle.limits.specs.Limits.{label_count}
use Rattle.bits.specs.FilledLaws.{filled_none, filled_more, filled_fewer}
use Rattle.cells.specs.ListLaws.{zeros_are}
use Rattle.mapper.proofs.labels.Goals as goal

pub loop-i-init : goal.loop-i-init
loop-i-init c = (filled_none _ _ refl, λ k h. zeros_are label_count k)

pub loop-i-preserved : goal.loop-i-preserved
loop-i-preserved c = let below = c.loop-i-test.true in (
  filled_more _ (omega arith) c.label_of.ensures c.loop-i.invariant.0,
  λ k h. get_or-set_other c.loop-i.cl c.loop-i.i k _ 0 (λ e. let z : k ≡ c.loop-i.i = e in omega arith) ∙ c.loop-i.invariant.1 k (omega arith),
)

pub returns : goal.returns
returns c = let most = c.loop-i.auto.i-end in
    record { given = filled_fewer c.loop-i-test.false c.loop-i.invariant.0; others = λ i h. c.loop-i.invariant.1 i (omega arith) }
