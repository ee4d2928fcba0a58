use Rattle.cursor.proofs.Digits.{digit_low, one_more, all_digits}
use Rattle.cursor.proofs.value.Goals as goal

pub overflow_sub-b : goal.overflow_sub-b
overflow_sub-b c = digit_low _ _ _ _ c.requires.0 c.loop-b-test.true

pub loop-b-preserved : goal.loop-b-preserved
loop-b-preserved c = one_more _ _ _ _ c.requires.0 c.loop-b-test.true _ _ c.loop-b.invariant c.from.ensures

pub returns : goal.returns
returns c = all_digits _ _ _ _ _ c.requires.0 c.loop-b.invariant c.loop-b-test.false
