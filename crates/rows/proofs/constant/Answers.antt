-- `constant`: one word with all digits alike, sixteen times. Assumes nothing.
use mathlib.Core.Path.{sym, ◌∙◌}
use Rattle.bits.specs.DigitLaws.{on-ones, on_zero}
use Rattle.rows.specs.WordLaws.{repeated}
use Rattle.rows.proofs.constant.Goals as goal

pub returns-then-b : goal.returns-then-b
returns-then-b c = repeated 0xFFFFFFFFFFFFFFFF _ (λ k l. on-ones 64 k l ∙ sym c.if-b.true)

pub returns-else-b : goal.returns-else-b
returns-else-b c = repeated 0 _ (λ k l. on_zero k ∙ sym c.if-b.false)
