use Rattle.bits.specs.DigitLaws.{on-ones}
use Rattle.holding.specs.BlocksLaws.{on_either}
use Rattle.holding.proofs.keep.Goals as goal

pub returns-then-need-has-2 : goal.returns-then-need-has-2
returns-then-need-has-2 c = λ k l s. on_either c.args.own c.args.meet k (s.near c.if-wants-has-2.true c.if-need-has-2.true)

pub returns-else-wants-has-2 : goal.returns-else-wants-has-2
returns-else-wants-has-2 c = λ k l s. on-ones 64 k l
