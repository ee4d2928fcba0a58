use Rattle.std.proofs.Common.{rules}
use Rattle.bits.specs.Digit.{on}
use Rattle.rows.specs.Words.{WordOf}
use Rattle.rows.proofs.Fill.{filled}
use Rattle.rows.proofs.input.Goals as goal

pub returns : goal.returns
returns c = filled _ (WordOf (λ r. on r c.args.p)) _ (λ w x h. h) _ (λ w x d h. search rules) _ c.from_fn.ensures.items
