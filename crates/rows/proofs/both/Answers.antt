use Rattle.std.specs.Prelude.{bit_and}
use Rattle.std.proofs.Common.{rules, ◌≡◌, slice_index_or}
use Rattle.bits.specs.DigitLaws.{on_and}
use Rattle.bits.specs.Logic.{andb}
use Rattle.rows.specs.WordLaws.{word_of_two}
use Rattle.rows.proofs.Fill.{filled}
use Rattle.rows.proofs.both.Goals as goal

pub returns : goal.returns
returns c =
    filled _ (λ w x. x ≡ bit_and (slice_index_or c.args.a w 0) (slice_index_or c.args.b w 0)) _
    (λ w x e. rw e (word_of_two bit_and andb on_and c.args.a c.args.b w)) _ (λ w x d h. search rules) _ c.from_fn.ensures.items
