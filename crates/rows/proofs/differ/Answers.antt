use Rattle.std.specs.Prelude.{bit_xor}
use Rattle.std.proofs.Common.{rules, ◌≡◌, slice_index_or}
use Rattle.bits.specs.DigitLaws.{on_xor}
use Rattle.bits.specs.Logic.{xorb}
use Rattle.rows.specs.WordLaws.{word_of_two}
use Rattle.rows.proofs.Fill.{filled}
use Rattle.rows.proofs.differ.Goals as goal

pub returns : goal.returns
returns c =
    filled _ (λ w x. x ≡ bit_xor (slice_index_or c.args.a w 0) (slice_index_or c.args.b w 0)) _
    (λ w x e. rw e (word_of_two bit_xor xorb on_xor c.args.a c.args.b w)) _ (λ w x d h. search rules) _ c.from_fn.ensures.items
