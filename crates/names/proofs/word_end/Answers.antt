use Rattle.std.specs.Prelude.{drop}
use Rattle.std.specs.Char.{is_ascii_alphanumeric}
use Rattle.std.proofs.Common.{rules, tests, ap, ◌∙◌}
use Rattle.std.specs.Slice.Iter.{iter_rest}
use Rattle.std.proofs.lemmas.Iterator.{YieldsList-from_slice}
use Rattle.std.proofs.lemmas.Iterator.Consumers.{count_from_yields_List}
use Rattle.std.proofs.lemmas.Iterator.Search.{YieldsList-from_take_while}
use Rattle.text.specs.BytesLaws.{from_here}
use Rattle.names.proofs.Words.{word_ends}
use Rattle.names.proofs.word_end.Goals as goal

pub returns : goal.returns
returns c =
    word_ends _ _ _ c.requires
    (count_from_yields_List c.take_while.result _ c.count.ensures.ran
    (YieldsList-from_take_while _ is_ascii_alphanumeric
    (YieldsList-from_slice (drop c.args.at c.args.s.now)
    (ap iter_rest c.take_while.ensures.source ∙ c.iter.ensures.rest ∙ from_here c.args.s.now c.args.at))
    c.take_while.ensures.closure c.take_while.ensures.done (λ x b q k. search (rules, tests))))
