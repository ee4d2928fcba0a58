use Rattle.std.proofs.Common.{◌∙◌, rules, tests}
use Rattle.std.proofs.lemmas.Iterator.{YieldsList-from_slice}
use Rattle.std.proofs.lemmas.Iterator.Search.{all_from_yields_List}
use Rattle.panel.specs.MarkLaws.{zero_or_one, all_zero_or_one}
use Rattle.panel.proofs.zeros_and_ones.Goals as goal

pub returns : goal.returns
returns c =
    all_from_yields_List zero_or_one _ _ c.all.result c.all.ensures.ran (YieldsList-from_slice c.args.m.now cc) (λ y b q k. search (rules, tests))
    ∙ all_zero_or_one c.args.m.now
