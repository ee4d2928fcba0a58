use Rattle.sheet.specs.ExaminationLaws.{valid_well_formed}
use Rattle.sheet.specs.Examine as spec
use borrow.Author.Rules.{rules}
use Rattle.mapper.proofs.cause.Goals as goal

pub cause_of-requires : goal.cause_of-requires
cause_of-requires c = c.examine.ensures.examination

pub returns : goal.returns
returns c = let args = c.args in
    let s = args.sheet.now in
    c.cause_of.ensures (spec.examine s) c.examine.ensures.examined_is (valid_well_formed s)
