use Rattle.std.proofs.Common.{◌≡◌, true, false, refl, rules}
use borrow.Author.Tests.{tests}
use Rattle.bits.specs.LogicLaws.{never_both}
use Rattle.bits.specs.Digit.{on}
use Rattle.relation.specs.RangeLaws.{all_below}
use Rattle.seeking.proofs.all_fit.Goals as goal

pub returns : goal.returns
returns c = let a = c.args in
    let all = all_below a.m _ _ c.all.result (λ o. on a.fits o ≡ true) (λ o. on a.fits o ≡ false) c.all.ensures.ran refl
    (λ o q k. search (rules, tests)) (λ o q k. search (rules, tests)) in
    (all.0, λ e fit. let k = all.1 e in never_both (fit k.0 k.1) k.2)
