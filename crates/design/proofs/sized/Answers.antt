-- `sized`: the last byte is 0x0A, and all bytes before it are plain. Assumes nothing.
use Rattle.std.proofs.Common.{length, sym, ◌∙◌, arith, rules, tests}
use Rattle.std.proofs.lemmas.Bool.{lt-leb}
use Rattle.std.proofs.lemmas.Iterator.{YieldsList-from_slice}
use Rattle.std.proofs.lemmas.Iterator.Search.{all_from_yields_List}
use Rattle.bits.specs.LogicLaws.{true_false}
use Rattle.sheet.specs.Examine as spec
use Rattle.design.specs.SizeLaws.{sized-empty, sized_long, sized-ended, sized-unended}
use Rattle.design.proofs.sized.Goals as goal
use Rattle.design.proofs.sized.Goals.{then-s-le-MAX_SHEET, else-s-le-MAX_SHEET}

pub returns-in_default : goal.returns-in_default
returns-in_default c = sized-empty c.args.s.now (omega (arith, c.in_default.ensures.cases))

pub returns-then-last-eq10 : goal.returns-then-last-eq10
returns-then-last-eq10 c =
    let s = c.args.s.now in
    let x = c.in-Some.last.now in
    let rest = c.in-Some.rest.now in
    let all = all_from_yields_List spec.plain _ _ c.all.result c.all.ensures.ran (YieldsList-from_slice rest cc) (λ y b q k. search (rules, tests)) in
    elim c.if-s-le-MAX_SHEET.branch [
      | then-s-le-MAX_SHEET w ↦ all ∙ sized-ended s x rest c.in-Some.ensures.cases w.if-s-le-MAX_SHEET.true (sym w.value-is ∙ c.if-last-eq10.true)
      | else-s-le-MAX_SHEET w ↦ absurd (true_false (sym c.if-last-eq10.true ∙ w.value-is ∙ lt-leb (length s) 4096 w.if-s-le-MAX_SHEET.false))
    ]

pub returns-else-last-eq10 : goal.returns-else-last-eq10
returns-else-last-eq10 c =
    let s = c.args.s.now in
    let x = c.in-Some.last.now in
    let rest = c.in-Some.rest.now in
    elim c.if-s-le-MAX_SHEET.branch [
      | then-s-le-MAX_SHEET w ↦ c.if-last-eq10.false ∙ sized-unended s x rest c.in-Some.ensures.cases w.if-s-le-MAX_SHEET.true (sym w.value-is ∙ c.if-last-eq10.false)
      | else-s-le-MAX_SHEET w ↦ c.if-last-eq10.false ∙ sized_long s w.if-s-le-MAX_SHEET.false
    ]
