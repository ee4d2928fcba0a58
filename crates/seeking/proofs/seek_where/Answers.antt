use Rattle.seeking.specs.SeekingLaws.{sought_where}
use Rattle.problem.specs.Answer.{is_found}
use Rattle.readingsets.specs.Answered.{core_rows, core_codes}
use Rattle.seeking.proofs.seek_where.Goals as goal

pub returns-then-not-all_fit : goal.returns-then-not-all_fit
returns-then-not-all_fit c = let pre = c.requires in
    (λ all. absurd (c.all_fit.ensures.1 (c.if-not-all_fit.true) all), pre.7)

pub returns : goal.returns
returns c = let all = c.all_fit.ensures.0 (c.if-not-all_fit.false) in
    let args = c.args in
    let p = args.p in
    let r = c.seek.result.answer in (
      sought_where args.fits args.cl.now args.given.now p.budgets p.kn p.val p.vertices p.outputs p.cells p.tables (is_found r) (core_rows r) (core_codes r)
          all c.seek.ensures.0,
      c.seek.ensures.1,
    )
