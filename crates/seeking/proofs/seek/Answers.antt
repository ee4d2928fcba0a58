use Rattle.problem.specs.Answer.{is_found, is_unsure}
use Rattle.bits.specs.LogicLaws.{true_false}
use Rattle.readingsets.specs.Answered.{core_rows, core_codes}
use Rattle.seeking.specs.SeekingLaws.{rows_start, alike-start, chosen_sought}
use Rattle.seeking.specs.RoundLaws.{not_unsure}
use Rattle.std.proofs.Common.{◌≡◌, false, arith, refl, sym, ◌∙◌}
use Rattle.seeking.proofs.seek.Goals as goal
use Rattle.seeking.proofs.seek.Goals.{in-Unsure, in_default}

pub loop-i-init : goal.loop-i-init
loop-i-init c = c.requires.7

pub choose-k-requires : goal.choose-k-requires
choose-k-requires c = let q = c.requires in
    let p = c.args.p in
    (q.0, q.1, q.2, q.3, q.4, q.5, rows_start _ p.outputs p.cells p.tables _ refl, alike-start p.kn p.cells _ _ c.places-same.ensures, c.loop-i.invariant)

pub shape_of-mem-then-not-matches : goal.shape_of-mem-then-not-matches
shape_of-mem-then-not-matches c = c.choose-k.ensures.1.long ∙ sym c.requires.7.long

pub returns-then-not-matches : goal.returns-then-not-matches
returns-then-not-matches c = let q = c.requires in
    let a = c.args in
    let p = a.p in
    let r = c.choose-k.result.answer in
    let sure : is_unsure r ≡ false = elim c.match-matches.branch [
      | in-Unsure w ↦ absurd (true_false (sym w.matches-is ∙ c.if-not-matches.true))
      | in_default w ↦ not_unsure r w.in_default.not-Unsure
    ] in
    let found = chosen_sought a.cl.now a.given.now p.budgets p.kn p.val p.vertices p.outputs p.cells p.tables _ (is_found r) (core_rows r) (core_codes r) in
    (found q.4 q.5 q.3 q.6 (c.choose-k.ensures.0.sure sure), c.choose-k.ensures.1)

pub loop-i-preserved : goal.loop-i-preserved
loop-i-preserved c = let a = c.args in
    let p = a.p in
    c.forget.ensures a.cl.now a.given.now p.kn p.val p.vertices c.choose-k.ensures.1

pub choose-requires : goal.choose-requires
choose-requires c = let q = c.requires in
    let p = c.args.p in
    (q.0, q.1, q.2, q.3, q.4, q.5, rows_start _ p.outputs p.cells p.tables _ refl, alike-start p.kn p.cells _ _ c.places-same.ensures, c.loop-i.invariant)

pub shape_of-mem : goal.shape_of-mem
shape_of-mem c = c.choose.ensures.1.long ∙ sym c.requires.7.long

pub returns : goal.returns
returns c = let q = c.requires in
    let a = c.args in
    let p = a.p in
    let r = c.choose.result.answer in
    let sure = c.choose.ensures.0.never (c.all_nodes.ensures (omega arith)) in
    let found = chosen_sought a.cl.now a.given.now p.budgets p.kn p.val p.vertices p.outputs p.cells p.tables _ (is_found r) (core_rows r) (core_codes r) in
    (found q.4 q.5 q.3 q.6 (c.choose.ensures.0.sure sure), c.choose.ensures.1)
