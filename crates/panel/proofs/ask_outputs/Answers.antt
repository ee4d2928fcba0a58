use Rattle.std.proofs.Common.{sym, ◌∙◌, arith}
use Rattle.panel.specs.OutputsLaws.{ready_few, outputs_start, outputs_held, outputs_room, outputs_more, outputs_stopped, outputs_all}
use Rattle.panel.proofs.ask_outputs.Goals as goal

pub loop-o-init : goal.loop-o-init
loop-o-init c = outputs_start _ _ _ _

pub is_new-requires : goal.is_new-requires
is_new-requires c = let pre = c.requires in
    outputs_held _ _ _ _ _ _ c.loop-o.invariant pre.text pre.design pre.ready

pub returns-then-not-is_new : goal.returns-then-not-is_new
returns-then-not-is_new c =
    outputs_stopped _ _ _ _ _ _ c.loop-o.invariant c.loop-o-test.true (λ e h. sym c.if-not-is_new.true ∙ c.is_new.ensures e h)

pub with_output-sheet-requires : goal.with_output-sheet-requires
with_output-sheet-requires c = let pre = c.requires in
    outputs_room _ _ _ _ _ _ c.loop-o.invariant c.loop-o-test.true pre.text pre.design pre.ready

pub loop-o-preserved : goal.loop-o-preserved
loop-o-preserved c = outputs_more _ _ _ _ _ _ c.loop-o.invariant c.loop-o-test.true _ (λ e h. sym c.if-not-is_new.false ∙ c.is_new.ensures e h) c.with_output-sheet.ensures

pub returns : goal.returns
returns c = outputs_all _ _ _ _ _ _ c.loop-o.invariant c.loop-o-test.false
