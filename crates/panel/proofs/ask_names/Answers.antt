-- `ask_names`: the inputs' names, and then the outputs'. Assumes nothing.
use Rattle.std.proofs.Common.{◌≡◌, refl, rules}
use Rattle.std.proofs.Math.Option.{some}
use Rattle.std.proofs.lemmas.Result.{err_from_is_err_and}
use Rattle.sheet.specs.Examine.{nothing}
use Rattle.design.specs.HandedLaws.{handed_value, handed_error}
use Rattle.design.specs.ExamineLaws.{no_at}
use Rattle.platext.specs.Lines.{input_names_line}
use Rattle.panel.specs.AskLaws.{design_of, inputs_passed, inputs_refused, names_ready, names_asked}
use Rattle.panel.proofs.ask_names.Goals as goal

pub returns-in_err-inputs : goal.returns-in_err-inputs
returns-in_err-inputs c = λ x r p.
    let a = err_from_is_err_and c.from_residual.result c.from_residual.ensures.1 in
    let h = handed_error c.asked_in.result c.map_err.result _ c.in_err-inputs.field-0.0 c.map_err.ensures.cases c.in_err-inputs.was in
    let is = h.1 in
    let refusal : c.in_err-inputs.field-0.0 ≡ no_at h.0 input_names_line = search rules in
    let step = c.asked_in.ensures nothing (some x.inputs) r.inputs_listed c.blank.ensures (record { no_bound = refl; no_outputs = refl }) in
    rw (a.1, a.2, refusal) (inputs_refused x h.0 (rw is at step))

pub ask_outputs-requires : goal.ask_outputs-requires
ask_outputs-requires c =
    let pre = c.requires in
    let x = pre.text in
    let is = handed_value c.asked_in.result c.map_err.result _ c.in_ok-inputs.inputs c.map_err.ensures.cases c.in_ok-inputs.was in
    let step = c.asked_in.ensures nothing (some x.inputs) pre.read_as.inputs_listed c.blank.ensures (record { no_bound = refl; no_outputs = refl }) in
    let passed = inputs_passed x c.in_ok-inputs.inputs (rw is at step) in
    record {
      text = x;
      design = design_of x;
      ready = names_ready _ x c.args.t _ _ pre.read_as pre.fitting pre passed (c.tables.ensures x pre.read_as);
    }

pub returns : goal.returns
returns c = λ x r p.
    let pre = c.requires in
    let is = handed_value c.asked_in.result c.map_err.result _ c.in_ok-inputs.inputs c.map_err.ensures.cases c.in_ok-inputs.was in
    let step = c.asked_in.ensures nothing (some x.inputs) r.inputs_listed c.blank.ensures (record { no_bound = refl; no_outputs = refl }) in
    let passed = inputs_passed x c.in_ok-inputs.inputs (rw is at step) in
    names_asked x _ c.ask_outputs.result passed
    (c.ask_outputs.ensures x (design_of x) (names_ready _ x c.args.t _ _ r p pre passed (c.tables.ensures x r)))
