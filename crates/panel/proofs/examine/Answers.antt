-- `examine`: one law for each way out. In each answer `w` is what question 12 passed: what the PLA text says; and `none` is
-- question 14: that there is no other mark. Assumes nothing.
use Rattle.std.proofs.Common.{◌≡◌, sym, rules}
use Rattle.std.proofs.lemmas.Result.{err_from_is_err_and}
use Rattle.refusal.specs.declared.Question.{Question}
use Rattle.design.specs.HandedLaws.{handed_value, handed_error}
use Rattle.design.specs.ExamineLaws.{no_at}
use Rattle.platext.specs.TextReadLaws.{pla_print_of_read}
use Rattle.panel.specs.TableLaws.{read_stand}
use Rattle.panel.specs.AskLaws.{panel_refused_early, panel_asked}
use Rattle.panel.specs.PairLaws.{examined, text_read, text-refused, text_readable, many_inputs, many_outputs}
use Rattle.panel.specs.PairLaws.{other-found, board-refused, panel-answered}
use Rattle.panel.proofs.examine.Goals as goal

pub returns-in_err-t : goal.returns-in_err-t
returns-in_err-t c =
    let p = c.args.pla.now in
    let b = c.args.board.now in
    let a = err_from_is_err_and c.from_residual.result c.from_residual.ensures.1 in
    let h = handed_error c.read_text.result c.map_err.result _ c.in_err-t.field-0.0 c.map_err.ensures.cases c.in_err-t.was in
    let is = h.1 in
    let refusal : c.in_err-t.field-0.0 ≡ no_at Question.PlaSpelling h.0 = search rules in
    let e = examined p b _ (text-refused p b h.0 (rw is at c.read_text.ensures)) in
    rw (a.1, a.2, refusal) (record { examined_is = e.0; examination = e.1 })

pub returns-then-t-gt-MAX_INPUTS : goal.returns-then-t-gt-MAX_INPUTS
returns-then-t-gt-MAX_INPUTS c =
    let p = c.args.pla.now in
    let b = c.args.board.now in
    let t = c.in_ok-t.t in
    let is = handed_value c.read_text.result c.map_err.result _ t c.map_err.ensures.cases c.in_ok-t.was in
    let w = text_read p t (rw is at c.read_text.ensures) in
    let e = examined p b _ (many_inputs p t w b c.if-t-gt-MAX_INPUTS.true) in
    record { examined_is = e.0; examination = e.1 }

pub returns-then-t-gt-MAX_OUTPUTS : goal.returns-then-t-gt-MAX_OUTPUTS
returns-then-t-gt-MAX_OUTPUTS c =
    let p = c.args.pla.now in
    let b = c.args.board.now in
    let t = c.in_ok-t.t in
    let is = handed_value c.read_text.result c.map_err.result _ t c.map_err.ensures.cases c.in_ok-t.was in
    let w = text_read p t (rw is at c.read_text.ensures) in
    let e = examined p b _ (many_outputs p t w b c.if-t-gt-MAX_INPUTS.false c.if-t-gt-MAX_OUTPUTS.true) in
    record { examined_is = e.0; examination = e.1 }

pub returns-in-Some : goal.returns-in-Some
returns-in-Some c =
    let p = c.args.pla.now in
    let b = c.args.board.now in
    let t = c.in_ok-t.t in
    let is = handed_value c.read_text.result c.map_err.result _ t c.map_err.ensures.cases c.in_ok-t.was in
    let w = text_read p t (rw is at c.read_text.ensures) in
    let other = c.in-Some.ensures w.text.cubes w.read_as.end (read_stand p w.text t w.read_as) (sym w.read_as.cubes_counted) in
    let e = examined p b _ (other-found p t w b c.if-t-gt-MAX_INPUTS.false c.if-t-gt-MAX_OUTPUTS.false c.in-Some.line other) in
    record { examined_is = e.0; examination = e.1 }

pub returns-in_err-b : goal.returns-in_err-b
returns-in_err-b c =
    let p = c.args.pla.now in
    let b = c.args.board.now in
    let t = c.in_ok-t.t in
    let is = handed_value c.read_text.result c.map_err.result _ t c.map_err.ensures.cases c.in_ok-t.was in
    let w = text_read p t (rw is at c.read_text.ensures) in
    let a = err_from_is_err_and c.from_residual-in_err-b.result c.from_residual-in_err-b.ensures.1 in
    let none = c.in_default.ensures w.text.cubes w.read_as.end (read_stand p w.text t w.read_as) (sym w.read_as.cubes_counted) in
    let e = examined p b _ (board-refused p t w b c.if-t-gt-MAX_INPUTS.false c.if-t-gt-MAX_OUTPUTS.false none c.in_err-b.field-0.0 c.in_err-b.ensures) in
    rw (a.1, a.2) (record { examined_is = e.0; examination = e.1 })

pub ask_names-requires : goal.ask_names-requires
ask_names-requires c =
    let p = c.args.pla.now in
    let t = c.in_ok-t.t in
    let is = handed_value c.read_text.result c.map_err.result _ t c.map_err.ensures.cases c.in_ok-t.was in
    let w = text_read p t (rw is at c.read_text.ensures) in
    text_readable p t w c.if-t-gt-MAX_OUTPUTS.false

pub returns-in_err-k : goal.returns-in_err-k
returns-in_err-k c =
    let p = c.args.pla.now in
    let b = c.args.board.now in
    let t = c.in_ok-t.t in
    let is = handed_value c.read_text.result c.map_err.result _ t c.map_err.ensures.cases c.in_ok-t.was in
    let w = text_read p t (rw is at c.read_text.ensures) in
    let a = err_from_is_err_and c.from_residual-in_err-k.result c.from_residual-in_err-k.ensures.1 in
    let none = c.in_default.ensures w.text.cubes w.read_as.end (read_stand p w.text t w.read_as) (sym w.read_as.cubes_counted) in
    let asked = c.in_err-k.ensures w.text w.read_as (pla_print_of_read p w.text w.is_read).writable in
    let e =
    examined p b _
    (panel-answered p t w b c.if-t-gt-MAX_INPUTS.false c.if-t-gt-MAX_OUTPUTS.false none c.in_ok-b.b c.in_ok-b.ensures _
    (λ bs n v. panel_refused_early w.text bs n c.in_err-k.field-0.0 asked)) in
    rw (a.1, a.2) (record { examined_is = e.0; examination = e.1 })

pub ask_board-requires : goal.ask_board-requires
ask_board-requires c =
    let p = c.args.pla.now in
    let t = c.in_ok-t.t in
    let is = handed_value c.read_text.result c.map_err.result _ t c.map_err.ensures.cases c.in_ok-t.was in
    let w = text_read p t (rw is at c.read_text.ensures) in
    let asked = c.in_ok-k.ensures w.text w.read_as (pla_print_of_read p w.text w.is_read).writable in
    record { design = asked.design; holds = asked.holds }

pub returns : goal.returns
returns c =
    let p = c.args.pla.now in
    let b = c.args.board.now in
    let t = c.in_ok-t.t in
    let is = handed_value c.read_text.result c.map_err.result _ t c.map_err.ensures.cases c.in_ok-t.was in
    let w = text_read p t (rw is at c.read_text.ensures) in
    let none = c.in_default.ensures w.text.cubes w.read_as.end (read_stand p w.text t w.read_as) (sym w.read_as.cubes_counted) in
    let asked = c.in_ok-k.ensures w.text w.read_as (pla_print_of_read p w.text w.is_read).writable in
    let e =
    examined p b _
    (panel-answered p t w b c.if-t-gt-MAX_INPUTS.false c.if-t-gt-MAX_OUTPUTS.false none c.in_ok-b.b c.in_ok-b.ensures c.ask_board.result
    (λ bs n v.
    panel_asked w.text bs n c.in_ok-k.k c.ask_board.result asked (λ d h. c.ask_board.ensures d bs n h v.bound_read v.limit_read))) in
    record { examined_is = e.0; examination = e.1 }
