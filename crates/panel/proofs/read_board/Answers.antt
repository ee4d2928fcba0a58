-- `read_board`: the size, and then line after line. Assumes nothing.
use Rattle.std.proofs.Common.{sym, refl, ◌∙◌}
use Rattle.sheet.specs.Lines.{read_bound}
use Rattle.panel.specs.BoardLaws.{there, missing, board_not_sized, no_bound, no_second, no-limit, third-line, board-right}
use Rattle.panel.proofs.read_board.Goals as goal

pub returns-then-not-sized : goal.returns-then-not-sized
returns-then-not-sized c = board_not_sized _ _ (sym c.if-not-sized.true ∙ c.sized.ensures) (record { number = refl; line = refl })

pub returns-then-is_none : goal.returns-then-is_none
unfolding read_bound
returns-then-is_none c =
    let none = missing c.names_line.result c.if-is_none.ensures in
    no_bound c.args.b.now (sym c.if-not-sized.false ∙ c.sized.ensures) c.line_end-bound.result c.line_end-bound.ensures
    (rw none at c.names_line.ensures) c.misspelled.result c.misspelled.ensures

pub returns-then-b-bound : goal.returns-then-b-bound
unfolding read_bound
returns-then-b-bound c =
    let w = there c.names_line.result c.if-is_none.ensures in
    let is = w.1 in
    no_second c.args.b.now (sym c.if-not-sized.false ∙ c.sized.ensures) c.line_end-bound.result c.line_end-bound.ensures
    w.0 (rw is at c.names_line.ensures) c.if-b-bound.true c.misspelled-then-b-bound.result c.misspelled-then-b-bound.ensures

pub returns-then-is_none-2 : goal.returns-then-is_none-2
unfolding read_bound
returns-then-is_none-2 c =
    let w = there c.names_line.result c.if-is_none.ensures in
    let is = w.1 in
    let none = missing c.limit_line.result c.if-is_none-2.ensures in
    no-limit c.args.b.now (sym c.if-not-sized.false ∙ c.sized.ensures) c.line_end-bound.result c.line_end-bound.ensures
    w.0 (rw is at c.names_line.ensures) c.if-b-bound.false c.line_end-limit.result c.line_end-limit.ensures
    (rw none at c.limit_line.ensures) c.misspelled-then-is_none-2.result c.misspelled-then-is_none-2.ensures

pub returns-then-limit-b : goal.returns-then-limit-b
unfolding read_bound
returns-then-limit-b c =
    let w = there c.names_line.result c.if-is_none.ensures in
    let is = w.1 in
    let n = there c.limit_line.result c.if-is_none-2.ensures in
    let limit_is = n.1 in
    third-line c.args.b.now (sym c.if-not-sized.false ∙ c.sized.ensures) c.line_end-bound.result c.line_end-bound.ensures
    w.0 (rw is at c.names_line.ensures) c.if-b-bound.false c.line_end-limit.result c.line_end-limit.ensures
    n.0 (rw limit_is at c.limit_line.ensures) c.if-limit-b.true c.misspelled-then-limit-b.result c.misspelled-then-limit-b.ensures

pub returns : goal.returns
unfolding read_bound
returns c =
    let w = there c.names_line.result c.if-is_none.ensures in
    let is = w.1 in
    let n = there c.limit_line.result c.if-is_none-2.ensures in
    let limit_is = n.1 in
    board-right c.args.b.now (sym c.if-not-sized.false ∙ c.sized.ensures) c.line_end-bound.result c.line_end-bound.ensures
    w.0 (rw is at c.names_line.ensures) c.if-b-bound.false c.line_end-limit.result c.line_end-limit.ensures
    n.0 (rw limit_is at c.limit_line.ensures) c.if-limit-b.false
