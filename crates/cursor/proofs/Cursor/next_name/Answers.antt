-- `Cursor::next_name`: a bracket, or a space and what is read after it. Assumes nothing.
use Rattle.cursor.specs.NextNameLaws.{bracket_ends, name_next, no_name_bad, other_bad}
use Rattle.cursor.proofs.Cursor.next_name.Goals as goal

pub returns-in-Some : goal.returns-in-Some
returns-in-Some c = bracket_ends _ _ c.in-Some.next c.in-Some.ensures

pub returns-in_err-first : goal.returns-in_err-first
returns-in_err-first c = rw c.from_residual.ensures (other_bad _ c.in_default.ensures c.in_err-first.ensures)

pub returns-in_err-v : goal.returns-in_err-v
returns-in_err-v c = rw c.from_residual-in_err-v.ensures (no_name_bad _ _ c.in_ok-first.first c.in_ok-first.ensures c.in_err-v.ensures)

pub returns : goal.returns
returns c = name_next _ _ c.in_ok-first.first c.in_ok-first.ensures _ _ c.in_ok-v.ensures
