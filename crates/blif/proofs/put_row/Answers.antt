-- `put_row`: nothing, or the values of the inputs and what ends the line. Assumes nothing.
use native.Mathlib.Omega.{arith}
use Rattle.blif.specs.RowLaws.{row_absent, row_alone, row_many}
use Rattle.blif.proofs.put_row.Goals as goal

pub returns-then-digit-ne49 : goal.returns-then-digit-ne49
returns-then-digit-ne49 c = let args = c.args in
    row_absent args.n args.r args.digit _ _ c.if-digit-ne49.true

pub put_text-requires : goal.put_text-requires
put_text-requires c = let pre = c.requires in
    omega (arith, pre, c.put_inputs-p.ensures.place, c.put_inputs-p.ensures.short)

pub returns-then-n-eq0 : goal.returns-then-n-eq0
returns-then-n-eq0 c = let args = c.args in
    row_alone args.n args.r args.digit c.if-digit-ne49.false c.put_inputs-p.ensures c.if-n-eq0.true c.put_text.ensures

pub put_text-requires-2 : goal.put_text-requires-2
put_text-requires-2 c = let pre = c.requires in
    omega (arith, pre, c.put_inputs-p.ensures.place, c.put_inputs-p.ensures.short)

pub returns : goal.returns
returns c = let args = c.args in
    row_many args.n args.r args.digit c.if-digit-ne49.false c.put_inputs-p.ensures c.if-n-eq0.false c.put_text-2.ensures
