-- `Cursor::number`: the longest part of digits is a number or not. Assumes nothing.
use mathlib.Core.Path.{refl, sym, ◌∙◌}
use native.Mathlib.Omega.{arith}
use Rattle.limits.specs.Limits.{max_pla_digits}
use Rattle.cursor.specs.ReadNumberLaws.{number_short, number_there, no_number}
use Rattle.cursor.proofs.Cursor.number.Goals as goal

pub value-requires : goal.value-requires
value-requires c = let test = sym c.is_number.ensures ∙ c.if-is_number.true in
    (c.numerals_end-e.ensures.numerals, number_short _ _ _ _ (omega arith) (omega arith) max_pla_digits (omega arith) test)

pub returns-then-is_number : goal.returns-then-is_number
returns-then-is_number c = number_there _ _ _ _ _ _ c.numerals_end-e.ensures
    (sym c.is_number.ensures ∙ c.if-is_number.true) c.value.ensures refl

pub returns-else-is_number : goal.returns-else-is_number
returns-else-is_number c = no_number _ _ _ _ c.numerals_end-e.ensures (sym c.is_number.ensures ∙ c.if-is_number.false)
