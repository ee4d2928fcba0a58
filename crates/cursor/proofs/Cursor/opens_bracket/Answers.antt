-- `Cursor::opens_bracket`: the operator of the word decides where a space follows; else nothing opens. Assumes nothing.
use Rattle.std.proofs.Common.{ap, ◌∙◌, Some}
use Rattle.names.specs.declared.Operator.TheVariants.{Not, And, Or, Xor}
use Rattle.cursor.specs.OpenedLaws.{word_operator, operator_opened, no_operator_bad, unspaced_bad, bracket_bad}
use Rattle.cursor.proofs.Cursor.opens_bracket.Goals as goal

pub returns-in_err-word : goal.returns-in_err-word
returns-in_err-word c = rw c.from_residual.ensures (bracket_bad _ c.requires c.in_err-word.ensures)

pub returns-in_err-operator : goal.returns-in_err-operator
returns-in_err-operator c =
    rw c.from_residual-in_err-operator.ensures
    (no_operator_bad _ _ c.requires c.in_ok-word.word c.in_ok-word.ensures _ _ (word_operator c.word_end-e.ensures c.operator_word.ensures) c.in_err-operator.was)

pub returns-in_err-next : goal.returns-in_err-next
returns-in_err-next c =
    rw c.from_residual-in_err-next.ensures
    (unspaced_bad _ _ c.requires c.in_ok-word.word c.in_ok-word.ensures _ _ (word_operator c.word_end-e.ensures c.operator_word.ensures) c.in_err-next.ensures)

pub returns-in-Not : goal.returns-in-Not
returns-in-Not c =
    operator_opened _ _ c.requires c.in_ok-word.word c.in_ok-word.ensures _ _ (word_operator c.word_end-e.ensures c.operator_word.ensures) Not c.in_ok-next.next
    (c.in_ok-operator.was ∙ ap Some c.in-Not.is) c.in_ok-next.ensures

pub returns-in-And : goal.returns-in-And
returns-in-And c =
    operator_opened _ _ c.requires c.in_ok-word.word c.in_ok-word.ensures _ _ (word_operator c.word_end-e.ensures c.operator_word.ensures) And c.in_ok-next.next
    (c.in_ok-operator.was ∙ ap Some c.in-And.is) c.in_ok-next.ensures

pub returns-in-Or : goal.returns-in-Or
returns-in-Or c =
    operator_opened _ _ c.requires c.in_ok-word.word c.in_ok-word.ensures _ _ (word_operator c.word_end-e.ensures c.operator_word.ensures) Or c.in_ok-next.next
    (c.in_ok-operator.was ∙ ap Some c.in-Or.is) c.in_ok-next.ensures

pub returns-in-Xor : goal.returns-in-Xor
returns-in-Xor c =
    operator_opened _ _ c.requires c.in_ok-word.word c.in_ok-word.ensures _ _ (word_operator c.word_end-e.ensures c.operator_word.ensures) Xor c.in_ok-next.next
    (c.in_ok-operator.was ∙ ap Some c.in-Xor.is) c.in_ok-next.ensures
