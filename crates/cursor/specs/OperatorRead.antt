-- The word at a place as an operator, if any, and the text after the word. Assumes nothing.
use Rattle.std.specs.Prelude.{◌≡◌, List, ℕ, ◌≤◌, length, drop, Option}
use Rattle.names.specs.Name.{word, after_word, operator}
use Rattle.names.specs.Word.{operator_of}
use Rattle.names.specs.declared.Operator.{Operator}

pub record OperatorIs (s : List ℕ) (at e : ℕ) (o : Option Operator) : Type 0 where
  pub inside : e ≤ length s
  pub is_operator : operator_of o ≡ operator (word (drop at s))
  pub is_rest : drop e s ≡ after_word (drop at s)
