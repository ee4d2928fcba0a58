-- What the code that reads words and looks names up answers, by the definitions of names. Assumes nothing.
use Rattle.std.specs.Prelude.{◌≡◌, true, false, List, map, ℕ, ◌-◌, ◌≤◌, ◌<◌, length, get_or, take, drop, Option, Some, None}
use Rattle.names.specs.Name.{word, after_word, same_name, among}
use Rattle.names.specs.Name as spec
use Rattle.names.specs.Pack.{name_of}
use Rattle.names.specs.declared.Operator.{Operator}
use Rattle.names.specs.declared.Operator.TheVariants.{Not, And, Or, Xor}

-- the word that starts at a place ends at e
pub record WordEnd (s : List ℕ) (at e : ℕ) : Type 0 where
  pub after-start : at ≤ e
  pub inside : e ≤ length s
  pub is_word : take (e - at) (drop at s) ≡ word (drop at s)
  pub is_rest : drop e s ≡ after_word (drop at s)

abbrev pub operator_of : Option Operator → spec.Operator
operator_of (Some Not) = spec.not_op
operator_of (Some And) = spec.and_op
operator_of (Some Or) = spec.or_op
operator_of (Some Xor) = spec.xor_op
operator_of None = spec.none_op

-- where the name that v holds stands first among names held as numbers
unfoldable pub PositionIs : List ℕ → ℕ → Option ℕ → Type 0
PositionIs vs v (Some i) =
    (i < length vs)
    × (same_name (name_of (get_or vs i 0)) (name_of v) ≡ true)
    × ((k : ℕ) → k < i → same_name (name_of (get_or vs k 0)) (name_of v) ≡ false)
PositionIs vs v None = among (name_of v) (map name_of vs) ≡ false
