-- Map and the cause are functions of a PLA panel, as of whatever is examined. Assumes nothing.
use Rattle.std.specs.Prelude.{◌≡◌, List, ℕ}
use Rattle.mapper.specs.Map.{MapAnswer, OutcomeOf}
use Rattle.mapper.specs.Cause.{CauseAnswer, CauseOf}
use Rattle.mapper.proofs.OneOutcome.{examined_one}
use Rattle.mapper.specs.CauseFunctionLaws.{cause_of_one}
use Rattle.panel.specs.Examine.{examine}

pub panel_outcome_one : (p s b : List ℕ) (a a' : MapAnswer) (b' b'' : List ℕ)
    → OutcomeOf (examine p s) b a b'
    → OutcomeOf (examine p s) b a' b''
    → (a ≡ a') × (b' ≡ b'')
panel_outcome_one p s b a a' b' b'' o q = examined_one (examine p s) b a a' b' b'' o q

pub panel_cause_one : (p s : List ℕ) (a c : CauseAnswer) → CauseOf (examine p s) a → CauseOf (examine p s) c → a ≡ c
panel_cause_one p s = cause_of_one (examine p s)
