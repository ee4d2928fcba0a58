-- The outcomes on a sheet that says a design are the design's outcomes, and the other way round. Assumes nothing.
use Rattle.std.specs.Prelude.{◌≡◌, refl, List, ℕ}
use Rattle.std.proofs.Common.{sym, subst}
use Rattle.sheet.specs.Examine.{Design, Examined, refused, valid}
use Rattle.mapper.specs.Map.{MapAnswer, refused_by, OutcomeFor, RefusedSheet, OutcomeOf}

module _ {x : Examined} {b : List ℕ} {a : MapAnswer} {b' : List ℕ} where
  pub outcome_for : (d : Design) → x ≡ valid d → OutcomeOf x b a b' → OutcomeFor d b a b'
  outcome_for d e o = subst (λ (y : Examined). OutcomeOf y b a b') e o

  pub outcome_refused : (q l : ℕ) → x ≡ refused q l → OutcomeOf x b a b' → RefusedSheet q l b a b'
  outcome_refused q l e o = subst (λ (y : Examined). OutcomeOf y b a b') e o

  pub outcome_of : (d : Design) → x ≡ valid d → OutcomeFor d b a b' → OutcomeOf x b a b'
  outcome_of d e o = subst (λ (y : Examined). OutcomeOf y b a b') (sym e) o

-- a refusal of the examination, as Map's outcome
pub refusal_outcome : {x : Examined} (q l : ℕ) (b : List ℕ) → x ≡ refused q l → OutcomeOf x b (refused_by q l) b
refusal_outcome q l b e =
    subst (λ (y : Examined). OutcomeOf y b (refused_by q l) b) (sym e) (record { refusal = refl; untouched = refl })
