-- What is said of question 7 at its border holds: the classes were counted, and a sheet with more than 16 is refused by 7. Assumes
-- nothing.
use Rattle.std.specs.Prelude.{◌≡◌, refl, List, ℕ, ◌<◌}
use Rattle.std.proofs.Common.{arith}
use Rattle.limits.specs.Limits.{max_classes}
use Rattle.sheet.specs.Examine.{Design, valid, examine}
use Rattle.classes.specs.Classes.{global_count}
use Rattle.mapper.specs.Map.{MapAnswer, refused_by, OutcomeFor, too_many_classes, no_network, buffer_short, written}
use Rattle.demands.specs.Computing.{computing}
use Rattle.demands.specs.OutcomeLaws.{outcome_for, outcome_of}
use Rattle.demands.specs.Designs.{design_i4, design17}
use Rattle.demands.specs.ClassSheets.{i_classes, i4_classes, classes_17}
use Rattle.demands.specs.CauseSheets.{i_said, i_refused}
use Rattle.demands.specs.Worked.{Refuses}
use Rattle.demands.specs.WorkedClasses.{sheet_i4, sheet17, WorkedClasses}

-- ---- a sheet with too many classes is refused by 7
module _ (s : List ℕ) (d : Design) (e : examine s ≡ valid d) (many : max_classes < global_count d d.bound) where
  says_7 : {b : List ℕ} {a : MapAnswer} {b' : List ℕ} → OutcomeFor d b a b' → (a ≡ refused_by 7 0) × (b' ≡ b)
  says_7 (too_many_classes h) = (refl, refl)
  says_7 (no_network h n) = absurd (omega (arith, h, many))
  says_7 (buffer_short w h p n) = absurd (omega (arith, h, many))
  says_7 (written w h p n) = absurd (omega (arith, h, many))

  refuses_7 : Refuses s 7 0
  refuses_7 =
      record {
        has_outcome = λ b. record { answer = refused_by 7 0; buffer = b; is_outcome = outcome_of d e (too_many_classes many) };
        answers = λ b a b' o. (says_7 (outcome_for d e o)).0;
        untouched = λ b a b' o. (says_7 (outcome_for d e o)).1;
      }

pub worked_classes : WorkedClasses
unfolding computing
worked_classes =
    record {
      said_i = i_said;
      classes_i = i_classes;
      sheet_i_3 = i_refused;
      said_17 = refl;
      classes_17 = classes_17;
      sheet_17_6 = refuses_7 (sheet17 "6") (design17 6) refl (let e = classes_17 6 in omega (arith, e));
      sheet_17_0 = refuses_7 (sheet17 "0") (design17 0) refl (let e = classes_17 0 in omega (arith, e));
      said_i4 = refl;
      classes_i4 = i4_classes;
      sheet_i4_4 = refuses_7 (sheet_i4 "4") (design_i4 4) refl (let e = i4_classes 4 in omega (arith, e));
      sheet_i4_0 = refuses_7 (sheet_i4 "0") (design_i4 0) refl (let e = i4_classes 0 in omega (arith, e));
    }
