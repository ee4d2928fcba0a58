-- What is told of a cause says which it is: 0 is told exactly where there is none. Assumes nothing.
use Rattle.std.specs.Prelude.{◌≡◌, refl, ℕ, ◌≤◌}
use Rattle.std.proofs.Common.{sym, ◌∙◌, subst, arith}
use Rattle.sheet.specs.Examine.{Examined, refused, valid}
use Rattle.mapper.specs.Cause.{CauseAnswer, no_cause, outputs_of, CauseFor, too_many_classes, mapped, refused_by_8, CauseOf}
use Rattle.mapper.specs.CauseFunctionLaws.{none_named, same_set}
use Rattle.reports.specs.Report.{cause_report, ReportedCause}

-- a set that is named is not empty
named-filled : (x : Examined) (s : ℕ) → CauseOf x (outputs_of s) → 1 ≤ s
named-filled (refused q l) s e = absurd (none_named (sym e))
named-filled (valid d) s c = filled c refl
  where
    filled : {a : CauseAnswer} → CauseFor d a → a ≡ outputs_of s → 1 ≤ s
    filled (too_many_classes h) e = absurd (none_named e)
    filled (mapped h w) e = absurd (none_named e)
    filled (refused_by_8 t h n k) e = subst (λ (u : ℕ). 1 ≤ u) (same_set e) k.outputs.filled

pub told_none : (x : Examined) (n : ℕ) → ReportedCause x n → n ≡ 0 → CauseOf x no_cause
told_none x n r e = go r.answer r.caused (sym r.reported ∙ e)
  where
    go : (a : CauseAnswer) → CauseOf x a → cause_report a ≡ 0 → CauseOf x no_cause
    go no_cause c f = c
    go (outputs_of s) c f = let h = named-filled x s c in absurd (omega (arith, f, h))

pub told_outputs : (x : Examined) (n : ℕ) → ReportedCause x n → (n ≡ 0 → ⊥) → CauseOf x (outputs_of n)
told_outputs x n r h = go r.answer r.caused r.reported
  where
    go : (a : CauseAnswer) → CauseOf x a → n ≡ cause_report a → CauseOf x (outputs_of n)
    go no_cause c f = absurd (h f)
    go (outputs_of s) c f = subst (λ (u : ℕ). CauseOf x (outputs_of u)) (sym f) c
