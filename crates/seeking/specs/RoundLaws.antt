-- A round whose answer is not that it was given up is sure. Assumes nothing.
use Rattle.std.specs.Prelude.{◌≡◌, refl, false}
use Rattle.problem.specs.declared.Answer.{Answer}
use Rattle.problem.specs.declared.Answer.TheVariants.{Found, Nothing, Unsure}
use Rattle.problem.specs.Answer.{is_unsure}

pub not_unsure : {T : Type 0} (a : Answer T) → (a ≡ Unsure → ⊥) → is_unsure a ≡ false
not_unsure (Found k) d = refl
not_unsure Nothing d = refl
not_unsure Unsure d = absurd (d refl)
