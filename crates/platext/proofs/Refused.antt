-- The bad line that a `?` hands on, where `ok_or` has named it. Assumes nothing.
use Rattle.std.specs.Prelude.{◌≡◌, ℕ, Result, Err}
use Rattle.std.proofs.Common.{◌∙◌, ap}
use Rattle.std.specs.Result.{IsErrAnd}
use Rattle.std.proofs.lemmas.Result.{err_from_is_err_and}

pub refused : {T A : Type 0} (r : Result T ℕ) (e n : ℕ) → IsErrAnd r (λ (y : ℕ). y ≡ e) → ◌≡◌ {A = Result A ℕ} (Err e) (Err n) → r ≡ Err n
refused r e n x v =
    let p = err_from_is_err_and r x in
    let same : e ≡ n = cc in
    p.1 ∙ ap Err (p.2 ∙ same)
