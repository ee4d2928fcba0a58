-- What `map_err` hands on of an answer: the same value, or what the closure makes of the error. Assumes nothing.
use Rattle.std.specs.Prelude.{◌≡◌, refl, Result, Ok, Err, MatchResult, IsErrAnd}
use Rattle.std.proofs.Common.{sym, subst, ◌∙◌}
use Rattle.std.specs.Result.{is_ok}
use Rattle.std.proofs.Math.Path.{ap}
use Rattle.bits.specs.LogicLaws.{true_false}

module _ {A E F : Type 0} (r : Result A E) (m : Result A F) (P : E → F → Type 0) where
  pub handed_value : (x : A) → MatchResult r (λ y. m ≡ Ok y) (λ e. IsErrAnd m (P e)) → m ≡ Ok x → r ≡ Ok x
  handed_value x h e = go r h
    where
      go : (q : Result A E) → MatchResult q (λ y. m ≡ Ok y) (λ d. IsErrAnd m (P d)) → q ≡ Ok x
      go (Ok y) k =
          let s : ◌≡◌ {A = Result A F} (Ok y) (Ok x) = sym k ∙ e in
          let t : y ≡ x = cc in
          ap Ok t
      go (Err d) k = absurd (subst (λ (z : Result A F). IsErrAnd z (P d)) e k)

  pub handed_error : (f : F) → MatchResult r (λ y. m ≡ Ok y) (λ e. IsErrAnd m (P e)) → m ≡ Err f → (e : E) × (r ≡ Err e) × P e f
  handed_error f h e = go r h
    where
      go : (q : Result A E) → MatchResult q (λ y. m ≡ Ok y) (λ d. IsErrAnd m (P d)) → (d : E) × (q ≡ Err d) × P d f
      go (Ok y) k = absurd (true_false (ap is_ok (sym k ∙ e)))
      go (Err d) k = (d, refl, subst (λ (z : Result A F). IsErrAnd z (P d)) e k)
