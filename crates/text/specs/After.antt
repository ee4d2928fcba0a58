-- Reading one item after another: when two ways to go on find the same, and an item that one byte ends. Assumes nothing.
use Rattle.std.specs.Prelude.{◌≡◌, refl, List, [], ◌∷◌, ℕ}
use Rattle.std.proofs.Common.{ap, ◌∙◌}
use Rattle.text.specs.Bytes.{Read, found, bad, after, eat}
use Rattle.text.specs.EatLaws.{found-item, found-rest, eat-found, after-found}

pub after_same : {A B : Type 0} (r : Read A) (f g : A → List ℕ → Read B) → ((a : A) (t : List ℕ) → r ≡ found a t → f a t ≡ g a t)
    → after r f ≡ after r g
after_same (found a s) f g h = h a s refl
after_same bad f g h = refl

pub byte_found : {A : Type 0} (b : ℕ) (a c : A) (s t : List ℕ) → after (eat (b ∷ []) s) (λ _ u. found a u) ≡ found c t → (a ≡ c) × (s ≡ b ∷ t)
byte_found b a c s t e =
    let (x, u, f, g) = after-found (eat (b ∷ []) s) (λ _ u. found a u) c t e in
    (found-item g, eat-found (b ∷ []) s u f ∙ ap (λ (v : List ℕ). b ∷ v) (found-rest g))
