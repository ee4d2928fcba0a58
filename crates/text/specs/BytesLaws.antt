-- `same` tells whether two texts are equal, and the text from a place on has no more bytes than are left. Assumes nothing.
use Rattle.std.specs.Prelude.{◌≡◌, refl, true, false, List, [], ◌∷◌, ℕ, ◌-◌, eqb, length, take, drop}
use Rattle.std.proofs.Common.{sym, ap₂, eq-eqb, eqb-true, length-drop}
use Rattle.std.proofs.Math.Seq.{take-length}
use Rattle.bits.specs.LogicLaws.{true_false, and_left, and_right, false_unless}
use Rattle.text.specs.Bytes.{same}

pub same_self : (a : List ℕ) → same a a ≡ true
unfolding same
same_self [] = refl
same_self (b ∷ s) = rw (eq-eqb b b refl) (same_self s)

pub equal_same : (a b : List ℕ) → a ≡ b → same a b ≡ true
equal_same a b e = rw e (same_self b)

pub same_equal : (a b : List ℕ) → same a b ≡ true → a ≡ b
unfolding same
same_equal [] [] e = refl
same_equal [] (b ∷ t) e = absurd (true_false (sym e))
same_equal (a ∷ s) [] e = absurd (true_false (sym e))
same_equal (a ∷ s) (b ∷ t) e =
    ap₂ (λ (x : ℕ) (l : List ℕ). x ∷ l)
    (eqb-true a b (and_left (eqb a b) (same s t) e))
    (same_equal s t (and_right (eqb a b) (same s t) e))

pub differ_same : (a b : List ℕ) → (a ≡ b → ⊥) → same a b ≡ false
differ_same a b h = false_unless (same a b) (λ e. h (same_equal a b e))

-- a slice from a place to the end
pub from_here : (s : List ℕ) (at : ℕ) → take (length s - at) (drop at s) ≡ drop at s
from_here s at = rw (← length-drop at s) (take-length (drop at s))
