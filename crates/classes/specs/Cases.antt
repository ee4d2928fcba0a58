-- A truth value is true or false, with the equation that says which: how the laws here go by cases on a test.
-- Assumes nothing.
use Rattle.std.specs.Prelude.{◌≡◌, refl, Bool, true, false}
use Rattle.std.proofs.Common.{sym}
use Rattle.bits.specs.LogicLaws.{true_false}

pub not_both : (b : Bool) → b ≡ true → b ≡ false → ⊥
not_both true p q = true_false q
not_both false p q = true_false (sym p)

-- two tests that hold together are the same
pub same_test : (a b : Bool) → (a ≡ true → b ≡ true) → (b ≡ true → a ≡ true) → a ≡ b
same_test true true p q = refl
same_test true false p q = sym (p refl)
same_test false true p q = q refl
same_test false false p q = refl
