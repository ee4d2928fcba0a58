-- The step over any set of digits: a bound digit stays, and a free digit changes exactly where every digit below it is 1 or
-- bound. Assumes nothing.
use Rattle.std.specs.Prelude.{◌≡◌, refl, Bool, true, false, ℕ, ◌+◌, ◌≤◌, ◌^◌, ◌<◌}
use Rattle.std.proofs.Common.{ap, ◌∙◌, arith}
use Rattle.std.proofs.Math.Path.{ap₂}
use Rattle.std.specs.Int.Bits.{bit_and, bit_or}
use Rattle.std.proofs.lemmas.Nat.{and_le_r, or_lt}
use Rattle.bits.specs.Logic.{andb, orb, xorb}
use Rattle.bits.specs.Digit.{on}
use Rattle.bits.specs.DigitLaws.{on_and, on_or, on_or_none}
use Rattle.bits.specs.Carry.{full}
use Rattle.bits.specs.CarryLaws.{on_next}
use Rattle.rows.specs.Step.{stepped}

of_bound : (carried kept : Bool) → orb (andb carried false) (andb kept true) ≡ kept
of_bound true true = refl
of_bound true false = refl
of_bound false true = refl
of_bound false false = refl

of_free : (carried kept : Bool) → orb (andb carried true) (andb kept false) ≡ carried
of_free true true = refl
of_free true false = refl
of_free false true = refl
of_free false false = refl

module _ (bound free r k : ℕ) where
  step_on : on (stepped bound free r) k ≡ orb (andb (on (bit_or r bound + 1) k) (on free k)) (andb (on r k) (on bound k))
  unfolding stepped
  step_on =
      on_or (bit_and (bit_or r bound + 1) free) (bit_and r bound) k
      ∙ ap₂ orb (on_and (bit_or r bound + 1) free k) (on_and r bound k)

  pub step_bound : on bound k ≡ true → on free k ≡ false → on (stepped bound free r) k ≡ on r k
  step_bound b f =
      step_on
      ∙ ap₂ (λ (x y : Bool). orb (andb (on (bit_or r bound + 1) k) x) (andb (on r k) y)) f b
      ∙ of_bound (on (bit_or r bound + 1) k) (on r k)

  pub step_free : on bound k ≡ false → on free k ≡ true → on (stepped bound free r) k ≡ xorb (on r k) (full (bit_or r bound) k)
  step_free b f =
      step_on
      ∙ ap₂ (λ (x y : Bool). orb (andb (on (bit_or r bound + 1) k) x) (andb (on r k) y)) f b
      ∙ of_free (on (bit_or r bound + 1) k) (on r k)
      ∙ on_next (bit_or r bound) k
      ∙ ap (λ (x : Bool). xorb x (full (bit_or r bound) k)) (on_or_none r bound k b)

-- the step stays within the digits that there are
pub step_lt : (w bound free r : ℕ) → bound < 2 ^ w → free < 2 ^ w → stepped bound free r < 2 ^ w
unfolding stepped
step_lt w bound free r b f =
    let x : bit_and (bit_or r bound + 1) free ≤ free = and_le_r (bit_or r bound + 1) free in
    let y : bit_and r bound ≤ bound = and_le_r r bound in
    or_lt w (bit_and (bit_or r bound + 1) free) (bit_and r bound) (omega arith) (omega arith)
