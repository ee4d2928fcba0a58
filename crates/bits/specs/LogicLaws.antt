-- Laws of truth values: one that is not true is false; what a conjunction, a disjunction and a comparison say; exclusive or
-- with itself and with false. Assumes nothing.
use Rattle.std.specs.Prelude.{◌≡◌, refl, ◌⊎◌, Bool, true, false, not, ◌||◌, ℕ, ◌≤◌}
use Rattle.std.proofs.Common.{sym, ◌∙◌, inl, inr, arith}
use Rattle.std.specs.Bool.{beq}
use Rattle.bits.specs.Logic.{andb, xorb, bit}

pub true_false : true ≡ false → ⊥
true_false e =
    let z : ◌≡◌ {A = ℕ} 0 1 = cc in
    omega arith

pub never_both : {b : Bool} → b ≡ true → b ≡ false → ⊥
never_both e f = true_false (sym e ∙ f)

pub either : (b : Bool) → (b ≡ true) ⊎ (b ≡ false)
either true = inl refl
either false = inr refl

pub same_or_not : (a b : Bool) → (a ≡ b) ⊎ (a ≡ b → ⊥)
same_or_not true true = inl refl
same_or_not true false = inr true_false
same_or_not false true = inr (λ e. true_false (sym e))
same_or_not false false = inl refl

pub false_unless : (b : Bool) → (b ≡ true → ⊥) → b ≡ false
false_unless true h = absurd (h refl)
false_unless false h = refl

pub true_unless : (b : Bool) → (b ≡ false → ⊥) → b ≡ true
true_unless true h = refl
true_unless false h = absurd (h refl)

pub complement_true : (b : Bool) → not b ≡ true → b ≡ false
complement_true true e = sym e
complement_true false e = refl

-- ---- and
pub and_left : (a b : Bool) → andb a b ≡ true → a ≡ true
and_left true b e = refl
and_left false b e = e

pub and_right : (a b : Bool) → andb a b ≡ true → b ≡ true
and_right true b e = e
and_right false b e = absurd (true_false (sym e))

pub and_both : (a b : Bool) → a ≡ true → b ≡ true → andb a b ≡ true
and_both true b e f = f
and_both false b e f = e

pub and_true : (b : Bool) → andb b true ≡ b
and_true true = refl
and_true false = refl

pub and_false : (b : Bool) → andb b false ≡ false
and_false true = refl
and_false false = refl

-- ---- or
pub or_first : (a b : Bool) → a ≡ true → a || b ≡ true
or_first true b e = refl
or_first false b e = absurd (true_false (sym e))

pub or_second : (a b : Bool) → b ≡ true → a || b ≡ true
or_second true b e = refl
or_second false b e = e

pub or_cases : (a b : Bool) → a || b ≡ true → (a ≡ true) ⊎ (b ≡ true)
or_cases true b e = inl refl
or_cases false b e = inr e

pub neither_first : (a b : Bool) → a || b ≡ false → a ≡ false
neither_first true b e = e
neither_first false b e = refl

pub neither_second : (a b : Bool) → a || b ≡ false → b ≡ false
neither_second true b e = absurd (true_false e)
neither_second false b e = e

pub or_true : (b : Bool) → b || true ≡ true
or_true true = refl
or_true false = refl

pub or_false : (b : Bool) → b || false ≡ b
or_false true = refl
or_false false = refl

pub or_assoc : (a b c : Bool) → a || (b || c) ≡ (a || b) || c
or_assoc true b c = refl
or_assoc false b c = refl

-- ---- exclusive or
pub xor_self : (b : Bool) → xorb b b ≡ false
xor_self true = refl
xor_self false = refl

pub xor_false : (b : Bool) → xorb b false ≡ b
xor_false true = refl
xor_false false = refl

pub xor_off : (a b : Bool) → b ≡ false → xorb a b ≡ a
xor_off true b e = rw e refl
xor_off false b e = e

-- ---- equality, and the number of a truth value
pub beq_self : (b : Bool) → beq b b ≡ true
beq_self true = refl
beq_self false = refl

pub beq_equal : (a b : Bool) → beq a b ≡ true → a ≡ b
beq_equal true true e = refl
beq_equal true false e = sym e
beq_equal false true e = e
beq_equal false false e = refl

pub bit_le : (b : Bool) → bit b ≤ 1
bit_le true = omega arith
bit_le false = omega arith
