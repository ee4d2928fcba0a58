-- Vertices are merged only where the same is known of cell 0 at both, so the digits of a class's first vertex are those of the
-- whole class, and none is lost. Assumes nothing.
use Rattle.std.specs.Prelude.{◌≡◌, refl, Bool, true, false, List, Option, Some, None, ℕ, ◌+◌, ◌-◌, ◌^◌, ◌≤◌, ◌<◌}
use Rattle.std.proofs.Common.{sym, ap, ◌∙◌, subst, ⊎_elim, arith, eq-eqb, ne_eqb}
use Rattle.std.proofs.Math.Decide.{dec_lt}
use mathlib.Core.Bool.{beq}
use Rattle.std.specs.Bool.{then_some}
use Rattle.std.specs.Option.{option_eq}
use Rattle.std.specs.Int.Bits.{bit_and}
use Rattle.std.proofs.lemmas.Nat.{and_le_r}
use Rattle.limits.specs.declared.Vertex.{Vertex}
use Rattle.bits.specs.Logic.{andb, orb}
use Rattle.bits.specs.Digit.{on}
use Rattle.bits.specs.DigitLaws.{on_and, on-ones, on_zero, equal_digits}
use Rattle.bits.specs.LogicLaws.{and_true, or_true, or_false}
use Rattle.bits.specs.CountLaws.{less_or_equal}
use Rattle.cells.specs.Sets.{With}
use Rattle.joint.specs.Digits.{vertex_at, known_at, Drawn}

pub unknown_at : (kn val x : ℕ) → on kn x ≡ false → None ≡ known_at kn val x
unknown_at kn val x e = sym (ap (λ (a : Bool). then_some a (on val x)) e)

pub one_at : (kn val x : ℕ) → on kn x ≡ true → on val x ≡ true → Some true ≡ known_at kn val x
one_at kn val x e d = sym (ap (λ (a : Bool). then_some a (on val x)) e ∙ ap (λ (a : Bool). Some a) d)

pub zero_at : (kn val x : ℕ) → on kn x ≡ true → on val x ≡ false → Some false ≡ known_at kn val x
zero_at kn val x e d = sym (ap (λ (a : Bool). then_some a (on val x)) e ∙ ap (λ (a : Bool). Some a) d)

pub known_same : (kn val x y : ℕ) → known_at kn val x ≡ known_at kn val y → on kn x ≡ on kn y
known_same kn val x y e = go (on kn x) (on val x) (on kn y) (on val y) e
  where
    go : (a b c d : Bool) → then_some a b ≡ then_some c d → a ≡ c
    go true b true d e = refl
    go false b false d e = refl
    go true b false d e = cc
    go false b true d e = cc

pub digit_same : (kn val x y : ℕ) → known_at kn val x ≡ known_at kn val y → on kn x ≡ true → on val x ≡ on val y
digit_same kn val x y e t = go (on kn x) (on val x) (on kn y) (on val y) t e
  where
    go : (a b c d : Bool) → a ≡ true → then_some a b ≡ then_some c d → b ≡ d
    go true b true d t e = cc
    go true b false d t e = cc
    go false b c d t e = cc

-- what is known was compared
pub known_equal : (p q : Option Bool) → option_eq beq p q ≡ true → p ≡ q
known_equal (Some true) (Some true) e = refl
known_equal (Some false) (Some false) e = refl
known_equal None None e = refl
known_equal (Some true) (Some false) e = cc
known_equal (Some false) (Some true) e = cc
known_equal (Some b) None e = cc
known_equal None (Some b) e = cc

pub drawn_start : (s : ℕ) (first : List Vertex) → Drawn s first 0 0
drawn_start s first = record { below = λ i h. absurd (omega arith); rest = λ i h. on_zero i }

pub drawn_none : (s : ℕ) (first : List Vertex) (n : ℕ) → s ≡ 0 → Drawn s first n 0
drawn_none s first n e = record { below = λ i h. on_zero i ∙ sym (ap (λ (z : ℕ). on z (vertex_at first i)) e ∙ on_zero (vertex_at first i)); rest = λ i h. on_zero i }

pub drawn_in : (s : ℕ) (first : List Vertex) (n r r' w : ℕ) → on s (vertex_at first n) ≡ true → With r n w → r' ≡ w → Drawn s first n r → Drawn s first (n + 1) r'
drawn_in s first n r r' w e more a d = subst (Drawn s first (n + 1)) (sym a) (record {
  below = λ i h. ⊎_elim (λ l. more i ∙ ap (orb (on r i)) (ne_eqb i n (λ q. let z : i ≡ n = q in omega arith)) ∙ or_false (on r i) ∙ d.below i l)
      (λ q. subst (λ (z : ℕ). on w z ≡ on s (vertex_at first z)) (sym q) (more n ∙ ap (orb (on r n)) (eq-eqb n n refl) ∙ or_true (on r n) ∙ sym e))
      (less_or_equal i n (omega arith));
  rest = λ i h. more i ∙ ap (orb (on r i)) (ne_eqb i n (λ q. let z : i ≡ n = q in omega arith)) ∙ or_false (on r i) ∙ d.rest i (omega arith);
})

pub drawn_out : (s : ℕ) (first : List Vertex) (n r r' : ℕ) → on s (vertex_at first n) ≡ false → r' ≡ r → Drawn s first n r → Drawn s first (n + 1) r'
drawn_out s first n r r' e a d = subst (Drawn s first (n + 1)) (sym a) (record {
  below = λ i h. ⊎_elim (d.below i) (λ q. subst (λ (z : ℕ). on r z ≡ on s (vertex_at first z)) (sym q) (d.rest n (omega arith) ∙ sym e)) (less_or_equal i n (omega arith));
  rest = λ i h. d.rest i (omega arith);
})

-- the digits of at most 32 classes are those of a number of 32 digits
pub drawn_low : (s : ℕ) (first : List Vertex) (n r : ℕ) → n ≤ 32 → Drawn s first n r → r < 2 ^ 32
drawn_low s first n r h d =
    let e : bit_and r (2 ^ 32 - 1) ≡ r = equal_digits (bit_and r (2 ^ 32 - 1)) r (λ i. on_and r (2 ^ 32 - 1) i ∙ case i (dec_lt i 32)) in
    let w = and_le_r r (2 ^ 32 - 1) in omega arith
  where
    case : (i : ℕ) → Dec (i < 32) → andb (on r i) (on (2 ^ 32 - 1) i) ≡ on r i
    case i (yes l) = ap (andb (on r i)) (on-ones 32 i l) ∙ and_true (on r i)
    case i (no l) = ap (λ (b : Bool). andb b (on (2 ^ 32 - 1) i)) (d.rest i (omega arith)) ∙ sym (d.rest i (omega arith))
