-- The table of blocks filled code by code: the codes of one block have one entry, which is made once. And what sets of codes
-- have, digit by digit. Assumes nothing.
use Rattle.std.specs.Prelude.{◌≡◌, refl, Bool, true, false, not, List, ◌⊎◌, ℕ, zero, suc, ◌+◌, ◌-◌, ◌*◌, ◌^◌, ◌<◌, ◌/◌, ◌%◌, eqb, get_or, set}
use Rattle.std.proofs.Common.{sym, ap, ap₂, ◌∙◌, subst, inl, inr, ⊎_elim, arith, length-set, get_or-set_same, get_or-set_other, eq-eqb, ne_eqb}
use Rattle.std.proofs.Math.Decide.{ℕ_discrete}
use Rattle.std.specs.Int.Bits.{bit_and, bit_or}
use Rattle.std.proofs.lemmas.Nat.{and_le_l}
use Rattle.bits.specs.Logic.{andb, orb}
use Rattle.bits.specs.Digit.{on}
use Rattle.bits.specs.DigitLaws.{on_and, on_or, on_single, on_complement, equal_digits}
use Rattle.bits.specs.LogicLaws.{never_both, false_unless, or_true, and_both}
use Rattle.bits.specs.CountLaws.{less_or_equal}
use Rattle.cells.specs.SetsLaws.{on_power_other}
use Rattle.problem.specs.Problem.{item, Block}
use Rattle.holding.specs.Blocks.{Table, Minus, copies, Spans}

-- ======== the table of blocks
pub table_more : (ms : List ℕ) (n : ℕ) (bs : List ℕ) (b : ℕ) → n < 512 → Block (item ms (n / 64)) (n % 64) b → Table ms n bs → Table ms (n + 1) (set bs n b)
table_more ms n bs b h e t = record {
  long = length-set bs n b ∙ t.long;
  filled = λ i l. ⊎_elim
      (λ a. subst (Block (item ms (i / 64)) (i % 64)) (sym (get_or-set_other bs n i b 0 (λ q. let z : i ≡ n = q in omega arith))) (t.filled i a))
      (λ q. subst (λ (i : ℕ). Block (item ms (i / 64)) (i % 64) (get_or (set bs n b) i 0)) (sym q)
      (subst (Block (item ms (n / 64)) (n % 64)) (sym (get_or-set_same bs n b 0 (let z = t.long in omega arith))) e))
      (less_or_equal i n (omega arith));
}

-- the codes of one block have one entry: that of the code with the digits of the mask alone
pub entry_again : (ms : List ℕ) (n : ℕ) (bs : List ℕ) (m f : ℕ) → m ≡ item ms (n / 64) → f ≡ bit_and (n % 64) m
    → (f ≡ n % 64 → ⊥) → Table ms n bs → Block (item ms (n / 64)) (n % 64) (get_or bs (n / 64 * 64 + f) 0)
entry_again ms n bs m f e d ne t = λ k h. first.0 k h ∙ ap (λ (z : ℕ). eqb (bit_and k (item ms (n / 64))) z)
    (ap (λ (z : ℕ). bit_and z (item ms (n / 64))) (d ∙ ap (bit_and (n % 64)) e) ∙ twice (n % 64) (item ms (n / 64)))
  where
    low : f < n % 64
    low = let z = and_le_l (n % 64) m in let w : f ≡ bit_and (n % 64) m = d in elim (ℕ_discrete f (n % 64)) as (λ _. f < n % 64) [ yes q ↦ absurd (ne q) | no q ↦ omega arith ]

    at : (n / 64 * 64 + f) / 64 ≡ n / 64
    at = let z = low in omega arith

    code : (n / 64 * 64 + f) % 64 ≡ f
    code = let z = low in omega arith

    first : Block (item ms (n / 64)) f (get_or bs (n / 64 * 64 + f) 0) × (f < 64)
    first = (
      subst (λ (z : ℕ). Block (item ms (n / 64)) z (get_or bs (n / 64 * 64 + f) 0)) code
          (subst (λ (z : ℕ). Block (item ms z) ((n / 64 * 64 + f) % 64) (get_or bs (n / 64 * 64 + f) 0)) at (t.filled (n / 64 * 64 + f) (let z = low in omega arith))),
      (let z = low in omega arith),
    )

    twice : (a b : ℕ) → bit_and (bit_and a b) b ≡ bit_and a b
    twice a b = equal_digits (bit_and (bit_and a b) b) (bit_and a b) (λ i. on_and (bit_and a b) b i ∙ ap (λ (x : Bool). andb x (on b i)) (on_and a b i) ∙ same (on a i) (on b i) ∙ sym (on_and a b i))
      where
        same : (x y : Bool) → andb (andb x y) y ≡ andb x y
        same true true = refl
        same true false = refl
        same false y = refl

-- ======== sets
pub on_both : (d m k : ℕ) → on d k ≡ true → on m k ≡ true → on (bit_and d m) k ≡ true
on_both d m k e f = on_and d m k ∙ and_both (on d k) (on m k) e f

pub on_either : (a b k : ℕ) → (on a k ≡ true) ⊎ (on b k ≡ true) → on (bit_or a b) k ≡ true
on_either a b k (inl e) = on_or a b k ∙ ap (λ (x : Bool). orb x (on b k)) e
on_either a b k (inr e) = on_or a b k ∙ ap (orb (on a k)) e ∙ or_true (on a k)

pub minus_of : (d b : ℕ) → b < 2 ^ 64 → Minus d b (bit_and d (2 ^ 64 - 1 - b))
minus_of d b h = record { digit = λ k l. on_and d (2 ^ 64 - 1 - b) k ∙ ap (λ (x : Bool). andb (on d k) x) (on_complement 64 b k h l); less = and_le_l d (2 ^ 64 - 1 - b) }

pub minus_keeps : (d b r k : ℕ) → Minus d b r → k < 64 → on d k ≡ true → on b k ≡ false → on r k ≡ true
minus_keeps d b r k m l e f = m.digit k l ∙ ap₂ (λ (x y : Bool). andb x (not y)) e f

pub copies_are : (n x i : ℕ) → i < n → item (copies n x) i ≡ x
copies_are zero x i h = absurd (omega arith)
copies_are (suc n) x zero h = refl
copies_are (suc n) x (suc i) h = copies_are n x i (omega arith)

pub all_ones : (n i : ℕ) → i < n → item (copies n (2 ^ 64 - 1)) i ≡ 2 ^ 64 - 1
all_ones n i h = copies_are n (2 ^ 64 - 1) i h

-- ======== the codes of the blocks that meet a set
-- the block of one code
pub spans_block : (mask c d r : ℕ) → c < 64 → d ≡ 2 ^ c → Spans mask d r → Block mask c r
spans_block mask c d r l q s k h = go (ℕ_discrete (bit_and k mask) (bit_and c mask))
  where
    in_d : (x : ℕ) → on d x ≡ true → x ≡ c
    in_d x t = elim (ℕ_discrete x c) as (λ _. x ≡ c) [ yes e ↦ e | no e ↦ absurd (never_both t (ap (λ (z : ℕ). on z x) q ∙ on_power_other c x e)) ]

    go : Dec (bit_and k mask ≡ bit_and c mask) → on r k ≡ eqb (bit_and k mask) (bit_and c mask)
    go (yes e) = s.whole c k l h (ap (λ (z : ℕ). on z c) q ∙ on_single c) (sym e) ∙ sym (eq-eqb _ _ e)
    go (no e) = false_unless (on r k) (λ t. let a = s.only k h t in e (sym a.3 ∙ ap (λ (z : ℕ). bit_and z mask) (in_d a.0 a.2))) ∙ sym (ne_eqb _ _ e)
