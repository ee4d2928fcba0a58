-- Comparing two names as the bytes of their numbers, from the lowest up. Assumes nothing.
use Rattle.std.specs.Prelude.{◌≡◌, refl, Bool, true, false, ◌&&◌, ◌↔◌, List, [], ◌∷◌, ℕ, suc, zero, ◌*◌, ◌/◌, ◌%◌, ◌^◌, ◌<◌, ◌≤◌, ◌-◌, ◌+◌, eqb, map, get_or, drop, take}
use Rattle.std.specs.Int.{byte_at, bytes_low_first, to_le_bytes, leading_zeros}
use Rattle.std.specs.Char.{to_ascii_lowercase}
use Rattle.std.proofs.Common.{sym, ap, ◌∙◌, arith, w64, pow-suc, ne_eqb, eqb-true}
use Rattle.std.proofs.Math.Path.{ap₂}
use Rattle.std.proofs.Math.Nat.{div-div-eq-div-mul, pow-le-pow_right}
use Rattle.std.proofs.lemmas.Nat.{leading_length, pow-add}
use Rattle.std.proofs.Math.Bool.{and-false}
use Rattle.std.proofs.lemmas.Grind.{common_steps}
use native.Mathlib.Decide.{ℕ_discrete}
use borrow.Author.Tests.{eq-eqb}
use Rattle.bits.specs.LogicLaws.{and_left, and_right, and_both}
use Rattle.names.specs.Case.{lower}
use Rattle.names.specs.Name.{same_name}
use Rattle.names.specs.Pack.{name_of}
use Rattle.names.specs.SameLaws.{same_name_self, same_name_cons, same_name_empty}
use Rattle.names.specs.PackLaws.{name_of_none, name_of_more}

-- ---- the lowest k bytes of a number
abbrev low_bytes : ℕ → ℕ → List ℕ
low_bytes zero v = []
low_bytes (suc k) v = v % 256 ∷ low_bytes k (v / 256)

byte_shifted : (i v : ℕ) → byte_at (suc i) v ≡ byte_at i (v / 256)
byte_shifted zero v = refl
byte_shifted (suc i) v =
    let p : 256 ^ suc (suc i) ≡ 256 * 256 ^ suc i = omega (arith, pow-suc 256 (suc i)) in
    ap (λ (x : ℕ). x % 256) (ap (λ (x : ℕ). v / x) p ∙ sym (div-div-eq-div-mul v 256 (256 ^ suc i)))

shifted : (i k v : ℕ) → bytes_low_first (suc i) k v ≡ bytes_low_first i k (v / 256)
shifted i zero v = refl
shifted i (suc k) v = ap₂ (λ (b : ℕ) (bs : List ℕ). b ∷ bs) (byte_shifted i v) (shifted (suc i) k v)

bytes_are : (k v : ℕ) → bytes_low_first 0 k v ≡ low_bytes k v
bytes_are zero v = refl
bytes_are (suc k) v = ap (λ (bs : List ℕ). v % 256 ∷ bs) (shifted 0 k v ∙ bytes_are k (v / 256))

-- ---- two names differ where a byte differs
lower_zero : (b : ℕ) → lower b ≡ 0 → b ≡ 0
unfolding lower
lower_zero b e = grind (arith, common_steps)

-- the empty name and one that is not
empty_differs : (w : ℕ) → w < 2 ^ 64 → (w ≡ 0 → ⊥) → eqb (lower 0) (lower (w % 256)) && same_name [] (name_of (w / 256)) ≡ false
unfolding lower
empty_differs w h d =
    elim (ℕ_discrete (w / 256) 0) as (λ _. eqb (lower 0) (lower (w % 256)) && same_name [] (name_of (w / 256)) ≡ false) [
      | yes z ↦ rw (ne_eqb (lower 0) (lower (w % 256)) (λ e. d (let b = lower_zero (w % 256) (sym e) in omega arith))) refl
      | no s ↦
          rw (name_of_more (w / 256) (omega arith) s, (same_name_empty (w / 256 % 256) (name_of (w / 256 / 256))).0)
          (and-false (eqb (lower 0) (lower (w % 256))))
    ]

filled_differs : (v : ℕ) → v < 2 ^ 64 → (v ≡ 0 → ⊥) → eqb (lower (v % 256)) (lower 0) && same_name (name_of (v / 256)) [] ≡ false
unfolding lower
filled_differs v h d =
    elim (ℕ_discrete (v / 256) 0) as (λ _. eqb (lower (v % 256)) (lower 0) && same_name (name_of (v / 256)) [] ≡ false) [
      | yes z ↦ rw (ne_eqb (lower (v % 256)) (lower 0) (λ e. d (let b = lower_zero (v % 256) e in omega arith))) refl
      | no s ↦
          rw (name_of_more (v / 256) (omega arith) s, (same_name_empty (v / 256 % 256) (name_of (v / 256 / 256))).1)
          (and-false (eqb (lower (v % 256)) (lower 0)))
    ]

abbrev ByByte : ℕ → ℕ → Type 0
ByByte v w = same_name (name_of v) (name_of w) ≡ eqb (lower (v % 256)) (lower (w % 256)) && same_name (name_of (v / 256)) (name_of (w / 256))

none_filled : (w : ℕ) → w < 2 ^ 64 → (w ≡ 0 → ⊥) → ByByte 0 w
none_filled w h d =
    let left : same_name (name_of 0) (name_of w) ≡ false = rw (name_of_none, name_of_more w h d) ((same_name_empty (w % 256) (name_of (w / 256))).0) in
    let right : eqb (lower 0) (lower (w % 256)) && same_name (name_of 0) (name_of (w / 256)) ≡ false = rw name_of_none (empty_differs w h d) in
    left ∙ sym right

filled_none : (v : ℕ) → v < 2 ^ 64 → (v ≡ 0 → ⊥) → ByByte v 0
filled_none v h d =
    let left : same_name (name_of v) (name_of 0) ≡ false = rw (name_of_none, name_of_more v h d) ((same_name_empty (v % 256) (name_of (v / 256))).1) in
    let right : eqb (lower (v % 256)) (lower 0) && same_name (name_of (v / 256)) (name_of 0) ≡ false = rw name_of_none (filled_differs v h d) in
    left ∙ sym right

by_byte : (v w : ℕ) → v < 2 ^ 64 → w < 2 ^ 64 → ByByte v w
by_byte v w h g =
    elim (ℕ_discrete v 0) as (λ _. ByByte v w) [
      | yes e ↦ elim (ℕ_discrete w 0) as (λ _. ByByte v w) [
        | yes f ↦ rw (e, f) (sym (ap (λ (t : Bool). t && same_name (name_of 0) (name_of 0)) (eq-eqb (lower 0) (lower 0) refl)))
        | no d ↦ rw e (none_filled w g d)
      ]
      | no d ↦ elim (ℕ_discrete w 0) as (λ _. ByByte v w) [
        | yes f ↦ rw f (filled_none v h d)
        | no c ↦ rw (name_of_more v h d, name_of_more w g c) (same_name_cons (v % 256) (w % 256) (name_of (v / 256)) (name_of (w / 256)))
      ]
    ]

small_step : (p v : ℕ) → v < p * 256 → v / 256 < p
small_step p v h = omega arith

by_bytes : (k v w : ℕ) → v < 256 ^ k → w < 256 ^ k → 256 ^ k ≤ 2 ^ 64
    → (map lower (low_bytes k v) ≡ map lower (low_bytes k w) → same_name (name_of v) (name_of w) ≡ true)
    × (same_name (name_of v) (name_of w) ≡ true → map lower (low_bytes k v) ≡ map lower (low_bytes k w))
by_bytes zero v w h g s =
    let e : v ≡ w = omega arith in
    (λ _. rw e (same_name_self (name_of w)), λ _. refl)
by_bytes (suc k) v w h g s =
    let p : 256 ^ suc k ≡ 256 ^ k * 256 = pow-suc 256 k in
    let step = by_byte v w (omega arith) (omega arith) in
    let rest = by_bytes k (v / 256) (w / 256) (small_step (256 ^ k) v (omega arith)) (small_step (256 ^ k) w (omega arith)) (omega arith) in
    let head = eqb (lower (v % 256)) (lower (w % 256)) in
    let tail = same_name (name_of (v / 256)) (name_of (w / 256)) in (
      λ e. step ∙ and_both head tail
          (eq-eqb (lower (v % 256)) (lower (w % 256)) (ap (λ (bs : List ℕ). get_or bs 0 0) e))
          (rest.0 (ap (λ (bs : List ℕ). drop 1 bs) e)),
      λ e. let both = sym step ∙ e in
          ap₂ (λ (b : ℕ) (bs : List ℕ). b ∷ bs)
          (eqb-true (lower (v % 256)) (lower (w % 256)) (and_left head tail both))
          (rest.1 (and_right head tail both)),
    )

-- ---- the library's small letters
lower_is : (b : ℕ) → to_ascii_lowercase b ≡ lower b
unfolding lower
lower_is b = grind (arith, common_steps)

lowers_are : (bs : List ℕ) → map to_ascii_lowercase bs ≡ map lower bs
lowers_are [] = refl
lowers_are (b ∷ bs) = ap₂ (λ (c : ℕ) (cs : List ℕ). c ∷ cs) (lower_is b) (lowers_are bs)

decided : (r s : Bool) {P : Type 0} → (r ≡ true ↔ P) → (P → s ≡ true) → (s ≡ true → P) → r ≡ s
decided true s h f g = sym (f (h.0 refl))
decided false true h f g = h.1 (g refl)
decided false false h f g = refl

take_low : (j k v : ℕ) → k ≤ j → take k (low_bytes j v) ≡ low_bytes k v
take_low j zero v h = refl
take_low zero (suc k) v h = absurd (omega arith)
take_low (suc j) (suc k) v h = ap (λ (bs : List ℕ). v % 256 ∷ bs) (take_low j k (v / 256) (omega arith))

texts_are : (k v : ℕ) → k ≤ 8 → map to_ascii_lowercase (take k (bytes_low_first 0 8 v)) ≡ map lower (low_bytes k v)
texts_are k v g =
    lowers_are (take k (bytes_low_first 0 8 v))
    ∙ ap (λ (bs : List ℕ). map lower (take k bs)) (bytes_are 8 v)
    ∙ ap (map lower) (take_low 8 k v g)

power_fits : (k : ℕ) → k ≤ 8 → 256 ^ k ≤ 2 ^ 64
power_fits k g = pow-le-pow_right {n = 256} (omega arith) g

-- two names of at most k bytes are compared by these
pub same_by_bytes : (k v w : ℕ) (r : Bool) → k ≤ 8 → v < 256 ^ k → w < 256 ^ k
    → (r ≡ true ↔ (map to_ascii_lowercase (take k (to_le_bytes w64 v)) ≡ map to_ascii_lowercase (take k (to_le_bytes w64 w))))
    → r ≡ same_name (name_of v) (name_of w)
same_by_bytes k v w r g hv hw t =
    let q = by_bytes k v w hv hw (power_fits k g) in
    decided r (same_name (name_of v) (name_of w)) t
    (λ m. q.0 (sym (texts_are k v g) ∙ m ∙ texts_are k w g))
    (λ s. texts_are k v g ∙ q.1 s ∙ sym (texts_are k w g))

bytes_pow : (k : ℕ) → 256 ^ k ≡ 2 ^ (8 * k)
bytes_pow zero = refl
bytes_pow (suc k) =
    let e : 8 * suc k ≡ 8 * k + 8 = omega arith in
    pow-suc 256 k ∙ ap (λ (n : ℕ). n * 256) (bytes_pow k) ∙ sym (ap (λ (n : ℕ). 2 ^ n) e ∙ pow-add 2 (8 * k) 8)

-- how many bytes a number needs
pub bytes_enough : (m : ℕ) → m < 2 ^ 64 → m < 256 ^ (8 - leading_zeros w64 m / 8)
bytes_enough m h =
    let n = 8 - leading_zeros w64 m / 8 in
    let z = leading_length 64 m h in
    let e : leading_zeros w64 m + z.0 ≡ 64 = z.1 in
    let s : z.0 ≤ 8 * n = omega (arith, e) in
    let p : m < 2 ^ (8 * n) = omega (arith, z.2, pow-le-pow_right {n = 2} (omega arith) s) in
    rw (sym (bytes_pow n)) at p
