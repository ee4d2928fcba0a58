-- The least power of 2 that is at least the number of classes. Assumes nothing.
use Rattle.std.proofs.Common.{◌≡◌, ℕ, ◌*◌, ◌/◌, ◌^◌, ◌≤◌, ◌<◌, max, suc, sym, subst, arith, pow-suc}
use Rattle.std.proofs.Math.Decide.{dec_lt}
use Rattle.std.specs.Int.{IsPowerOfTwo}
use lib.Pow.{pow_mono, pow_pos}
use Rattle.limits.specs.Limits.{max_bound, max_vertices}
use Rattle.classes.specs.Width.{width_of}
use Rattle.classes.specs.WidthLaws.{width_is}

-- 2 ^ k is at most twice less than twice 2 ^ w only for one k
no_lower : (k w : ℕ) → 2 ^ k < 2 * 2 ^ w → k ≤ w
no_lower k w h =
    elim (dec_lt w k) as (λ _. k ≤ w) [
      | yes l ↦ (let p : 2 ^ suc w ≤ 2 ^ k = pow_mono (omega arith) in let q : 2 ^ suc w ≡ 2 ^ w * 2 = pow-suc 2 w in absurd (omega arith))
      | no g ↦ omega arith
    ]

same_power : (k w : ℕ) → 2 ^ w ≤ 2 ^ k → 2 ^ k < 2 * 2 ^ w → w ≡ k
same_power k w h g =
    let a : k ≤ w = no_lower k w g in
    let l : w ≤ k
    = elim (dec_lt k w) as (λ _. w ≤ k) [
      | yes l ↦ (let p : 2 ^ suc k ≤ 2 ^ w = pow_mono (omega arith) in let q : 2 ^ suc k ≡ 2 ^ k * 2 = pow-suc 2 k in let s : 0 < 2 ^ k = pow_pos k in absurd (omega arith))
      | no g ↦ omega arith
    ] in
    omega arith

too_low : (count k : ℕ) → 2 ^ k / 2 < max 1 count → (v : ℕ) → v < k → 2 ^ v < count
too_low count k h v l =
    let p : 2 ^ suc v ≤ 2 ^ k = pow_mono (omega arith) in
    let q : 2 ^ suc v ≡ 2 ^ v * 2 = pow-suc 2 v in
    let s : 0 < 2 ^ v = pow_pos v in
    omega arith

few_digits : (count w : ℕ) → ((v : ℕ) → v < w → 2 ^ v < count) → count ≤ max_vertices → w ≤ max_bound
few_digits count w f h =
    elim (dec_lt max_bound w) as (λ _. w ≤ max_bound) [
      | yes l ↦ (let p : 2 ^ max_bound < count = f max_bound l in absurd (omega arith))
      | no g ↦ omega arith
    ]

pub width_by_power : (count p w : ℕ) → IsPowerOfTwo p → count ≤ p → p / 2 < max 1 count → 2 ^ w ≤ p → p < 2 * 2 ^ w → count ≤ max_vertices
    → (w ≡ width_of count) × (w ≤ max_bound)
width_by_power count p w (k, e) low high under over few =
    let same : w ≡ k = same_power k w (subst (λ (n : ℕ). 2 ^ w ≤ n) e under) (subst (λ (n : ℕ). n < 2 * 2 ^ w) e over) in
    let is : p ≡ 2 ^ w = subst (λ (n : ℕ). p ≡ 2 ^ n) (sym same) e in
    let below : (v : ℕ) → v < w → 2 ^ v < count = too_low count w (subst (λ (n : ℕ). n / 2 < max 1 count) is high) in
    (sym (width_is count w (subst (λ (n : ℕ). count ≤ n) is low) below), few_digits count w below few)
