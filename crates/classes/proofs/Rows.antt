-- The loop that gathers a row digit by digit. Assumes nothing.
use mathlib.Core.Path.{◌≡◌, refl, sym, ap, ap₂, ◌∙◌}
use mathlib.Core.Bool.{Bool}
use mathlib.Core.List.{List}
use Prim.Native.Nat.{ℕ, ◌+◌, ◌*◌, ◌^◌, ◌≤◌, ◌<◌, min}
use native.Mathlib.Omega.{arith}
use native.Mathlib.Nat.{mul-le-mul}
use native.Mathlib.Numerals.{add-one}
use lib.Pow.{pow_mono}
use lib.ListN.{length, get_or, take, length-take}
use lib.Seq.{take-suc, take_all}
use Rattle.bits.specs.Digit.{on}
use Rattle.limits.specs.Limits.{max_inputs, max_rows, max_vertices, max_free_rows}
use Rattle.bits.specs.Logic.{bit}
use Rattle.rows.specs.Row.{row_of}
use Rattle.classes.specs.Seen.{gathered}
use Rattle.classes.specs.DigitLaws.{gathered-lt, gathered-last}

module _ (l : List ℕ) (z : ℕ) where
  pub gather_none : 0 ≡ gathered (take 0 l) z
  unfolding gathered row_of
  gather_none = refl

  pub gather_more : (i r b : ℕ) (h : Bool) → i < length l → r ≡ gathered (take i l) z → h ≡ on z (get_or l i 0) → b ≡ bit h
      → 2 * r + b ≡ gathered (take (i + 1) l) z
  gather_more i r b h k e f g =
      ap₂ (λ (x y : ℕ). 2 * x + y) e (g ∙ ap bit f)
      ∙ sym (gathered-last (take i l) (get_or l i 0) z)
      ∙ ap (λ (m : List ℕ). gathered m z) (sym (take-suc l i 0 k))
      ∙ ap (λ (j : ℕ). gathered (take j l) z) (sym (add-one i))

  pub gather_all : (i : ℕ) → length l ≤ i → gathered (take i l) z ≡ gathered l z
  gather_all i h = ap (λ (m : List ℕ). gathered m z) (take_all i l h)

-- a row of at most ten inputs
pub gathered-small : (l : List ℕ) (z : ℕ) → length l ≤ max_inputs → gathered l z < max_rows
gathered-small l z h =
    let few : 2 ^ length l ≤ max_rows = pow_mono h in
    let lt : gathered l z < 2 ^ length l = gathered-lt l z in
    omega arith

pub gather_small : (l : List ℕ) (z i : ℕ) → length l ≤ max_inputs → gathered (take i l) z < max_rows
gather_small l z i h =
    let few : length (take i l) ≡ min i (length l) = length-take i l in
    gathered-small (take i l) z (omega arith)

pub product_small : (i step : ℕ) → i ≤ max_free_rows → step ≤ max_vertices → i * step ≤ max_free_rows * max_vertices
product_small i step h l = mul-le-mul h l
