-- Texts of bytes above 0x20 byte by byte: they have no 0x0A, and the print of a number is one of them. Assumes nothing.
use Rattle.std.specs.Prelude.{◌≡◌, refl, true, List, [], ◌∷◌, ℕ, ◌<◌, ltb}
use Rattle.std.proofs.Common.{arith, ltb-true, lt-ltb, ne_eqb}
use Rattle.bits.specs.LogicLaws.{and_left, and_right, and_both}
use Rattle.text.specs.Bytes.{space, newline}
use Rattle.text.specs.Unbroken.{unbroken}
use Rattle.text.specs.Solid.{solid}
use Rattle.text.specs.Number.{numeral, print_number}
use Rattle.text.specs.Numerals.{all_numerals}
use Rattle.text.specs.LineLaws.{unbroken-cons}
use Rattle.text.specs.NumeralLaws.{numeral-low}
use Rattle.text.specs.FigureLaws.{print_numerals}

pub solid_first : (b : ℕ) (s : List ℕ) → solid (b ∷ s) ≡ true → space < b
unfolding solid
solid_first b s h = ltb-true space b (and_left (ltb space b) (solid s) h)

pub solid-others : (b : ℕ) (s : List ℕ) → solid (b ∷ s) ≡ true → solid s ≡ true
unfolding solid
solid-others b s h = and_right (ltb space b) (solid s) h

pub solid_more : (b : ℕ) (s : List ℕ) → space < b → solid s ≡ true → solid (b ∷ s) ≡ true
unfolding solid
solid_more b s l h = and_both (ltb space b) (solid s) (lt-ltb space b l) h

pub solid-unbroken : (s : List ℕ) → solid s ≡ true → unbroken s ≡ true
unfolding unbroken
solid-unbroken [] h = refl
solid-unbroken (b ∷ s) h =
    let l = solid_first b s h in
    unbroken-cons b s (ne_eqb b newline (λ e. omega arith)) (solid-unbroken s (solid-others b s h))

-- ---- numbers
numerals-solid : (ds : List ℕ) → all_numerals ds ≡ true → solid ds ≡ true
unfolding solid all_numerals
numerals-solid [] h = refl
numerals-solid (d ∷ ds) h =
    let l = numeral-low d (and_left (numeral d) (all_numerals ds) h) in
    solid_more d ds (omega arith) (numerals-solid ds (and_right (numeral d) (all_numerals ds) h))

pub print_solid : (n : ℕ) → solid (print_number n) ≡ true
print_solid n = numerals-solid (print_number n) (print_numerals n)
