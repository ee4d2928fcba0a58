-- The PLA texts that pass question 12 are exactly the prints, of at most 32,768 bytes, of what can be written, and each says what
-- it prints; and how many lines each has. Assumes nothing.
use Rattle.std.specs.Prelude.{◌≡◌, ◌↔◌, List, [], ◌∷◌, map, ℕ, ◌+◌, ◌≤◌, length}
use Rattle.std.proofs.Common.{sym, ap, ◌∙◌, subst, arith, length-append}
use Rattle.std.proofs.lemmas.List.{length-map}
use Rattle.limits.specs.Limits.{max_pla}
use Rattle.text.specs.Line.{lines}
use Rattle.cubes.specs.Cube.{print_cube}
use Rattle.platext.specs.Lines.{first_cube, end_line}
use Rattle.platext.specs.Text.{Pla, pla_lines, pla, read_pla}
use Rattle.platext.specs.Writable.{Writes}
use Rattle.platext.specs.TextReadLaws.{pla_is, pla_print_of_read}
use Rattle.platext.specs.TextPrintLaws.{print_lines, printed_said}

pub pla_read_of_print : (t : List ℕ) (x : Pla) → Writes t x → read_pla t ≡ pla x
pla_read_of_print t x w =
    ap read_pla w.is_print ∙ printed_said x w.writable (subst (λ (s : List ℕ). length s ≤ max_pla) w.is_print w.fits)

pub pla_spelled : (t : List ℕ) (x : Pla) → (read_pla t ≡ pla x) ↔ Writes t x
pla_spelled t x = (pla_print_of_read t x, pla_read_of_print t x)

-- two texts that say the same are the same, and what is written alike is alike
pub one_text : (s t : List ℕ) (x : Pla) → read_pla s ≡ pla x → read_pla t ≡ pla x → s ≡ t
one_text s t x e f = (pla_print_of_read s x e).is_print ∙ sym (pla_print_of_read t x f).is_print

pub one_meaning : (t : List ℕ) (x y : Pla) → Writes t x → Writes t y → x ≡ y
one_meaning t x y v w = pla_is (sym (pla_read_of_print t x v) ∙ pla_read_of_print t y w)

-- ---- how many lines there are: those before the cubes, the cubes, and `.e`
lines-count : (x : Pla) → length (pla_lines x) ≡ first_cube + length x.cubes
unfolding pla_lines
lines-count x =
    omega (arith, length-append (map print_cube x.cubes) (end_line ∷ []), length-map x.cubes print_cube)

pub pla_lines_counted : (t : List ℕ) (x : Pla) → read_pla t ≡ pla x → length (lines t) ≡ first_cube + length x.cubes
pla_lines_counted t x e =
    let w = pla_print_of_read t x e in
    ap (λ (s : List ℕ). length (lines s)) w.is_print ∙ ap length (print_lines x w.writable) ∙ lines-count x
