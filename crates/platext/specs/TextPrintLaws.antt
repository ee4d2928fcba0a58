-- From what can be written: its print says it. Assumes nothing.
use Rattle.std.specs.Prelude.{◌≡◌, refl, true, List, [], ◌∷◌, ◌++◌, map, ℕ, suc, ◌≤◌, ◌<◌, length}
use Rattle.std.proofs.Common.{sym, ap, ◌∙◌, append_assoc, append-nil, arith, eq-eqb, le-leb}
use Rattle.std.proofs.Math.Option.{some}
use Rattle.bits.specs.LogicLaws.{and_both}
use Rattle.limits.specs.Limits.{max_pla}
use Rattle.text.specs.BytesLaws.{same_self, differ_same}
use Rattle.text.specs.Line.{lines, ends_line}
use Rattle.text.specs.Unbroken.{unbroken, all_unbroken}
use Rattle.text.specs.LineLaws.{unbroken-cons, unbroken-append}
use Rattle.text.specs.EndedLaws.{lines_of_ended, ended-ends, ended_some}
use Rattle.cubes.specs.Cube.{Literal, is_zero, is_one, any, literal_byte, Cube, print_cube}
use Rattle.cubes.specs.Spelled.{CubeWritten}
use Rattle.cubes.specs.CubeLaws.{cube_read_of_print, cube_no_end}
use Rattle.platext.specs.Lines.{first_cube}
use Rattle.platext.specs.Lines.{inputs_word, outputs_word, input_names_word, output_names_word, cubes_word, end_line}
use Rattle.platext.specs.Lines.{print_count, print_named}
use Rattle.platext.specs.Text.{Pla, pla_lines, print_pla, Answer, pla, Head, last, one, read_cube_line, at_last, read_cubes, read_lines, read_pla}
use Rattle.platext.specs.Writable.{CubeFits, CubesFit, no_cube, one_more, Writable}
use Rattle.platext.specs.LineLaws.{count_inverse, count-unbroken, named_inverse, named-unbroken}

-- ---- the cubes and `.e`
end_read : (i o : ℕ) → read_cube_line i o end_line ≡ some last
unfolding read_cube_line
end_read i o = rw (same_self end_line) refl

cube_read : (i o : ℕ) (c : Cube) → CubeFits i o c → read_cube_line i o (print_cube c) ≡ some (one c)
unfolding read_cube_line
cube_read i o c f =
    let written : CubeWritten i o (print_cube c) c = record { is_print = refl; literals_counted = f.literals_counted; marks_counted = f.marks_counted } in
    rw (differ_same (print_cube c) end_line (cube_no_end c), cube_read_of_print i o (print_cube c) c written) refl

-- what the head and the cubes say
abbrev saying : Head → List Cube → Answer
saying h cs = pla (record { inputs = h.inputs; outputs = h.outputs; cubes = cs })

last_read : (h : Head) (cs : List Cube) (n : ℕ) → length cs ≡ h.cubes → at_last h cs n [] ≡ saying h cs
unfolding at_last
last_read h cs n e = rw (eq-eqb (length cs) h.cubes e) refl

cubes_read : (h : Head) (ds cs : List Cube) (n : ℕ)
    → CubesFit (length h.inputs) (length h.outputs) ds
    → length (cs ++ ds) ≡ h.cubes
    → read_cubes true h cs n (map print_cube ds ++ (end_line ∷ [])) ≡ saying h (cs ++ ds)
unfolding read_cubes
cubes_read h [] cs n no_cube e =
    rw (end_read (length h.inputs) (length h.outputs), append-nil cs)
    (last_read h cs n (ap length (sym (append-nil cs)) ∙ e))
cubes_read h (d ∷ ds) cs n (one_more f fs) e =
    let all : (cs ++ (d ∷ [])) ++ ds ≡ cs ++ (d ∷ ds) = append_assoc cs (d ∷ []) ds in
    rw (cube_read (length h.inputs) (length h.outputs) d f)
    (cubes_read h ds (cs ++ (d ∷ [])) (suc n) fs (ap length all ∙ e) ∙ ap (saying h) all)

-- ---- every line
lines_read : (x : Pla) → Writable x → read_lines true (pla_lines x) ≡ pla x
unfolding read_lines pla_lines
lines_read x w =
    let ns = x.inputs in
    let ms = x.outputs in
    let cs = x.cubes in
    let h : Head = record { inputs = ns; outputs = ms; cubes = length cs } in
    rw (
      (count_inverse inputs_word 1).read_of_print (print_count inputs_word (length ns)) (length ns) (record { enough = w.inputs_some; small = w.inputs_few }) refl,
      (count_inverse outputs_word 1).read_of_print (print_count outputs_word (length ms)) (length ms) (record { enough = w.outputs_some; small = w.outputs_few }) refl,
      (named_inverse input_names_word (length ns)).read_of_print (print_named input_names_word ns) ns (record { all_names_lem = w.inputs_named; counted = refl }) refl,
      (named_inverse output_names_word (length ms)).read_of_print (print_named output_names_word ms) ms (record { all_names_lem = w.outputs_named; counted = refl }) refl,
      (count_inverse cubes_word 0).read_of_print (print_count cubes_word (length cs)) (length cs) (record { enough = omega arith; small = w.cubes_few }) refl,
    )
    (cubes_read h cs [] first_cube w.cubes_fit refl)

-- ---- no line has a 0x0A in it
literals_unbroken : (ls : List Literal) → unbroken (map literal_byte ls) ≡ true
unfolding unbroken
literals_unbroken [] = refl
literals_unbroken (is_zero ∷ ls) = literals_unbroken ls
literals_unbroken (is_one ∷ ls) = literals_unbroken ls
literals_unbroken (any ∷ ls) = literals_unbroken ls

cube-unbroken : (c : Cube) → unbroken c.marks ≡ true → unbroken (print_cube c) ≡ true
unfolding print_cube
cube-unbroken c h =
    unbroken-append (map literal_byte c.literals) _ (literals_unbroken c.literals) (unbroken-cons _ c.marks refl h)

cubes_unbroken : {i o : ℕ} (cs : List Cube) → CubesFit i o cs → all_unbroken (map print_cube cs ++ (end_line ∷ [])) ≡ true
unfolding all_unbroken unbroken
cubes_unbroken [] no_cube = refl
cubes_unbroken (c ∷ cs) (one_more f fs) =
    and_both (unbroken (print_cube c)) (all_unbroken (map print_cube cs ++ (end_line ∷ [])))
    (cube-unbroken c f.marks_unbroken)
    (cubes_unbroken cs fs)

lines-unbroken : (x : Pla) → Writable x → all_unbroken (pla_lines x) ≡ true
unfolding pla_lines all_unbroken unbroken
lines-unbroken x w =
    rw (
      count-unbroken inputs_word (length x.inputs) refl,
      count-unbroken outputs_word (length x.outputs) refl,
      named-unbroken input_names_word x.inputs refl w.inputs_named,
      named-unbroken output_names_word x.outputs refl w.outputs_named,
      count-unbroken cubes_word (length x.cubes) refl,
    )
    (cubes_unbroken x.cubes w.cubes_fit)

-- ---- the text
pub print_lines : (x : Pla) → Writable x → lines (print_pla x) ≡ pla_lines x
unfolding print_pla
print_lines x w = lines_of_ended (pla_lines x) (lines-unbroken x w)

print_ends : (x : Pla) → ends_line (print_pla x) ≡ true
unfolding print_pla pla_lines
print_ends x = ended-ends _ _

print_some : (x : Pla) → 0 < length (print_pla x)
unfolding print_pla pla_lines
print_some x = ended_some _ _

pub printed_said : (x : Pla) → Writable x → length (print_pla x) ≤ max_pla → read_pla (print_pla x) ≡ pla x
unfolding read_pla
printed_said x w h =
    rw (le-leb 1 (length (print_pla x)) (print_some x), le-leb (length (print_pla x)) max_pla h, print_ends x, print_lines x w) (lines_read x w)
