-- A panel's outputs in the PLA's own words: output o is 1 on a row exactly where some cube with a 1 for o covers the row.
-- Assumes nothing.
use Rattle.std.specs.Prelude.{◌≡◌, true, ◌↔◌, ℕ, zero, suc, ◌+◌, ◌<◌}
use Rattle.std.proofs.Common.{sym, ◌∙◌}
use Rattle.std.proofs.Math.Path.{ap, ap₂}
use mathlib.Core.List.{List, [], ◌∷◌}
use native.Mathlib.Omega.{arith}
use Rattle.std.proofs.Math.ListN.{length}
use Rattle.platext.specs.TextReadLaws.{pla_print_of_read}
use Rattle.names.specs.Name.{Name}
use Rattle.formula.specs.Tree.{Formula}
use Rattle.formula.specs.Value.{value, on_row}
use Rattle.sheet.specs.Lines.{Output}
use Rattle.sheet.specs.Examine.{Design}
use Rattle.sheet.specs.WellFormed.{output_at}
use Rattle.sheet.specs.Value.{output_on}
use Rattle.cubes.specs.Cover.{cover_on, Covered}
use Rattle.cubes.specs.CoverLaws.{covered-on, on-covered}
use Rattle.cubes.specs.Terms.{cover_formula}
use Rattle.cubes.specs.TermsLaws.{cover_value}
use Rattle.platext.specs.Text.{Pla}
use Rattle.platext.specs.WritableLaws.{cube_fits_at}
use Rattle.panel.specs.Examine.{outputs_from}
use Rattle.panel.specs.Panel.{Panel}
use Rattle.panel.specs.OnceLaws.{distinct_first}
use Rattle.panel.specs.WalkLaws.{outputs_count}

-- the formula of each output is its cover
output-from : (x : Pla) (k : ℕ) (ns : List Name) (o : ℕ)
    → o < length ns
    → (output_at (outputs_from x k ns) o).formula ≡ cover_formula x.inputs x.cubes (k + o)
unfolding outputs_from
output-from x k [] o h = absurd (omega arith)
output-from x k (n ∷ ns) zero h =
    let s : k ≡ k + 0 = omega arith in
    ap (cover_formula x.inputs x.cubes) s
output-from x k (n ∷ ns) (suc o) h =
    let s : suc k + o ≡ k + suc o = omega arith in
    output-from x (suc k) ns o (omega arith) ∙ ap (cover_formula x.inputs x.cubes) s

module _ {p b : List ℕ} {d : Design} (h : Panel p b d) (o r : ℕ) (l : o < length d.outputs) where
  pub panel_value : output_on d o r ≡ cover_on h.text.cubes o r
  unfolding output_on
  panel_value =
      let x = h.text in
      let passed = h.passed in
      let fits = (pla_print_of_read p x passed.board_passed.text_passed.is_read).writable in
      let once = distinct_first x.inputs x.outputs passed.names_once in
      let inside : o < length x.outputs = omega (arith, ap length h.same_outputs, outputs_count x 0 x.outputs) in
      let zero_first : 0 + o ≡ o = omega arith in
      let formula : (output_at d.outputs o).formula ≡ cover_formula x.inputs x.cubes o
      = ap (λ (os : List Output). (output_at os o).formula) h.same_outputs ∙ output-from x 0 x.outputs o inside
      ∙ ap (cover_formula x.inputs x.cubes) zero_first in
      ap₂ (λ (ns : List Name) (f : Formula). value (on_row ns r) f) h.same_inputs formula
      ∙ cover_value x.inputs x.cubes o r once (λ k i. (cube_fits_at fits.cubes_fit k i).literals_counted)

-- in the PLA's own words
pub panel_says : (p b : List ℕ) (d : Design) (h : Panel p b d) (o r : ℕ)
    → o < length d.outputs
    → (output_on d o r ≡ true) ↔ Covered h.text.cubes o r
panel_says p b d h o r l =
    let same = panel_value h o r l in
    (λ e. on-covered h.text.cubes o r (sym same ∙ e), λ c. same ∙ covered-on h.text.cubes o r c)
