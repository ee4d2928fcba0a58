-- Question 12 on the whole text: its size, the lines before the cubes, and the cubes. Assumes nothing.
use Rattle.std.specs.Prelude.{◌≡◌, refl, Bool, true, false, ◌&&◌, List, [], ℕ, ◌≤◌, ◌<◌, leb, length, drop, Result, Ok, Err}
use Rattle.std.proofs.Common.{sym, subst, ◌∙◌, le-leb}
use Rattle.std.proofs.Math.Path.{ap₂}
use Rattle.std.proofs.lemmas.Bool.{lt-leb}
use Rattle.bits.specs.Logic.{pick}
use Rattle.limits.specs.Limits.{max_pla}
use Rattle.text.specs.Line.{lines, ends_line}
use Rattle.platext.specs.Lines.{first_cube}
use Rattle.platext.specs.Text.{Answer, bad_line, pla, read_cubes, read_lines, read_pla}
use Rattle.platext.specs.Reading.{HeadHere, Fits, CubesAre, TextIs}
use Rattle.platext.specs.declared.Header.{Header}
use Rattle.platext.specs.declared.PlaText.{PlaText}

pub head_fits : {s : List ℕ} {h : Header} (x : HeadHere s h) → Fits h.inputs.count h.outputs.count h.cubes x.head
head_fits x =
    record {
      inputs_counted = sym x.inputs_listed.kept.counted;
      outputs_counted = sym x.outputs_listed.kept.counted;
      cubes_counted = x.cubes_counted;
    }

module _ (s : List ℕ) where
  by_size : (a b : Bool) → leb 1 (length s) ≡ a → leb (length s) max_pla ≡ b → read_pla s ≡ pick (a && b) (read_lines (ends_line s) (lines s)) (bad_line 0)
  unfolding read_pla
  by_size a b e f = ap₂ (λ (x y : Bool). pick (x && y) (read_lines (ends_line s) (lines s)) (bad_line 0)) e f

  never : (a : Bool) → pick (a && false) (read_lines (ends_line s) (lines s)) (bad_line 0) ≡ bad_line 0
  never true = refl
  never false = refl

  text_bad : (r : Result PlaText ℕ) (n : ℕ) → read_pla s ≡ bad_line n → r ≡ Err n → TextIs s (read_pla s) r
  text_bad r n e b = rw (b, e) refl

  pub no_bytes : length s < 1 → read_pla s ≡ bad_line 0
  no_bytes h = by_size false (leb (length s) max_pla) (lt-leb 1 (length s) h) refl

  pub many_bytes : max_pla < length s → read_pla s ≡ bad_line 0
  many_bytes h = by_size (leb 1 (length s)) false refl (lt-leb (length s) max_pla h) ∙ never (leb 1 (length s))

  module _ (some : 1 ≤ length s) (few : length s ≤ max_pla) where
    sized : read_pla s ≡ read_lines (ends_line s) (lines s)
    sized = by_size true true (le-leb 1 (length s) some) (le-leb (length s) max_pla few)

    pub bad_head : (n : ℕ) → read_lines (ends_line s) (lines s) ≡ bad_line n → read_pla s ≡ bad_line n
    bad_head n e = sized ∙ e

    module _ (h : Header) (x : HeadHere s h) where
      abbrev the-cubes : Answer
      the-cubes = read_cubes (ends_line s) x.head [] first_cube (lines (drop h.next s))

      bad-by : (a : Answer) → the-cubes ≡ a → (n : ℕ) → CubesAre s h.next x.head a (Err n) → read_pla s ≡ bad_line n
      bad-by a e n k = sized ∙ x.is ∙ e ∙ k

      pub bad-cubes : (n : ℕ) → CubesAre s h.next x.head the-cubes (Err n) → read_pla s ≡ bad_line n
      bad-cubes n k = bad-by the-cubes refl n k

      right_by : (a : Answer) → the-cubes ≡ a → CubesAre s h.next x.head a (Ok tt) → (r : PlaText)
          → r.inputs ≡ h.inputs → r.outputs ≡ h.outputs → r.first ≡ h.next → r.cubes ≡ h.cubes → TextIs s (read_pla s) (Ok r)
      right_by (bad_line m) e k r i j p q = absurd k
      right_by (pla y) e k r i j p q =
          subst (λ (a : Answer). TextIs s a (Ok r)) (sym (sized ∙ x.is ∙ e))
          (record {
            inputs_listed = rw (i, k.inputs_same) x.inputs_listed;
            outputs_listed = rw (j, k.outputs_same) x.outputs_listed;
            cubes_counted = q ∙ sym x.cubes_counted ∙ sym k.counted;
            end = k.end;
            stand = rw (p, k.inputs_same, k.outputs_same) k.stand;
          })

      pub right-text : (r : PlaText) → CubesAre s h.next x.head the-cubes (Ok tt) → r.inputs ≡ h.inputs → r.outputs ≡ h.outputs
          → r.first ≡ h.next → r.cubes ≡ h.cubes → TextIs s (read_pla s) (Ok r)
      right-text r k = right_by the-cubes refl k r
