-- One row of one output, where the digits of the network are set in row order: as the code reads it, the row agrees or it is
-- where the comparison ends. Assumes nothing.
use Rattle.std.specs.Prelude.{◌≡◌, true, false, List, ℕ, ◌+◌, ◌^◌, ◌≤◌, ◌<◌, length, get_or}
use Rattle.std.proofs.Common.{sym, ap, ap₂, ◌∙◌, arith, below_more}
use Rattle.bits.specs.Logic.{xorb}
use Rattle.limits.specs.Limits.{max_rows}
use Rattle.rows.specs.Words.{row_on}
use Rattle.sheet.specs.Examine.{Design}
use Rattle.sheet.specs.Known.{table_at}
use Rattle.sheet.specs.Value.{output_on}
use Rattle.sheet.specs.declared.Sheet.{Sheet}
use Rattle.classes.specs.declared.Shape.{Shape}
use Rattle.network.specs.Network.{Network}
use Rattle.network.specs.Value.{network_on}
use Rattle.network.specs.CompareLaws.{xor_none, xor_some}
use Rattle.comparing.specs.Code.{one_at}
use Rattle.comparing.specs.Filling.{Filled}
use Rattle.comparing.specs.Drawing.{Places, Drawing}
use Rattle.comparing.specs.DrawingLaws.{filled_right}
use Rattle.comparing.specs.CompareLaws.{Agreed, AgreedRows, Ended, design-value, output_is}

module _ {t : List ℕ} {k : Sheet} {n : Places} {sh : Shape} where
  module _ (o r rows : ℕ) (words list : List ℕ) (l : o < k.outputs) (below : r < rows) (count : rows ≡ 2 ^ k.inputs)
      (few : rows ≤ max_rows) (table : words ≡ table_at k.tables o)
      (filled : Filled t n.lutat (get_or n.reads o 0) n.luts (get_or n.nodeat o 0) sh sh.vertices list) where
    row_below : {d : Design} {w : Network} → Drawing d w t k n sh → r < 2 ^ length d.inputs
    row_below {d} h =
        let e : 2 ^ k.inputs ≡ 2 ^ length d.inputs = ap (λ (i : ℕ). 2 ^ i) h.holds.inputs_counted in
        omega arith

    told : {d : Design} {w : Network} → Drawing d w t k n sh
        → xorb (row_on words r) (one_at list r) ≡ xorb (output_on d o r) (network_on d w o r)
    told h =
        ap₂ xorb
        (ap (λ (x : List ℕ). row_on x r) table ∙ design-value h o r l (omega arith))
        (filled_right h o list (output_is h o l) filled r (row_below h))

    pub rows_more : AgreedRows t k n sh o r → xorb (row_on words r) (one_at list r) ≡ false → AgreedRows t k n sh o (r + 1)
    rows_more s e =
        record {
          right = λ d w h.
              below_more (λ (q : ℕ). network_on d w o q ≡ output_on d o q) r (s.right d w h)
              (xor_none (output_on d o r) (network_on d w o r) (sym (told h) ∙ e));
        }

    pub ended_differs : Agreed t k n sh o
        → AgreedRows t k n sh o r
        → xorb (row_on words r) (one_at list r) ≡ true
        → Ended t k n sh o r
    ended_differs a s e =
        record {
          agreed = a;
          differing = λ _ d w h.
              record {
                is_output = output_is h o l;
                is_row = row_below h;
                apart = xor_some (output_on d o r) (network_on d w o r) (sym (told h) ∙ e);
                rows_below = s.right d w h;
                outputs_below = a.right d w h;
              };
        }
