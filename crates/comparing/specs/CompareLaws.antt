-- The comparison, output by output and row by row: what the code knows after some of them is that these agree, and so what
-- it says at the end is the definition's answer. Assumes nothing.
use Rattle.std.specs.Prelude.{◌≡◌, List, ℕ, ◌+◌, ◌^◌, ◌≤◌, ◌<◌, length, get_or}
use Rattle.std.proofs.Common.{sym, ap, arith, below_more, pow_mono}
use Rattle.limits.specs.Limits.{max_inputs, max_rows}
use Rattle.rows.specs.Words.{row_on}
use Rattle.sheet.specs.Examine.{Design}
use Rattle.sheet.specs.Known.{table_at}
use Rattle.sheet.specs.Value.{output_on}
use Rattle.sheet.specs.declared.Sheet.{Sheet}
use Rattle.classes.specs.declared.Shape.{Shape}
use Rattle.network.specs.Network.{Network}
use Rattle.network.specs.Value.{network_on}
use Rattle.network.specs.Check.{same, differs}
use Rattle.network.specs.Answers.{LowestDifference}
use Rattle.network.specs.Check.{compared}
use Rattle.network.specs.CompareLaws.{same-compared, differs_compared}
use Rattle.comparing.specs.Filling.{Ready}
use Rattle.comparing.specs.Drawing.{Places, Drawing, SomeDrawing}
use Rattle.comparing.specs.DrawingLaws.{drawing_ready}

-- ---- what the code knows
-- the first o outputs agree on every row
pub record Agreed (t : List ℕ) (k : Sheet) (n : Places) (sh : Shape) (o : ℕ) : Type 0 where
  pub within : o ≤ k.outputs
  pub right : (d : Design) (w : Network)
      → Drawing d w t k n sh
      → (p q : ℕ)
      → p < o
      → q < 2 ^ length d.inputs
      → network_on d w p q ≡ output_on d p q

-- output o agrees on the first r rows
pub record AgreedRows (t : List ℕ) (k : Sheet) (n : Places) (sh : Shape) (o r : ℕ) : Type 0 where
  pub right : (d : Design) (w : Network)
      → Drawing d w t k n sh
      → (q : ℕ)
      → q < r
      → network_on d w o q ≡ output_on d o q

-- at the end: every output agrees, or o is the lowest that differs and r its lowest row
pub record Ended (t : List ℕ) (k : Sheet) (n : Places) (sh : Shape) (o r : ℕ) : Type 0 where
  pub agreed : Agreed t k n sh o
  pub differing : o < k.outputs → (d : Design) (w : Network) → Drawing d w t k n sh → LowestDifference d w o r

module _ {t : List ℕ} {k : Sheet} {n : Places} {sh : Shape} where
  pub agreed_none : Agreed t k n sh 0
  agreed_none = record { within = omega arith; right = λ d w h p q l. absurd (omega arith) }

  pub rows_none : (o : ℕ) → AgreedRows t k n sh o 0
  rows_none o = record { right = λ d w h q l. absurd (omega arith) }

  -- the values of an output on a row, as the code reads them
  pub design-value : {d : Design} {w : Network} → Drawing d w t k n sh → (o r : ℕ) → o < k.outputs → r < max_rows
      → row_on (table_at k.tables o) r ≡ output_on d o r
  design-value h o r l m = (h.holds.tabled o l).each r m

  pub output_is : {d : Design} {w : Network} → Drawing d w t k n sh → (o : ℕ) → o < k.outputs → o < length d.outputs
  output_is h o l = omega (arith, h.holds.outputs_counted)

  -- an output whose every row agrees
  pub agreed_more : (o r rows : ℕ)
      → Agreed t k n sh o
      → o < k.outputs
      → rows ≡ 2 ^ k.inputs
      → AgreedRows t k n sh o r
      → rows ≤ r
      → Agreed t k n sh (o + 1)
  agreed_more o r rows a l count s m =
      record {
        within = omega arith;
        right = λ d w h p q i j.
            let e : 2 ^ k.inputs ≡ 2 ^ length d.inputs = ap (λ (x : ℕ). 2 ^ x) h.holds.inputs_counted in
            below_more (λ (z : ℕ). network_on d w z q ≡ output_on d z q) o
            (λ z b. a.right d w h z q b j)
            (s.right d w h q (omega arith))
            p i;
      }

  pub ended_agreed : (o r : ℕ) → Agreed t k n sh o → k.outputs ≤ o → Ended t k n sh o r
  ended_agreed o r a m = record { agreed = a; differing = λ l. absurd (omega arith) }

  -- ---- the answer
  pub answer_differs : (o r : ℕ) → Ended t k n sh o r → o < k.outputs
      → (d : Design) (w : Network)
      → Drawing d w t k n sh
      → differs o r ≡ compared d w
  answer_differs o r s l d w h = sym (differs_compared d w o r (s.differing l d w h))

  pub answer_same : (o r : ℕ) → Ended t k n sh o r → k.outputs ≤ o
      → (d : Design) (w : Network)
      → Drawing d w t k n sh
      → same ≡ compared d w
  answer_same o r s m d w h =
      let a = s.agreed in
      sym
      (same-compared d w
      (record { agrees = λ p q i j. a.right d w h p q (omega (arith, h.holds.outputs_counted)) j }))

  -- ---- what the code is asked for on the way
  pub rows_few : SomeDrawing t k n sh → (rows : ℕ) → rows ≡ 2 ^ k.inputs → rows ≤ max_rows
  rows_few s rows e =
      let few : 2 ^ k.inputs ≤ 2 ^ max_inputs = pow_mono s.drawing.holds.inputs_few in
      omega arith

  pub some_ready : SomeDrawing t k n sh → (o : ℕ) → o < k.outputs
      → Ready t n.lutat (get_or n.reads o 0) n.luts (get_or n.nodeat o 0) sh
  some_ready s o l = drawing_ready s.drawing o (output_is s.drawing o l)
