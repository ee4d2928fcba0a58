-- Table's answers, one for each way out of the code. Assumes nothing.
use Rattle.std.specs.Prelude.{◌≡◌, refl, ℕ, ◌^◌, ◌≤◌, ◌<◌, length, Result, Ok, Err}
use Rattle.std.proofs.Math.Path.{sym, ap}
use Rattle.std.proofs.Common.{ap₂, ◌∙◌, arith, pow_mono}
use mathlib.Core.List.{List}
use Rattle.std.proofs.Math.Seq.{sets}
use borrow.Author.Tests.{le-leb, lt-leb, lt-ltb, le-ltb}
use Rattle.limits.specs.Limits.{max_inputs, max_rows}
use Rattle.rows.specs.Words.{row_on}
use Rattle.rows.specs.Digits.{digits_upto}
use Rattle.rows.specs.DigitLaws.{digits_rowwise}
use Rattle.sheet.specs.Examine as spec
use Rattle.sheet.specs.Examine.{Design, refused, valid}
use Rattle.sheet.specs.Known.{Holds, table_at}
use Rattle.sheet.specs.Value.{output_on}
use Rattle.sheet.specs.declared.Sheet.{Sheet}
use Rattle.design.specs.Tabulate.{Tabulated, written, untouched, table_of, tabulate, table_digits, row_count}
use Rattle.design.specs.Answer.{ExaminedIs}
use Rattle.refusal.specs.Number.{number_of}
use Rattle.refusal.specs.declared.Refusal.{Refusal}

-- ---- what the answer of an examination holds
-- by a refusal
pub refused-here : (y : spec.Examined) (r : Refusal) → ExaminedIs y (Err r) → refused (number_of r.question) r.line ≡ y
refused-here (refused q l) r h = ap₂ refused h.number h.line
refused-here (valid d) r h = absurd h

-- by a sheet
pub record Valid (y : spec.Examined) (k : Sheet) : Type 0 where
  pub design : Design
  pub answered : valid design ≡ y
  pub holds : Holds design k

pub valid_here : (y : spec.Examined) (k : Sheet) → ExaminedIs y (Ok k) → Valid y k
valid_here (refused q l) k h = absurd h
valid_here (valid d) k h = record { design = d; answered = refl; holds = h }

-- ---- where nothing is written
pub table-refused : (x : spec.Examined) (o : ℕ) (b : List ℕ) (r : Refusal) → ExaminedIs x (Err r)
    → untouched (number_of r.question) r.line b ≡ table_of x o b
unfolding table_of
table-refused x o b r h = ap (λ (y : spec.Examined). table_of y o b) (refused-here x r h)

module _ (x : spec.Examined) (o : ℕ) (b : List ℕ) (k : Sheet) (v : Valid x k) where
  rows_are : (n : ℕ) → n ≡ 2 ^ k.inputs → n ≡ row_count v.design
  rows_are n e = e ∙ ap (λ (i : ℕ). 2 ^ i) v.holds.inputs_counted

  pub table_no_output : k.outputs ≤ o → untouched 6 0 b ≡ table_of x o b
  unfolding table_of
  table_no_output h =
      let m = v.holds.outputs_counted in
      sym (rw (le-ltb o (length v.design.outputs) (omega arith)) refl)
      ∙ ap (λ (y : spec.Examined). table_of y o b) v.answered

  pub table_short : (n : ℕ) → n ≡ 2 ^ k.inputs → o < k.outputs → length b < n → untouched 9 0 b ≡ table_of x o b
  unfolding table_of
  table_short n e h l =
      let m = v.holds.outputs_counted in
      let c = rows_are n e in
      sym
      (rw
      (lt-ltb o (length v.design.outputs) (omega arith), lt-leb (row_count v.design) (length b) (omega arith))
      refl)
      ∙ ap (λ (y : spec.Examined). table_of y o b) v.answered

  -- ---- where the digits are
  pub rows_few : (n : ℕ) → n ≡ 2 ^ k.inputs → n ≤ max_rows
  rows_few n e =
      let few : 2 ^ k.inputs ≤ 2 ^ max_inputs = pow_mono v.holds.inputs_few in
      omega arith

  pub table-written : (n : ℕ)
      → n ≡ 2 ^ k.inputs
      → o < k.outputs
      → n ≤ length b
      → record { answer = written n; buffer = sets b 0 (digits_upto (row_on (table_at k.tables o)) n) } ≡ table_of x o b
  unfolding table_of table_digits
  table-written n e h l =
      let m = v.holds.outputs_counted in
      let c = rows_are n e in
      ap (λ (ds : List ℕ). record { answer = written n; buffer = sets b 0 ds })
      (digits_rowwise (v.holds.tabled o h) n (rows_few n e))
      ∙ ap (λ (i : ℕ). record { answer = written i; buffer = sets b 0 (digits_upto (output_on v.design o) i) }) c
      ∙ sym
      (rw
      (lt-ltb o (length v.design.outputs) (omega arith), le-leb (row_count v.design) (length b) (omega arith))
      refl)
      ∙ ap (λ (y : spec.Examined). table_of y o b) v.answered

-- ---- on a design sheet
pub table_of_sheet : (s : List ℕ) (o : ℕ) (b : List ℕ) (t : Tabulated)
    → t ≡ table_of (spec.examine s) o b
    → t ≡ tabulate s o b
unfolding tabulate
table_of_sheet s o b t e = e
