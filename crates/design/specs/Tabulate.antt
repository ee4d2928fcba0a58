-- Table (clause 11.2): questions 1 to 6, then 9; a digit for each row is put down at the front of the buffer, and how many
-- there are is the answer. Assumes nothing.
use Rattle.std.specs.Prelude.{List, ℕ, ◌^◌, leb, ltb, length}
use Rattle.std.proofs.lemmas.List.Edits.{sets}
use Rattle.bits.specs.Logic.{pick}
use Rattle.rows.specs.Digits.{digits_upto}
use Rattle.sheet.specs.Value.{output_on}
use Rattle.sheet.specs.Examine.{Design, Examined, refused, valid, examine}

-- how many rows a design has
abbrev pub row_count : Design → ℕ
row_count d = 2 ^ length d.inputs

-- the digits of output o in row order
unfoldable pub table_digits : Design → ℕ → List ℕ
table_digits d o = digits_upto (output_on d o) (row_count d)

-- Table's answer: a refusal by number and line, or how many digits were written
pub data TableAnswer : Type 0 where
  refused_by : ℕ → ℕ → TableAnswer
  written : ℕ → TableAnswer

-- the answer, and the buffer afterwards
pub record Tabulated : Type 0 where
  pub answer : TableAnswer
  pub buffer : List ℕ

-- on a refusal the buffer is untouched
abbrev pub untouched : ℕ → ℕ → List ℕ → Tabulated
untouched q l b = record { answer = refused_by q l; buffer = b }

-- questions 6 and 9
unfoldable pub table_of : Examined → ℕ → List ℕ → Tabulated
table_of (refused q l) o b = untouched q l b
table_of (valid d) o b =
    let digits = sets b 0 (table_digits d o) in
    pick (ltb o (length d.outputs))
    (pick (leb (row_count d) (length b)) (record { answer = written (row_count d); buffer = digits }) (untouched 9 0 b))
    (untouched 6 0 b)

-- Table on a sheet, an output number and a buffer
unfoldable pub tabulate : List ℕ → ℕ → List ℕ → Tabulated
tabulate s o b = table_of (examine s) o b
