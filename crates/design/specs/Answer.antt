-- What the code's answers say, by the definitions (clause 11.2). Assumes nothing.
use Rattle.std.specs.Prelude.{◌≡◌, ℕ, Result, Ok, Err}
use Rattle.refusal.specs.Number.{number_of, Refuses}
use Rattle.refusal.specs.declared.Refusal.{Refusal}
use Rattle.sheet.specs.Examine as spec
use Rattle.sheet.specs.Examine.{Design, refused, valid}
use Rattle.sheet.specs.Known.{Holds}
use Rattle.sheet.specs.WellFormed.{WellFormed}
use Rattle.sheet.specs.declared.Sheet.{Sheet}
use Rattle.design.specs.Tabulate.{TableAnswer, refused_by, written}

abbrev pub RefusedAs : ℕ → ℕ → Result Sheet Refusal → Type 0
RefusedAs q l (Err r) = Refuses q l r
RefusedAs q l (Ok k) = ⊥

abbrev pub ValidAs : Design → Result Sheet Refusal → Type 0
ValidAs d (Err r) = ⊥
ValidAs d (Ok k) = Holds d k

abbrev pub ExaminedIs : spec.Examined → Result Sheet Refusal → Type 0
ExaminedIs (refused q l) e = RefusedAs q l e
ExaminedIs (valid d) e = ValidAs d e

-- what any examination may answer: a refusal, or a well_formed design
abbrev pub Right : spec.Examined → Type 0
Right x = (d : Design) → x ≡ valid d → WellFormed d

-- e is the answer of an examination, of whichever text: a refusal, or a well_formed design that the sheet holds
pub record Examination (e : Result Sheet Refusal) : Type 0 where
  pub found : spec.Examined
  pub is : ExaminedIs found e
  pub right : Right found

-- the number of the refusal's question and its line, or the count of digits, for each case of the code's answer
abbrev pub table_answer : Result ℕ Refusal → TableAnswer
table_answer (Err r) = refused_by (number_of r.question) r.line
table_answer (Ok n) = written n
