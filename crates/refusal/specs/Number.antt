-- The numbers of the questions (the examination, question by question, of docs/SPECIFICATION.md), and what a refusal says by them.
-- Assumes nothing.
use Rattle.std.specs.Prelude.{◌≡◌, ℕ}
use Rattle.refusal.specs.declared.Question.{Question}
use Rattle.refusal.specs.declared.Refusal.{Refusal}

abbrev pub number_of : Question → ℕ
number_of Question.SheetBytes = 1
number_of Question.Spelling = 2
number_of Question.Ranges = 3
number_of Question.NewNames = 4
number_of Question.InputNames = 5
number_of Question.OutputNumber = 6
number_of Question.FewClasses = 7
number_of Question.EnoughCells = 8
number_of Question.BufferLength = 9
number_of Question.NetworkSpelling = 10
number_of Question.NetworkLimits = 11
number_of Question.PlaSpelling = 12
number_of Question.PlaRanges = 13
number_of Question.PlaMarks = 14

-- r refuses by question q at line l
pub record Refuses (q l : ℕ) (r : Refusal) : Type 0 where
  pub number : number_of r.question ≡ q
  pub line : r.line ≡ l
