-- The answers of Export (clause 11.5), by the definitions. Assumes nothing.
use Rattle.std.specs.Prelude.{ℕ, Result, Ok, Err}
use Rattle.refusal.specs.Number.{number_of}
use Rattle.refusal.specs.declared.Refusal.{Refusal}
use Rattle.blif.specs.Export.{ExportAnswer, refused_by, written}

-- the number of the refusal's question and its line, or the text's length, for each case of the code's answer
abbrev pub export_answer : Result ℕ Refusal → ExportAnswer
export_answer (Err r) = refused_by (number_of r.question) r.line
export_answer (Ok n) = written n
