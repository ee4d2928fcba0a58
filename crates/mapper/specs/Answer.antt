-- What the code's answers say, by the definitions (clauses 11.3 and 11.6). Assumes nothing.
use Rattle.std.specs.Prelude.{ℕ, Option, Some, None, Result, Ok, Err}
use Rattle.refusal.specs.Number.{number_of}
use Rattle.refusal.specs.declared.Refusal.{Refusal}
use Rattle.mapper.specs.Map.{MapAnswer, refused_by, mapped}
use Rattle.mapper.specs.Cause.{CauseAnswer, no_cause, outputs_of}
use Rattle.mapper.specs.declared.Mapped.{Mapped}

-- the number of the refusal's question and its line, or U and the length, for each case of the code's answer
abbrev pub map_answer : Result Mapped Refusal → MapAnswer
map_answer (Err r) = refused_by (number_of r.question) r.line
map_answer (Ok m) = mapped m.cells m.length

-- the cause, for each case of the code's answer
abbrev pub cause_answer : Option ℕ → CauseAnswer
cause_answer None = no_cause
cause_answer (Some s) = outputs_of s
