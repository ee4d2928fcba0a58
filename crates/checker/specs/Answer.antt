-- The answers of Check (clause 11.4), by the definitions. Assumes nothing.
use Rattle.std.specs.Prelude.{Result, Ok, Err}
use Rattle.network.specs.Check as spec
use Rattle.refusal.specs.Number.{number_of}
use Rattle.refusal.specs.declared.Refusal.{Refusal}
use Rattle.comparing.specs.Answer.{comparison_of}
use Rattle.comparing.specs.declared.Comparison.{Comparison}

-- the definition's answer for each case of the code's
abbrev pub checked_of : Result Comparison Refusal → spec.Checked
checked_of (Ok c) = comparison_of c
checked_of (Err r) = spec.refused_by (number_of r.question) r.line
