-- Export (clause 11.5): Check's examination of the two sheets, then question 9 for the text in BLIF; the answer is the text's
-- length. Whether the two compute the same is not asked. Assumes nothing.
use Rattle.std.specs.Prelude.{List, ℕ, leb, length}
use Rattle.std.proofs.lemmas.List.Edits.{sets}
use Rattle.bits.specs.Logic.{pick}
use Rattle.sheet.specs.Examine.{Examined, examine}
use Rattle.network.specs.Check.{Pair, refused_pair, pair, examine_pair}
use Rattle.blif.specs.Printer.{print_blif}

-- a refusal by number and line, or the length of the text
pub data ExportAnswer : Type 0 where
  refused_by : ℕ → ℕ → ExportAnswer
  written : ℕ → ExportAnswer

-- the answer, and the buffer afterwards
pub record Exported : Type 0 where
  pub answer : ExportAnswer
  pub buffer : List ℕ

-- on a refusal the buffer is untouched
abbrev pub untouched : ℕ → ℕ → List ℕ → Exported
untouched q l b = record { answer = refused_by q l; buffer = b }

-- the text t from the buffer's start
abbrev pub wrote : List ℕ → List ℕ → Exported
wrote t b = record { answer = written (length t); buffer = sets b 0 t }

-- question 9
unfoldable pub put_text : List ℕ → List ℕ → Exported
put_text t b = pick (leb (length t) (length b)) (wrote t b) (untouched 9 0 b)

abbrev pub export_pair : Pair → List ℕ → Exported
export_pair (refused_pair q l) b = untouched q l b
export_pair (pair d w) b = put_text (print_blif d w) b

-- on what the examination of a design answers, and a network sheet
unfoldable pub export_of : Examined → List ℕ → List ℕ → Exported
export_of x t b = export_pair (examine_pair x t) b

-- on a design sheet, a network sheet and a buffer
unfoldable pub export : List ℕ → List ℕ → List ℕ → Exported
export s t b = export_of (examine s) t b
