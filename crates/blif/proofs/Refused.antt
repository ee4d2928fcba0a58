-- On a refusal the buffer is untouched, whatever its length: what rests on the definition that an edit in must-fail/ turns.
-- Assumes nothing.
use Rattle.std.specs.Prelude.{◌≡◌, List, ℕ, length, Err}
use Rattle.std.proofs.Common.{◌∙◌}
use Rattle.refusal.specs.Number.{number_of}
use Rattle.refusal.specs.declared.Refusal.{Refusal}
use Rattle.sheet.specs.Examine as sheets
use Rattle.sheet.specs.Examine.{Design, Examined, valid}
use Rattle.network.specs.Check.{examine_pair}
use Rattle.checker.specs.Beside.{BesideIs}
use Rattle.blif.specs.Printer.{print_blif}
use Rattle.blif.specs.Export.{untouched, export_of}
use Rattle.blif.specs.Simulated.{ExportRefuses, as_check, by_buffer}
use Rattle.blif.specs.OutcomeLaws.{put_short, drawn_put, checked_refused}
use Rattle.blif.specs.AnswerLaws.{refused_as}

module _ (x : Examined) (t b : List ℕ) where
  pub export_refuses : (q l : ℕ) → ExportRefuses x t (length b) q l → export_of x t b ≡ untouched q l b
  export_refuses q l (as_check p m e) = checked_refused x t b p m e
  export_refuses q l (by_buffer d w e f h) = drawn_put x t b d w e f ∙ put_short (print_blif d w) b h

module _ (t : List ℕ) (r : Refusal) (x : sheets.Examined) (h : BesideIs t (examine_pair x t) (Err r)) where
  pub answer_refused : (s : List ℕ) → untouched (number_of r.question) r.line s ≡ export_of x t s
  unfolding export_of
  answer_refused s = refused_as t r (examine_pair x t) s h
