-- The examination of a pair, a PLA text and a second text (clause 13.8): 12 to 14 on the first, 1 and 2 on the second, then what 3
-- to 5 ask of a sheet's names, first of the names in the PLA text and then of the lines of the second. The answer is that of a sheet's examination: a refusal, its line
-- counted in the text at fault, or a design. Assumes nothing.
use Rattle.std.specs.Prelude.{List, [], ◌∷◌, ℕ, suc}
use Rattle.std.proofs.Math.Option.{some}
use Rattle.bits.specs.Logic.{pick}
use Rattle.text.specs.Line.{lines}
use Rattle.names.specs.Name.{Name}
use Rattle.sheet.specs.Lines.{Output}
use Rattle.sheet.specs.Examine.{Design, Examined, refused, valid, ask_in, ask_out, ask_bound, ask_limit, follow, sized, nothing}
use Rattle.cubes.specs.Terms.{cover_formula}
use Rattle.platext.specs.Lines.{input_names_line, output_names_line}
use Rattle.platext.specs.Text.{Pla}
use Rattle.panel.specs.Questions as text
use Rattle.panel.specs.Questions.{examine_text}
use Rattle.panel.specs.Board.{Board, misspelled, board, bound_line, limit_line, read_board}

-- the outputs from number o on, each with the disjunction of its cubes as its formula
unfoldable pub outputs_from : Pla → ℕ → List Name → List Output
outputs_from x o [] = []
outputs_from x o (n ∷ ns) = record { name = n; formula = cover_formula x.inputs x.cubes o } ∷ outputs_from x (suc o) ns

abbrev pub outputs_of : Pla → List Output
outputs_of x = outputs_from x 0 x.outputs

-- ---- questions 3 to 5, as a sheet's names and lines are asked
unfoldable pub ask_outputs : Design → List Output → (Design → Examined) → Examined
ask_outputs d [] onward = onward d
ask_outputs d (o ∷ os) onward = follow (ask_out d (some o)) output_names_line (λ _ e. ask_outputs e os onward)

abbrev pub ask_names : Pla → (Design → Examined) → Examined
ask_names x onward = follow (ask_in nothing (some x.inputs)) input_names_line (λ _ d. ask_outputs d (outputs_of x) onward)

abbrev pub ask_board : List Name → ℕ → Design → Examined
ask_board bs n d =
    follow (ask_bound d (some bs)) bound_line (λ _ e. follow (ask_limit e (some n)) limit_line (λ _ f. valid f))

-- ---- question 2 on the second text, and what comes after it
abbrev pub with_board : Board → Pla → Examined
with_board (misspelled l) x = refused 2 l
with_board (board bs n) x = ask_names x (ask_board bs n)

-- ---- question 1 on the second text b
abbrev pub beside_text : text.Examined → List ℕ → Examined
beside_text (text.refused q l) b = refused q l
beside_text (text.passed x) b =
    let answer = with_board (read_board (lines b)) x in
    pick (sized b) answer (refused 1 0)

-- the PLA text p and the second text b
unfoldable pub examine : List ℕ → List ℕ → Examined
examine p b = beside_text (examine_text p) b
