-- Questions 12 to 14, each of the whole PLA text before the next is asked (clauses 9.12 to 9.14, 13.8). Assumes nothing.
use Rattle.std.specs.Prelude.{Bool, true, ◌&&◌, ◌||◌, List, [], ◌∷◌, ℕ, suc, eqb, leb, length}
use Rattle.std.proofs.Math.Option.{Option, some, none}
use Rattle.bits.specs.Logic.{pick}
use Rattle.limits.specs.Limits.{max_inputs, max_outputs}
use Rattle.cubes.specs.Cube.{Cube}
use Rattle.platext.specs.Lines.{inputs_line, outputs_line, first_cube}
use Rattle.platext.specs.Text.{Pla, Answer, bad_line, pla, read_pla}

-- question 13: no more inputs than a sheet may have, else the line of `.i`; and no more outputs, else the line of `.o`
unfoldable pub too_many : Pla → Option ℕ
too_many x =
    pick (leb (length x.inputs) max_inputs)
    (pick (leb (length x.outputs) max_outputs) none (some outputs_line))
    (some inputs_line)

-- question 14: the output parts have no bytes but 0 and 1; the cubes stand from line n on
unfoldable pub zeros_and_ones : List ℕ → Bool
zeros_and_ones [] = true
zeros_and_ones (b ∷ bs) = (eqb b 0x30 || eqb b 0x31) && zeros_and_ones bs

unfoldable pub other_mark : ℕ → List Cube → Option ℕ
other_mark n [] = none
other_mark n (c ∷ cs) =
    let later = other_mark (suc n) cs in
    pick (zeros_and_ones c.marks) later (some n)

-- a refusal by number and line, or what the text says
pub data Examined : Type 0 where
  refused : ℕ → ℕ → Examined
  passed : Pla → Examined

abbrev pub refused_at : ℕ → Option ℕ → Examined → Examined
refused_at q none onward = onward
refused_at q (some l) onward = refused q l

abbrev pub further_asked : Answer → Examined
further_asked (bad_line l) = refused 12 l
further_asked (pla x) = refused_at 13 (too_many x) (refused_at 14 (other_mark first_cube x.cubes) (passed x))

unfoldable pub examine_text : List ℕ → Examined
examine_text t = further_asked (read_pla t)
