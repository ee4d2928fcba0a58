-- A PLA text as a whole: what it says, how it is written, and question 12, which reads it line by line
-- (clauses 9.12 and 13.9). Assumes nothing.
use Rattle.std.specs.Prelude.{Bool, not, ◌||◌, List, [], ◌∷◌, ◌++◌, map, ℕ, suc, eqb, length}
use Rattle.std.proofs.Math.Option.{Option, some, none}
use Rattle.bits.specs.Logic.{pick}
use Rattle.limits.specs.Limits.{max_pla}
use Rattle.text.specs.Bytes.{same}
use Rattle.text.specs.Line.{lines, ended_lines, ends_line, is_last}
use Rattle.names.specs.Name.{Name}
use Rattle.sheet.specs.Examine.{within}
use Rattle.cubes.specs.Cube.{Cube, print_cube, read_cube}
use Rattle.platext.specs.Lines.{inputs_line, outputs_line, input_names_line, output_names_line, cubes_line, first_cube}
use Rattle.platext.specs.Lines.{inputs_word, outputs_word, input_names_word, output_names_word, cubes_word, end_line}
use Rattle.platext.specs.Lines.{print_count, print_named, read_count, read_named}

-- what a PLA text says; `.i`, `.o` and `.p` give the numbers of names and of cubes
pub record Pla : Type 0 where
  pub inputs : List Name
  pub outputs : List Name
  pub cubes : List Cube

-- ---- how it is written
unfoldable pub pla_lines : Pla → List (List ℕ)
pla_lines x =
    print_count inputs_word (length x.inputs)
    ∷ print_count outputs_word (length x.outputs)
    ∷ print_named input_names_word x.inputs
    ∷ print_named output_names_word x.outputs
    ∷ print_count cubes_word (length x.cubes)
    ∷ (map print_cube x.cubes ++ (end_line ∷ []))

unfoldable pub print_pla : Pla → List ℕ
print_pla x = ended_lines (pla_lines x)

-- ---- how it is read: the first bad line, or what the text says
pub data Answer : Type 0 where
  bad_line : ℕ → Answer
  pla : Pla → Answer

abbrev pub or_bad : {A : Type 0} → ℕ → Option A → (A → Answer) → Answer
or_bad n none onward = bad_line n
or_bad n (some a) onward = onward a

-- line n, the next of some lines, and then the others; where it is missing, n is one more than there are; `ended` says whether 0x0A
-- ends the last one, which is bad if not
abbrev pub next_line : {A : Type 0} → Bool → ℕ → (List ℕ → Option A) → (A → List (List ℕ) → Answer) → List (List ℕ) → Answer
next_line ended n read onward [] = bad_line n
next_line ended n read onward (l ∷ ls) = pick (ended || not (is_last ls)) (or_bad n (read l) (λ a. onward a ls)) (bad_line n)

-- what the lines before the cubes say
pub record Head : Type 0 where
  pub inputs : List Name
  pub outputs : List Name
  pub cubes : ℕ

-- a line among the cubes: the last line, or a cube
pub data CubeLine : Type 0 where
  last : CubeLine
  one : Cube → CubeLine

abbrev pub as_cube : Option Cube → Option CubeLine
as_cube none = none
as_cube (some c) = some (one c)

unfoldable pub read_cube_line : ℕ → ℕ → List ℕ → Option CubeLine
read_cube_line i o l =
    let cube = as_cube (read_cube i o l) in
    pick (same l end_line) (some last) cube

-- the lines after `.e`, which is line n: there are none
abbrev pub nothing_more : ℕ → Pla → List (List ℕ) → Answer
nothing_more n x [] = pla x
nothing_more n x (l ∷ ls) = bad_line (suc n)

-- `.e`, which is line n: there are as many cubes as `.p` says
unfoldable pub at_last : Head → List Cube → ℕ → List (List ℕ) → Answer
at_last h cs n ls =
    let answer = nothing_more n (record { inputs = h.inputs; outputs = h.outputs; cubes = cs }) ls in
    pick (eqb (length cs) h.cubes) answer (bad_line n)

abbrev pub by_kind : Answer → (Cube → Answer) → CubeLine → Answer
by_kind end further last = end
by_kind end further (one c) = further c

-- the lines from number n on, after the cubes cs
unfoldable pub read_cubes : Bool → Head → List Cube → ℕ → List (List ℕ) → Answer
read_cubes ended h cs n [] = bad_line n
read_cubes ended h cs n (l ∷ ls) =
    next_line ended n (read_cube_line (length h.inputs) (length h.outputs))
    (λ k others. by_kind (at_last h cs n others) (λ c. read_cubes ended h (cs ++ (c ∷ [])) (suc n) ls) k)
    (l ∷ ls)

unfoldable pub read_lines : Bool → List (List ℕ) → Answer
read_lines ended =
    next_line ended inputs_line (read_count inputs_word 1) (λ i.
    next_line ended outputs_line (read_count outputs_word 1) (λ o.
    next_line ended input_names_line (read_named input_names_word i) (λ ns.
    next_line ended output_names_line (read_named output_names_word o) (λ ms.
    next_line ended cubes_line (read_count cubes_word 0) (λ p.
    read_cubes ended (record { inputs = ns; outputs = ms; cubes = p }) [] first_cube)))))

-- question 12: the size (line 0), then line by line
unfoldable pub read_pla : List ℕ → Answer
read_pla t =
    let answer = read_lines (ends_line t) (lines t) in
    pick (within 1 max_pla (length t)) answer (bad_line 0)
