-- BLIF: how a text is read, by the rules of the format and not by what Printer writes. They stand in "Berkeley Logic
-- Interchange Format (BLIF)", University of California, Berkeley, 1992. The directives `.model`, `.inputs`, `.outputs`,
-- `.names` and `.end` and covers with 1 in the output plane are understood, and everything else is refused, comments and
-- continued lines too (clause 12.5). Assumes nothing.
use Rattle.std.specs.Prelude.{Bool, true, false, not, ◌&&◌, List, [], ◌∷◌, ◌++◌, map, ℕ, eqb, length}
use Rattle.std.proofs.Math.Option.{Option, some, none}
use Rattle.bits.specs.Logic.{pick}
use Rattle.text.specs.Bytes.{bytes, same}
use Rattle.text.specs.Line.{lines}
use Rattle.names.specs.Spelled.{stands_in}
use Rattle.blif.specs.Words.{all_plain, words}
use Rattle.blif.specs.Model.{Signal, Mark, must_be, any, Block, drives_of, Model}

-- ---- what a line of words says
pub data Said : Type 0 where
  inputs outputs : List Signal → Said
  names : List Signal → Signal → Said
  cover : List Mark → Said
  end : Said
  not_understood : Said

-- `.names` has the block's inputs and, as its last word, the signal that the block drives
abbrev pub front : Signal → List Signal → List Signal
front s [] = []
front s (t ∷ ts) = s ∷ front t ts

abbrev pub final : Signal → List Signal → Signal
final s [] = s
final s (t ∷ ts) = final t ts

abbrev pub names_line : List Signal → Said
names_line [] = not_understood
names_line (s ∷ ss) = names (front s ss) (final s ss)

-- `.end` stands alone
abbrev pub end_line : List Signal → Said
end_line [] = end
end_line (s ∷ ss) = not_understood

-- the input plane of a cover line: 0, 1 and `-`
abbrev pub mark_of : ℕ → Option Mark
mark_of b =
    pick (eqb b 0x30) (some (must_be false))
    (pick (eqb b 0x31) (some (must_be true)) (pick (eqb b 0x2D) (some any) none))

abbrev pub and_mark : Option Mark → Option (List Mark) → Option (List Mark)
and_mark (some m) (some ms) = some (m ∷ ms)
and_mark (some m) none = none
and_mark none ms = none

unfoldable pub marks_of : List ℕ → Option (List Mark)
marks_of [] = some []
marks_of (b ∷ s) = and_mark (mark_of b) (marks_of s)

abbrev pub covered : Option (List Mark) → Said
covered (some ms) = cover ms
covered none = not_understood

-- a cover line: the input plane, where there are inputs, and the output plane, which is `1`
abbrev pub cover_line : List ℕ → List Signal → Said
cover_line w [] = pick (same w (bytes "1")) (cover []) not_understood
cover_line w (v ∷ []) = pick (same v (bytes "1")) (covered (marks_of w)) not_understood
cover_line w (v ∷ u ∷ ws) = not_understood

unfoldable pub said : List Signal → Said
said [] = not_understood
said (w ∷ ws) =
    pick (same w (bytes ".inputs")) (inputs ws)
    (pick (same w (bytes ".outputs")) (outputs ws)
    (pick (same w (bytes ".names")) (names_line ws)
    (pick (same w (bytes ".end")) (end_line ws) (cover_line w ws))))

-- ---- what the lines say together
-- the lines from some line on: the cover lines at their front, which belong to the block above, and what follows them
pub record Rest : Type 0 where
  pub cover : List (List Mark)
  pub model : Model

abbrev pub onward : Option Rest → (Rest → Option Rest) → Option Rest
onward none f = none
onward (some r) f = f r

-- no cover line follows a line that opens no block
abbrev pub no_cover : List (List Mark) → Bool
no_cover [] = true
no_cover (ms ∷ mss) = false

-- several `.inputs` lines are one list; the outputs likewise
abbrev pub with_inputs : List Signal → Rest → Option Rest
with_inputs ss r =
    let m = r.model in
    pick (no_cover r.cover)
    (some (record { cover = []; model = record { name = m.name; inputs = ss ++ m.inputs; outputs = m.outputs; blocks = m.blocks } }))
    none

abbrev pub with_outputs : List Signal → Rest → Option Rest
with_outputs ss r =
    let m = r.model in
    pick (no_cover r.cover)
    (some (record { cover = []; model = record { name = m.name; inputs = m.inputs; outputs = ss ++ m.outputs; blocks = m.blocks } }))
    none

-- a cover line marks as many inputs as its block has
abbrev pub all_long : ℕ → List (List Mark) → Bool
all_long n [] = true
all_long n (ms ∷ mss) = eqb (length ms) n && all_long n mss

abbrev pub with_block : List Signal → Signal → Rest → Option Rest
with_block ss s r =
    let m = r.model in
    let b : Block = record { reads = ss; drives = s; cover = r.cover } in
    pick (all_long (length ss) r.cover)
    (some (record { cover = []; model = record { name = m.name; inputs = m.inputs; outputs = m.outputs; blocks = b ∷ m.blocks } }))
    none

abbrev pub with_cover : List Mark → Rest → Option Rest
with_cover ms r = some (record { cover = ms ∷ r.cover; model = r.model })

-- `.end` is the last
abbrev pub ended : List ℕ → List Said → Option Rest
ended n [] = some (record { cover = []; model = record { name = n; inputs = []; outputs = []; blocks = [] } })
ended n (l ∷ ls) = none

-- in the model of name n
unfoldable pub read_rest : List ℕ → List Said → Option Rest
read_rest n [] = none
read_rest n (inputs ss ∷ ls) = onward (read_rest n ls) (with_inputs ss)
read_rest n (outputs ss ∷ ls) = onward (read_rest n ls) (with_outputs ss)
read_rest n (names ss s ∷ ls) = onward (read_rest n ls) (with_block ss s)
read_rest n (cover ms ∷ ls) = onward (read_rest n ls) (with_cover ms)
read_rest n (end ∷ ls) = ended n ls
read_rest n (not_understood ∷ ls) = none

-- the words of each line; a line without a word says nothing
abbrev pub kept : List Signal → List (List Signal) → List (List Signal)
kept [] ls = ls
kept (w ∷ ws) ls = (w ∷ ws) ∷ ls

unfoldable pub word_lines : List (List ℕ) → List (List Signal)
word_lines [] = []
word_lines (l ∷ ls) = kept (words l) (word_lines ls)

-- `.model` and one name come first
abbrev pub model_line : List (List ℕ) → Option (List ℕ)
model_line [] = none
model_line (w ∷ []) = none
model_line (w ∷ n ∷ []) = pick (same w (bytes ".model")) (some n) none
model_line (w ∷ n ∷ m ∷ ws) = none

abbrev pub read_named : Option (List ℕ) → List (List Signal) → Option Rest
read_named none ls = none
read_named (some n) ls = read_rest n (map said ls)

abbrev pub read_model : List (List Signal) → Option Rest
read_model [] = none
read_model (l ∷ ls) = read_named (model_line l) ls

-- ---- no signal is driven twice, by inputs and blocks together
unfoldable pub once : List Signal → Bool
once [] = true
once (s ∷ ss) = not (stands_in s ss) && once ss

abbrev pub driven_signals : Model → List Signal
driven_signals m = m.inputs ++ drives_of m.blocks

-- ---- the whole text
-- a model without inputs or outputs is refused: BLIF would infer them where their lines are missing
abbrev pub filled : List Signal → Bool
filled [] = false
filled (s ∷ ss) = true

abbrev pub complete : Option Rest → Option Model
complete none = none
complete (some r) =
    let m = r.model in
    pick (no_cover r.cover && filled m.inputs && filled m.outputs && once (driven_signals m)) (some m) none

unfoldable pub read_blif : List ℕ → Option Model
read_blif t =
    let ls = lines t in
    pick (all_plain ls) (complete (read_model (word_lines ls))) none
