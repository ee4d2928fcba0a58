-- The examination of a design sheet by questions 1 to 5 (clauses 9.1 to 9.5, 10.1 to 10.6): the lines in their order, on each
-- line questions 2 to 5 in turn, with what is known so far. The answer is the refusal, a number and a line, or the design.
-- Assumes nothing.
use Rattle.std.specs.Prelude.{Bool, false, not, ◌&&◌, ◌||◌, List, [], ◌∷◌, ◌++◌, map, ℕ, suc, eqb, leb, ltb, length}
use Rattle.std.proofs.Math.Option.{Option, some, none}
use Rattle.bits.specs.Logic.{pick}
use Rattle.limits.specs.Limits.{max_inputs, max_bound, max_limit, max_outputs, max_depth, max_sheet}
use Rattle.text.specs.Bytes.{same, newline}
use Rattle.text.specs.Line.{lines}
use Rattle.names.specs.Name.{Name, among, distinct, all_among}
use Rattle.names.specs.Spelled.{spelled_by}
use Rattle.formula.specs.Tree.{depth, knows}
use Rattle.sheet.specs.Lines.{Output, design_line, end_line, read_in, read_bound, read_limit, read_out}

-- what a valid sheet says; its bound names are spelled as the `in` line spells them
pub record Design : Type 0 where
  pub inputs : List Name
  pub bound : List Name
  pub limit : ℕ
  pub outputs : List Output

-- the design with another part
abbrev pub with_inputs : Design → List Name → Design
with_inputs d ns = record { inputs = ns; bound = d.bound; limit = d.limit; outputs = d.outputs }

abbrev pub with_bound : Design → List Name → Design
with_bound d ns = record { inputs = d.inputs; bound = ns; limit = d.limit; outputs = d.outputs }

abbrev pub with_limit : Design → ℕ → Design
with_limit d n = record { inputs = d.inputs; bound = d.bound; limit = n; outputs = d.outputs }

abbrev pub with_outputs : Design → List Output → Design
with_outputs d os = record { inputs = d.inputs; bound = d.bound; limit = d.limit; outputs = os }

pub data Examined : Type 0 where
  refused : ℕ → ℕ → Examined
  valid : Design → Examined

-- which line is wanted
pub data Place : Type 0 where
  at_design at_in at_bound at_limit at_out over : Place

-- what a line comes to: the number of the first question with the answer "no", or the next place and what is known then
pub data Step : Type 0 where
  no_to : ℕ → Step
  next : Place → Design → Step

-- questions in turn, each with its number and its answer
abbrev pub ask : List (ℕ × Bool) → Step → Step
ask [] onward = onward
ask (q ∷ qs) onward = pick q.1 (ask qs onward) (no_to q.0)

abbrev pub within : ℕ → ℕ → ℕ → Bool
within low high n = leb low n && leb n high

-- ---- the lines, each after question 2
unfoldable pub ask_in : Design → Option (List Name) → Step
ask_in d none = no_to 2
ask_in d (some ns) =
    ask ((3, within 1 max_inputs (length ns)) ∷ (4, distinct ns) ∷ []) (next at_bound (with_inputs d ns))

unfoldable pub ask_bound : Design → Option (List Name) → Step
ask_bound d none = no_to 2
ask_bound d (some ns) =
    ask ((3, within 1 max_bound (length ns)) ∷ (4, distinct ns) ∷ (5, all_among ns d.inputs) ∷ [])
    (next at_limit (with_bound d (map (spelled_by d.inputs) ns)))

unfoldable pub ask_limit : Design → Option ℕ → Step
ask_limit d none = no_to 2
ask_limit d (some n) = ask ((3, leb n max_limit) ∷ []) (next at_out (with_limit d n))

abbrev pub output_names : List Output → List Name
output_names os = map (λ (o : Output). o.name) os

-- whether the name of an `out` line is neither an input nor an output so far
abbrev pub new_name : Design → Name → Bool
new_name d n = not (among n d.inputs) && not (among n (output_names d.outputs))

abbrev pub with_output : Design → Output → Design
with_output d o = with_outputs d (d.outputs ++ (o ∷ []))

unfoldable pub ask_out : Design → Option Output → Step
ask_out d none = no_to 2
ask_out d (some o) =
    ask
    ((3, ltb (length d.outputs) max_outputs && leb (depth o.formula) max_depth)
    ∷ (4, new_name d o.name)
    ∷ (5, knows d.inputs o.formula)
    ∷ [])
    (next at_out (with_output d o))

-- `(end)` is refused by 3 where there is no output yet (clause 10.4)
unfoldable pub ask_end : Design → Step
ask_end d = ask ((3, leb 1 (length d.outputs)) ∷ []) (next over d)

-- ---- one line, by the place that it stands at
unfoldable pub ask_line : Place → Design → List ℕ → Step
ask_line at_design d l = pick (same l design_line) (next at_in d) (no_to 2)
ask_line at_in d l = ask_in d (read_in l)
ask_line at_bound d l = ask_bound d (read_bound l)
ask_line at_limit d l = ask_limit d (read_limit l)
ask_line at_out d l = pick (same l end_line) (ask_end d) (ask_out d (read_out l))
ask_line over d l = no_to 2

-- ---- all lines, the next of which has the number n; a missing line is misspelled, one past the last
abbrev pub at_end : Place → Design → ℕ → Examined
at_end at_design d n = refused 2 n
at_end at_in d n = refused 2 n
at_end at_bound d n = refused 2 n
at_end at_limit d n = refused 2 n
at_end at_out d n = refused 2 n
at_end over d n = valid d

abbrev pub follow : Step → ℕ → (Place → Design → Examined) → Examined
follow (no_to q) n onward = refused q n
follow (next p d) n onward = onward p d

unfoldable pub ask_lines : Place → Design → ℕ → List (List ℕ) → Examined
ask_lines p d n [] = at_end p d n
ask_lines p d n (l ∷ ls) = follow (ask_line p d l) n (λ p' d'. ask_lines p' d' (suc n) ls)

-- ---- question 1
-- the bytes that a sheet may have
unfoldable pub plain : ℕ → Bool
plain b = within 0x20 0x7E b || eqb b newline

-- whether every byte is plain, and the last is 0x0A
unfoldable pub plain_lines : List ℕ → Bool
plain_lines [] = false
plain_lines (b ∷ []) = eqb b newline
plain_lines (b ∷ c ∷ s) = plain b && plain_lines (c ∷ s)

unfoldable pub sized : List ℕ → Bool
sized s = within 1 max_sheet (length s) && plain_lines s

abbrev pub nothing : Design
nothing = record { inputs = []; bound = []; limit = 0; outputs = [] }

-- ---- questions 1 to 5
unfoldable pub examine : List ℕ → Examined
examine s =
    let answer = ask_lines at_design nothing 1 (lines s) in
    pick (sized s) answer (refused 1 0)
