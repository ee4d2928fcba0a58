-- Questions 10 and 11 (clauses 9.10, 9.11, 10.7 and 10.8): the lines of a network sheet in their order, beside a design, and
-- then the limit and the widths. Assumes nothing.
use Rattle.std.specs.Prelude.{Bool, not, ◌||◌, List, [], ◌∷◌, ◌++◌, ℕ, suc, ◌+◌, leb, ltb, length, get_or}
use Rattle.std.proofs.Math.Option.{Option, some, none}
use Rattle.bits.specs.Logic.{pick}
use Rattle.text.specs.Bytes.{same}
use Rattle.text.specs.Line.{lines, ends_line, is_last}
use Rattle.limits.specs.Limits.{max_network, max_cells, first_lut}
use Rattle.sheet.specs.Lines.{end_line}
use Rattle.sheet.specs.Examine.{Design, output_names, within}
use Rattle.classes.specs.Columns.{free}
use Rattle.classes.specs.Width.{budget}
use Rattle.network.specs.Network.{Network, Node}
use Rattle.network.specs.Printer.{network_line, print_count}
use Rattle.network.specs.Reader.{read_lut, read_node}

-- which line is wanted: a node line has the number of its output; a lut line may stand before the first node
pub data Place : Type 0 where
  at_network at_luts at_count at_end_lem over : Place
  at_node : ℕ → Place

-- what a line comes to: misspelled, or the next place and what the sheet says so far
pub data Step : Type 0 where
  misspelled : Step
  next : Place → Network → Step

abbrev pub with_lut : Network → List Bool → Network
with_lut w t = record { luts = w.luts ++ (t ∷ []); nodes = w.nodes }

abbrev pub with_node : Network → Node → Network
with_node w x = record { luts = w.luts; nodes = w.nodes ++ (x ∷ []) }

-- the line after the node of output o
abbrev pub after_node : Design → ℕ → Place
after_node d o = pick (ltb (suc o) (length d.outputs)) (at_node (suc o)) at_count

abbrev pub node_step : Design → Network → ℕ → Option Node → Step
node_step d w o none = misspelled
node_step d w o (some x) = next (after_node d o) (with_node w x)

unfoldable pub ask_node : Design → Network → ℕ → List ℕ → Step
ask_node d w o l =
    node_step d w o (read_node (get_or (output_names d.outputs) o []) (free d.inputs d.bound) (length w.luts) l)

abbrev pub lut_step : Network → Option (List Bool) → Step → Step
lut_step w none other = other
lut_step w (some t) other = next at_luts (with_lut w t)

-- a lut line, where there may be one more, or the first node
unfoldable pub ask_lut : Design → Network → List ℕ → Step
ask_lut d w l =
    let node = ask_node d w 0 l in
    let lut = lut_step w (read_lut d.bound (length w.luts) l) node in
    pick (ltb (length w.luts) max_cells) lut node

unfoldable pub ask_line : Design → Place → Network → List ℕ → Step
ask_line d at_network w l = pick (same l network_line) (next at_luts w) misspelled
ask_line d at_luts w l = ask_lut d w l
ask_line d (at_node o) w l = ask_node d w o l
ask_line d at_count w l = pick (same l (print_count (length w.luts))) (next at_end_lem w) misspelled
ask_line d at_end_lem w l = pick (same l end_line) (next over w) misspelled
ask_line d over w l = misspelled

-- the answer: the first bad line, or what the sheet says
pub data Answer : Type 0 where
  bad_line : ℕ → Answer
  network : Network → Answer

abbrev pub at_end : Place → Network → ℕ → Answer
at_end at_network w n = bad_line n
at_end at_luts w n = bad_line n
at_end (at_node o) w n = bad_line n
at_end at_count w n = bad_line n
at_end at_end_lem w n = bad_line n
at_end over w n = network w

abbrev pub follow : Step → ℕ → (Place → Network → Answer) → Answer
follow misspelled n onward = bad_line n
follow (next p w) n onward = onward p w

-- the lines from number n on; `ended` says whether 0x0A ends the last one, which is bad if not
unfoldable pub ask_lines : Design → Bool → Place → Network → ℕ → List (List ℕ) → Answer
ask_lines d ended p w n [] = at_end p w n
ask_lines d ended p w n (l ∷ ls) =
    let step = ask_line d p w l in
    follow (pick (ended || not (is_last ls)) step misspelled) n (λ p' w'. ask_lines d ended p' w' (suc n) ls)

abbrev pub nothing : Network
nothing = record { luts = []; nodes = [] }

-- question 10: the size (line 0), then line by line
unfoldable pub read_network : Design → List ℕ → Answer
read_network d t =
    let answer = ask_lines d (ends_line t) at_network nothing 1 (lines t) in
    pick (within 1 max_network (length t)) answer (bad_line 0)

-- question 11: the first lut line above the limit, or the first node that reads more than its width, as a line
unfoldable pub wide_node : Design → ℕ → ℕ → List Node → Option ℕ
wide_node d o n [] = none
wide_node d o n (x ∷ xs) =
    let later = wide_node d (suc o) (suc n) xs in
    pick (leb (length x.reads) (budget d d.bound o)) later (some n)

unfoldable pub offending : Design → Network → Option ℕ
offending d w =
    let nodes = wide_node d 0 (length w.luts + first_lut) w.nodes in
    pick (leb (length w.luts) d.limit) nodes (some (d.limit + first_lut))
