-- The text of a network within its widths is no longer than the limit that is named for it. Assumes nothing.
use Rattle.std.specs.Prelude.{◌≡◌, refl, Bool, true, false, List, [], ◌∷◌, ◌++◌, map, ℕ, suc, ◌+◌, ◌*◌, ◌^◌, ◌≤◌, ◌<◌, length, get_or}
use Rattle.std.proofs.Common.{ap, ◌∙◌, arith, mul-suc, mul-le-mul, length-append}
use Rattle.std.proofs.lemmas.List.{length-map}
use Rattle.bits.specs.LogicLaws.{and_left, and_right}
use Rattle.limits.specs.Limits.{max_name, max_inputs, max_bound, max_blif}
use Rattle.rows.specs.Digits.{digit}
use Rattle.rows.specs.Row.{values_of}
use Rattle.rows.specs.RowLaws.{length_values}
use Rattle.text.specs.Bytes.{bytes}
use Rattle.text.specs.Line.{ended_lines}
use Rattle.text.specs.FigureLaws.{print_short}
use Rattle.text.specs.EndedLaws.{ended_more_length, ended_append_length}
use Rattle.names.specs.Name.{Name, is_name}
use Rattle.names.specs.Names.{all_names, print_names}
use Rattle.names.specs.IsNameLaws.{name_short}
use Rattle.names.specs.ShortLaws.{Short, short_none, short_more, short_append, names_short, map_short}
use Rattle.sheet.specs.Examine.{Design}
use Rattle.sheet.specs.WellFormed.{WellFormed}
use Rattle.network.specs.Network.{Network, Node}
use Rattle.network.specs.Printer.{print_digits}
use Rattle.network.specs.Parts.{free_of, names_of}
use Rattle.network.specs.PartLaws.{free-named, names_count}
use Rattle.network.specs.NamedLaws.{design-named}
use Rattle.network.specs.NetworkFor.{NetworkFor, node_at}
use Rattle.classes.specs.ProperLaws.{proper_of}
use Rattle.network.specs.TableBoundLaws.{node_narrow, node_digits_few, lut_digits_few}
use Rattle.network.specs.Answers.{WithinLimits}
use Rattle.emit.specs.Written.{item_room}
use Rattle.blif.specs.Printer.{cell_name, row_line, row_lines, block, lut_blocks, node_blocks, blif_lines, print_blif}
use Rattle.blif.specs.Longest.{longest_row, longest_block, longest_text}

-- the limit is the length of the longest text, and no more
longest_is_limit : longest_text ≡ max_blif
longest_is_limit = refl

-- ---- names
cell_short : (i : ℕ) → length (cell_name i) ≤ max_name
unfolding cell_name
cell_short i = omega (arith, print_short i)

names_length : {ns : List Name} → Short ns → length (print_names ns) ≤ item_room * length ns
unfolding print_names
names_length short_none = omega arith
names_length (short_more {n = n} {ns = ns} h s) =
    let a = length-append n (print_names ns) in
    let b = names_length s in
    omega arith

-- ---- lines
row-length : (vs : List Bool) → length (row_line vs) + 1 ≤ longest_row (length vs)
unfolding print_digits
row-length [] = omega arith
row-length (v ∷ vs) =
    let w = print_digits (v ∷ vs) in
    let a : length (w ++ bytes " 1") ≡ length w + 2 = length-append w (bytes " 1") in
    let b : length w ≡ length (v ∷ vs) = length-map (v ∷ vs) digit in
    omega arith

rows_length : (n r : ℕ) (ds : List Bool) → length (ended_lines (row_lines n r ds)) ≤ longest_row n * length ds
unfolding row_lines ended_lines
rows_length n r [] = omega arith
rows_length n r (true ∷ ds) =
    let l = row_line (values_of n r) in
    let more = ended_more_length l (row_lines n (suc r) ds) in
    let one : length l + 1 ≤ longest_row n = omega (arith, row-length (values_of n r), length_values n r) in
    let others = rows_length n (suc r) ds in
    let product = mul-suc (longest_row n) (length ds) in
    omega arith
rows_length n r (false ∷ ds) =
    let others = rows_length n (suc r) ds in
    let product = mul-suc (longest_row n) (length ds) in
    omega arith

-- ---- blocks
block-length : (m : ℕ) (is : List Name) (n : Name) (ds : List Bool)
    → Short is
    → length n ≤ max_name
    → length is ≤ m
    → length ds ≤ 2 ^ m
    → length (ended_lines (block is n ds)) ≤ longest_block m
unfolding block
block-length m is n ds s k h g =
    let ns = is ++ (n ∷ []) in
    let names : length (print_names ns) ≤ item_room * length ns = names_length (short_append s (short_more k short_none)) in
    let many : length ns ≡ length is + 1 = length-append is (n ∷ []) in
    let more = ended_more_length (bytes ".names" ++ print_names ns) (row_lines (length is) 0 ds) in
    let rows = rows_length (length is) 0 ds in
    let most : longest_row (length is) * length ds ≤ longest_row m * 2 ^ m = mul-le-mul (omega arith) g in
    omega arith

luts-length : (bs : List Name) (i : ℕ) (ts : List (List Bool))
    → all_names bs ≡ true
    → length bs ≤ max_bound
    → ((j : ℕ) → j < length ts → length (get_or ts j []) ≤ 2 ^ max_bound)
    → length (ended_lines (lut_blocks bs i ts)) ≤ longest_block max_bound * length ts
unfolding lut_blocks ended_lines
luts-length bs i [] e l h = omega arith
luts-length bs i (t ∷ ts) e l h =
    let one = block-length max_bound bs (cell_name i) t (names_short bs e) (cell_short i) l (h 0 (omega arith)) in
    let others = luts-length bs (suc i) ts e l (λ j k. h (suc j) (omega arith)) in
    let both = ended_append_length (block bs (cell_name i) t) (lut_blocks bs (suc i) ts) in
    omega arith

nodes-length : (fs ns : List Name) (xs : List Node)
    → all_names fs ≡ true
    → all_names ns ≡ true
    → ((o : ℕ) → o < length xs → length (node_at xs o).reads + length fs ≤ max_inputs)
    → ((o : ℕ) → o < length xs → length (node_at xs o).digits ≤ 2 ^ max_inputs)
    → length (ended_lines (node_blocks fs ns xs)) ≤ longest_block max_inputs * length ns
unfolding node_blocks ended_lines all_names
nodes-length fs [] xs f e l h = omega arith
nodes-length fs (n ∷ ns) [] f e l h = omega arith
nodes-length fs (n ∷ ns) (x ∷ xs) f e l h =
    let cells = map cell_name x.reads in
    let is = cells ++ fs in
    let many : length is ≡ length x.reads + length fs =
    length-append cells fs ∙ ap (λ (k : ℕ). k + length fs) (length-map x.reads cell_name) in
    let few = l 0 (omega arith) in
    let one =
    block-length max_inputs is n x.digits (short_append (map_short cell_name cell_short x.reads) (names_short fs f))
    (name_short n (and_left (is_name n) (all_names ns) e)) (omega arith) (h 0 (omega arith)) in
    let others =
    nodes-length fs ns xs f (and_right (is_name n) (all_names ns) e) (λ o k. l (suc o) (omega arith)) (λ o k. h (suc o) (omega arith)) in
    let both = ended_append_length (block is n x.digits) (node_blocks fs ns xs) in
    omega arith

-- ---- the whole text
pub text_fits : (d : Design) (w : Network) → WellFormed d → NetworkFor d w → WithinLimits d w → length (print_blif d w) ≤ max_blif
unfolding print_blif blif_lines ended_lines
text_fits d w v f l =
    let named = design-named d v in
    let ins = bytes ".inputs" ++ print_names d.inputs in
    let outs = bytes ".outputs" ++ print_names (names_of d) in
    let ls = lut_blocks d.bound 0 w.luts in
    let ns = node_blocks (free_of d) (names_of d) w.nodes in
    let last = bytes ".end" ∷ [] in
    let ins-few = names_length (names_short d.inputs named.inputs_named) in
    let outs-few = names_length (names_short (names_of d) named.outputs_named) in
    let ls-few = luts-length d.bound 0 w.luts named.bound-named v.bound_right.few (lut_digits_few d w v f) in
    let frees-named = free-named d.inputs d.bound named.inputs_named in
    let ns-few =
    nodes-length (free_of d) (names_of d) w.nodes frees-named named.outputs_named (node_narrow d w (proper_of d v) l) (node_digits_few d w v f l) in
    let a = ended_more_length ins (outs ∷ (ls ++ (ns ++ last))) in
    let b = ended_more_length outs (ls ++ (ns ++ last)) in
    let c = ended_append_length ls (ns ++ last) in
    let e = ended_append_length ns last in
    omega (arith, names_count d, v.inputs_right.few, v.outputs_right.few, f.few_luts)
