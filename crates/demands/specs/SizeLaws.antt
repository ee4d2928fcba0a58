-- A network within its widths fits a network sheet: at most six lut lines of 92 bytes, four node lines of 1,200, and the
-- three other lines. Assumes nothing.
use Rattle.std.specs.Prelude.{◌≡◌, Bool, true, false, ℕ, suc, ◌+◌, ◌*◌, ◌≤◌, ◌<◌, get_or}
use mathlib.Core.List.{List, [], ◌∷◌, ◌++◌, map}
use native.Mathlib.Omega.{arith}
use Rattle.std.proofs.Math.ListN.{length, length-append}
use Rattle.std.proofs.lemmas.List.{length-map}
use Rattle.bits.specs.LogicLaws.{and_left, and_right}
use Rattle.limits.specs.Limits.{max_network}
use Rattle.text.specs.Bytes.{bytes, newline, close_bracket}
use Rattle.text.specs.Line.{ended_lines}
use Rattle.text.specs.EndedLaws.{ended_append_length}
use Rattle.text.specs.Number.{print_number}
use Rattle.text.specs.FigureLaws.{print_short}
use Rattle.names.specs.Name.{Name, is_name}
use Rattle.names.specs.Names.{all_names}
use Rattle.names.specs.IsNameLaws.{name_short}
use Rattle.names.specs.ShortLaws.{Short, short_none, short_more, short_append, names_short, map_short}
use Rattle.rows.specs.Digits.{digit}
use Rattle.sheet.specs.Lines.{end_line}
use Rattle.sheet.specs.Examine.{Design, output_names}
use Rattle.sheet.specs.WellFormed.{WellFormed}
use Rattle.classes.specs.Columns.{free}
use Rattle.network.specs.Network.{Network, Node}
use Rattle.network.specs.Printer.{led, led_all, lut_name, print_digits, network_line, lut_head, print_lut, node_head, print_node, print_count, lut_lines, node_lines, network_lines, print_network}
use Rattle.network.specs.NetworkFor.{NetworkFor, node_at}
use Rattle.network.specs.PartLaws.{free-named, names_count}
use Rattle.network.specs.NamedLaws.{design-named}
use Rattle.network.specs.Answers.{WithinLimits}
use Rattle.classes.specs.ProperLaws.{proper_of}
use Rattle.network.specs.TableBoundLaws.{node_narrow, node_digits_few, lut_digits_few}

-- ---- items of at most eight bytes
led-length : (first : Bool) (item : List ℕ) → length (led first item) ≤ 1 + length item
led-length true item = omega arith
led-length false item = omega arith

led_fits : (first : Bool) {items : List (List ℕ)} → Short items → length (led_all first items) ≤ 9 * length items
unfolding led_all
led_fits first short_none = omega arith
led_fits first (short_more {n = item} {ns = items} h s) =
    let a = length-append (led first item) (led_all false items) in
    let b = led-length first item in
    let c = led_fits false s in
    omega arith

lut_name_length : (i : ℕ) → length (lut_name i) ≤ 4
unfolding lut_name
lut_name_length i =
    let a = print_short i in
    let b = length-append (bytes "_") (print_number i) in
    omega arith

-- ---- one line
digits_length : (ds : List Bool) → length (print_digits ds) ≡ length ds
unfolding print_digits
digits_length ds = length-map ds digit

lut_line : (bs : List Name) (i : ℕ) (ds : List Bool) → all_names bs ≡ true → length bs ≤ 5 → length ds ≤ 32 → length (print_lut bs i ds) ≤ 91
unfolding print_lut lut_head
lut_line bs i ds e l h =
    let a = lut_name_length i in
    let b = led_fits true (names_short bs e) in
    let c = digits_length ds in
    let c1 = length-append (led_all true bs) (bytes ") ") in
    let c2 = length-append (bytes " (") (led_all true bs ++ bytes ") ") in
    let c3 = length-append (lut_name i) (bytes " (" ++ (led_all true bs ++ bytes ") ")) in
    let c4 = length-append (bytes "(lut ") (lut_name i ++ (bytes " (" ++ (led_all true bs ++ bytes ") "))) in
    let c5 = length-append (print_digits ds) (close_bracket ∷ []) in
    let c6 = length-append (bytes "(lut " ++ (lut_name i ++ (bytes " (" ++ (led_all true bs ++ bytes ") ")))) (print_digits ds ++ (close_bracket ∷ [])) in
    omega arith

node_line : (n : Name) (fs : List Name) (x : Node)
    → is_name n ≡ true
    → all_names fs ≡ true
    → length x.reads + length fs ≤ 10
    → length x.digits ≤ 1024
    → length (print_node n fs x) ≤ 1199
unfolding print_node node_head
node_line n fs x e f l h =
    let items = map lut_name x.reads ++ fs in
    let a = name_short n e in
    let b = led_fits true (short_append (map_short lut_name (λ i. omega (arith, lut_name_length i)) x.reads) (names_short fs f)) in
    let b1 : length items ≡ length (map lut_name x.reads) + length fs = length-append (map lut_name x.reads) fs in
    let b2 : length (map lut_name x.reads) ≡ length x.reads = length-map x.reads lut_name in
    let c = digits_length x.digits in
    let c1 = length-append (print_digits x.digits) (close_bracket ∷ []) in
    let c2 = length-append (bytes ") ") (print_digits x.digits ++ (close_bracket ∷ [])) in
    let c3 = length-append (led_all true items) (bytes ") " ++ (print_digits x.digits ++ (close_bracket ∷ []))) in
    let c4 = length-append n (bytes " (") in
    let c5 = length-append (bytes "(node ") (n ++ bytes " (") in
    let c6 = length-append (bytes "(node " ++ (n ++ bytes " (")) (led_all true items ++ (bytes ") " ++ (print_digits x.digits ++ (close_bracket ∷ [])))) in
    omega arith

count_line : (u : ℕ) → length (print_count u) ≤ 11
unfolding print_count
count_line u =
    let a = print_short u in
    let b = length-append (print_number u) (close_bracket ∷ []) in
    let c = length-append (bytes "(count ") (print_number u ++ (close_bracket ∷ [])) in
    omega arith

-- ---- lines together
lut_lines_lem : (bs : List Name) (i : ℕ) (ts : List (List Bool))
    → all_names bs ≡ true
    → length bs ≤ 5
    → ((j : ℕ) → j < length ts → length (get_or ts j []) ≤ 32)
    → length (ended_lines (lut_lines bs i ts)) ≤ 92 * length ts
unfolding ended_lines lut_lines
lut_lines_lem bs i [] e l h = omega arith
lut_lines_lem bs i (t ∷ ts) e l h =
    let a = lut_line bs i t e l (h 0 (omega arith)) in
    let b = lut_lines_lem bs (suc i) ts e l (λ j k. h (suc j) (omega arith)) in
    let c = length-append (print_lut bs i t) (newline ∷ ended_lines (lut_lines bs (suc i) ts)) in
    omega arith

node_lines_lem : (fs ns : List Name) (xs : List Node)
    → all_names fs ≡ true
    → all_names ns ≡ true
    → ((o : ℕ) → o < length xs → length (node_at xs o).reads + length fs ≤ 10)
    → ((o : ℕ) → o < length xs → length (node_at xs o).digits ≤ 1024)
    → length (ended_lines (node_lines fs ns xs)) ≤ 1200 * length ns
unfolding ended_lines node_lines all_names
node_lines_lem fs [] xs f e l h = omega arith
node_lines_lem fs (n ∷ ns) [] f e l h = omega arith
node_lines_lem fs (n ∷ ns) (x ∷ xs) f e l h =
    let a = node_line n fs x (and_left (is_name n) (all_names ns) e) f (l 0 (omega arith)) (h 0 (omega arith)) in
    let b = node_lines_lem fs ns xs f (and_right (is_name n) (all_names ns) e) (λ o k. l (suc o) (omega arith)) (λ o k. h (suc o) (omega arith)) in
    let c = length-append (print_node n fs x) (newline ∷ ended_lines (node_lines fs ns xs)) in
    omega arith

last-lines : (u : ℕ) → length (ended_lines (print_count u ∷ end_line ∷ [])) ≤ 18
unfolding ended_lines
last-lines u =
    let a = count_line u in
    let b = length-append (print_count u) (newline ∷ (end_line ++ (newline ∷ []))) in
    omega arith

-- ---- the whole sheet
module _ (d : Design) (w : Network) (v : WellFormed d) (f : NetworkFor d w) (l : WithinLimits d w) where
  pub print_fits : length (print_network d w) ≤ max_network
  unfolding print_network network_lines ended_lines
  print_fits =
      let m = design-named d v in
      let fs = free d.inputs d.bound in
      let ls = lut_lines d.bound 0 w.luts in
      let ns = node_lines fs (output_names d.outputs) w.nodes in
      let rest = print_count (length w.luts) ∷ end_line ∷ [] in
      let a = lut_lines_lem d.bound 0 w.luts m.bound-named v.bound_right.few (lut_digits_few d w v f) in
      let frees-named = free-named d.inputs d.bound m.inputs_named in
      let b =
      node_lines_lem fs (output_names d.outputs) w.nodes frees-named m.outputs_named (node_narrow d w (proper_of d v) l) (node_digits_few d w v f l) in
      let c = last-lines (length w.luts) in
      let e = ended_append_length ls (ns ++ rest) in
      let g = ended_append_length ns rest in
      let h = names_count d in
      let k : length d.outputs ≤ 4 = v.outputs_right.few in
      let q : length w.luts ≤ 6 = f.few_luts in
      let r = length-append network_line (newline ∷ ended_lines (ls ++ (ns ++ rest))) in
      omega arith
