-- The network sheet (clauses 8.1 to 8.8): how each kind of line is written. Assumes nothing.
use Rattle.std.specs.Prelude.{Bool, true, false, List, [], ◌∷◌, ◌++◌, map, ℕ, suc, length}
use Rattle.text.specs.Bytes.{bytes, space, close_bracket}
use Rattle.text.specs.Line.{ended_lines}
use Rattle.text.specs.Number.{print_number}
use Rattle.names.specs.Name.{Name}
use Rattle.rows.specs.Digits.{digit}
use Rattle.sheet.specs.Lines.{end_line}
use Rattle.sheet.specs.Examine.{Design, output_names}
use Rattle.classes.specs.Columns.{free}
use Rattle.network.specs.Network.{Network, Node}

-- the items of a list: a space before each but the first
abbrev pub led : Bool → List ℕ → List ℕ
led true item = item
led false item = space ∷ item

unfoldable pub led_all : Bool → List (List ℕ) → List ℕ
led_all first [] = []
led_all first (item ∷ items) = led first item ++ led_all false items

-- the name of shared table i: `_0`, `_1` and so on
unfoldable pub lut_name : ℕ → List ℕ
lut_name i = bytes "_" ++ print_number i

unfoldable pub print_digits : List Bool → List ℕ
print_digits ds = map digit ds

abbrev pub network_line : List ℕ
network_line = bytes "(network 1)"

-- a lut line up to its digits
unfoldable pub lut_head : List Name → ℕ → List ℕ
lut_head bs i = bytes "(lut " ++ (lut_name i ++ (bytes " (" ++ (led_all true bs ++ bytes ") ")))

unfoldable pub print_lut : List Name → ℕ → List Bool → List ℕ
print_lut bs i ds = lut_head bs i ++ (print_digits ds ++ (close_bracket ∷ []))

-- a node line up to its list of inputs
unfoldable pub node_head : Name → List ℕ
node_head n = bytes "(node " ++ (n ++ bytes " (")

unfoldable pub print_node : Name → List Name → Node → List ℕ
print_node n fs x =
    node_head n ++ (led_all true (map lut_name x.reads ++ fs) ++ (bytes ") " ++ (print_digits x.digits ++ (close_bracket ∷ []))))

unfoldable pub print_count : ℕ → List ℕ
print_count u = bytes "(count " ++ (print_number u ++ (close_bracket ∷ []))

-- the lut lines from number i on, and the node lines
unfoldable pub lut_lines : List Name → ℕ → List (List Bool) → List (List ℕ)
lut_lines bs i [] = []
lut_lines bs i (t ∷ ts) = print_lut bs i t ∷ lut_lines bs (suc i) ts

unfoldable pub node_lines : List Name → List Name → List Node → List (List ℕ)
node_lines fs [] xs = []
node_lines fs (n ∷ ns) [] = []
node_lines fs (n ∷ ns) (x ∷ xs) = print_node n fs x ∷ node_lines fs ns xs

-- all lines of a network sheet
unfoldable pub network_lines : Design → Network → List (List ℕ)
network_lines d w =
    network_line
    ∷ (lut_lines d.bound 0 w.luts
    ++ (node_lines (free d.inputs d.bound) (output_names d.outputs) w.nodes
    ++ (print_count (length w.luts) ∷ end_line ∷ [])))

unfoldable pub print_network : Design → Network → List ℕ
print_network d w = ended_lines (network_lines d w)
