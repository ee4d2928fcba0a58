-- The parts of each line, joined. Assumes nothing.
use Rattle.std.specs.Prelude.{◌≡◌, refl, Bool, true, List, [], ◌∷◌, ◌++◌, map, ℕ, ◌+◌, ◌*◌, ◌^◌, ◌≤◌, ◌<◌, length, Option}
use Rattle.std.proofs.Common.{sym, ap, ap₂, ◌∙◌, append_assoc}
use Rattle.limits.specs.Limits.{max_codes}
use Rattle.text.specs.Bytes.{bytes, newline, close_bracket}
use Rattle.text.specs.FigureLaws.{print_digit}
use Rattle.names.specs.Name.{Name}
use Rattle.sheet.specs.Lines.{end_line}
use Rattle.bits.specs.Values.{values_upto}
use Rattle.limits.specs.declared.Vertex.{Vertex}
use Rattle.network.specs.Network.{Node}
use Rattle.network.specs.Printer.{led_all, lut_name, print_digits, lut_head, print_lut, node_head, print_node, print_count}
use Rattle.serving.specs.Build.{code_in}
use Rattle.netnames.specs.Listed.{zero_byte, one_digit, Firsts}
use Rattle.netlines.specs.Lines.{head_line, last_lines, entry_by, cell_by, node_by}
use Rattle.netlines.specs.DigitLaws.{cells_are, entries_within}

pub lut_head_text : (bs : List Name) (i : ℕ) (n : Name) → n ≡ lut_name i
    → bytes "(lut " ++ (n ++ (bytes " (" ++ (led_all true bs ++ bytes ") "))) ≡ lut_head bs i
unfolding lut_head
lut_head_text bs i n e = ap (λ (x : Name). bytes "(lut " ++ (x ++ (bytes " (" ++ (led_all true bs ++ bytes ") ")))) e

pub node_head_text : (n : Name) → bytes "(node " ++ (n ++ bytes " (") ≡ node_head n
unfolding node_head
node_head_text n = refl

-- a bracket and a newline end a line
ended : (h d : List ℕ) → h ++ (d ++ (close_bracket ∷ newline ∷ [])) ≡ (h ++ (d ++ (close_bracket ∷ []))) ++ (newline ∷ [])
ended h d = simp append_assoc

pub lut_text : (bs : List Name) (i : ℕ) (ds : List Bool)
    → lut_head bs i ++ (print_digits ds ++ bytes ")\n") ≡ print_lut bs i ds ++ (newline ∷ [])
unfolding print_lut
lut_text bs i ds = ended (lut_head bs i) (print_digits ds)

joined : (h l b d : List ℕ) → h ++ ((l ++ b) ++ (d ++ (close_bracket ∷ newline ∷ []))) ≡ (h ++ (l ++ (b ++ (d ++ (close_bracket ∷ []))))) ++ (newline ∷ [])
joined h l b d = simp append_assoc

pub node_text : (n : Name) (fs ns : List Name) (x : Node) (ds : List Bool) → ns ≡ map lut_name x.reads ++ fs → ds ≡ x.digits
    → node_head n ++ ((led_all true ns ++ bytes ") ") ++ (print_digits ds ++ bytes ")\n")) ≡ print_node n fs x ++ (newline ∷ [])
unfolding print_node
node_text n fs ns x ds e f =
    ap₂ (λ (l : List Name) (v : List Bool). node_head n ++ ((led_all true l ++ bytes ") ") ++ (print_digits v ++ bytes ")\n"))) e f
    ∙ joined (node_head n) (led_all true (map lut_name x.reads ++ fs)) (bytes ") ") (print_digits x.digits)

pub head_text_lem : (e : ℕ) → bytes "(network " ++ (((zero_byte + e) ∷ []) ++ bytes ")\n") ≡ head_line e
unfolding head_line
head_text_lem e = refl

pub last_text : (u : ℕ) → u < one_digit → bytes "(count " ++ (((zero_byte + u) ∷ []) ++ bytes ")\n(end)\n") ≡ last_lines u
unfolding last_lines print_count
last_text u l =
    ap (λ (t : List ℕ). (bytes "(count " ++ (t ++ (close_bracket ∷ []))) ++ (newline ∷ (end_line ++ (newline ∷ [])))) (sym (print_digit u l))

-- a node line whose digits were looked up by an array of first vertices
pub node_line : (n : Name) (fs ns rs : List Name) (t vertex free : List ℕ) (l : List (Option Vertex)) (codes : ℕ → ℕ) (is : List ℕ) (p c : ℕ)
    → ns ≡ rs ++ fs → rs ≡ map lut_name is → Firsts (λ x. code_in is (codes x)) (length vertex) 0 l
    → p ≡ 2 ^ c → c ≡ length is → p ≤ max_codes
    → node_head n ++ ((led_all true ns ++ bytes ") ") ++ (print_digits (values_upto (cell_by t vertex free l) (p * length free)) ++ bytes ")\n"))
    ≡ print_node n fs (node_by t vertex free codes is) ++ (newline ∷ [])
unfolding node_by
node_line n fs ns rs t vertex free l codes is p c en er g ep ec small =
    let count : p * length free ≡ 2 ^ length is * length free
    = ap (λ (k : ℕ). k * length free) (ep ∙ ap (λ (k : ℕ). 2 ^ k) ec) in
    node_text n fs ns (node_by t vertex free codes is) (values_upto (cell_by t vertex free l) (p * length free))
    (en ∙ ap (λ (x : List Name). x ++ fs) er)
    (cells_are t vertex free l codes is (p * length free) g (entries_within p (length free) small)
    ∙ ap (values_upto (entry_by t vertex free codes is)) count)
