-- What the code puts down for a design that it holds is the design's network sheet. Assumes nothing.
use Rattle.std.specs.Prelude.{◌≡◌, List, [], ◌++◌, map, ℕ, ◌≤◌, ◌<◌, length, get_or, take}
use Rattle.std.proofs.Common.{ap, ap₂, ◌∙◌}
use Rattle.bits.specs.Digit.{on}
use Rattle.text.specs.Bytes.{bytes}
use Rattle.names.specs.Name.{Name}
use Rattle.names.specs.Pack.{name_of}
use Rattle.sheet.specs.Examine.{Design, output_names}
use Rattle.sheet.specs.Known.{Holds, table_at}
use Rattle.sheet.specs.declared.Sheet.{Sheet}
use Rattle.classes.specs.Columns.{free}
use Rattle.bits.specs.Values.{values_upto}
use Rattle.classes.specs.Proper.{Proper}
use Rattle.classes.specs.Answer.{ShapeIs}
use Rattle.classes.specs.declared.Shape.{Shape}
use Rattle.network.specs.Network.{Node}
use Rattle.network.specs.Printer.{print_lut, print_node, print_network}
use Rattle.network.specs.Numbers.{numbers_of}
use Rattle.serving.specs.Build.{node_built, built}
use Rattle.network.specs.Shown.{item}
use Rattle.netlines.specs.Lines.{lines_upto, last_lines, node_by}
use Rattle.network.specs.HeldNameLaws.{held_name, bound-named}
use Rattle.netlines.specs.NodeLaws.{node_is}
use Rattle.netlines.specs.SheetLaws.{lut_line, node_line, lines_same, sheet-lines}

module _ (d : Design) (k : Sheet) (h : Holds d k) (p : Proper d) where
  output-named : (o : ℕ) → o < k.outputs → name_of (item k.outs o) ≡ get_or (output_names d.outputs) o []
  output-named o l = held_name k.outs k.outputs o l ∙ ap (λ (ns : List Name). get_or ns o []) h.outputs_named

  module _ (sh : Shape) (s : ShapeIs d sh) (v-long : sh.vertices ≤ length sh.vertex) (f-long : sh.frees ≤ length sh.free) where
    -- the vertices' and the free rows' own parts of the arrays
    abbrev vs : List ℕ
    vs = take sh.vertices sh.vertex

    abbrev fs : List ℕ
    fs = take sh.frees sh.free

    node_same : (codes : ℕ → ℕ) (o : ℕ) (is : List ℕ) → o < k.outputs → node_by (table_at k.tables o) vs fs codes is ≡ node_built d codes o is
    node_same codes o is l = node_is d sh s p.few_inputs v-long f-long (table_at k.tables o) o (h.tabled o l) codes is

    pub sheet-written : (u : ℕ) (rows codes : ℕ → ℕ) (bs free_names : List Name)
        → bs ≡ map (λ (q : ℕ). name_of (item k.names q)) (take k.bounds k.bound)
        → free_names ≡ free (map name_of (take k.inputs k.names)) bs
        → bytes "(network 1)\n"
        ++ (lines_upto (λ (i : ℕ). print_lut bs i (values_upto (λ (x : ℕ). on (codes x) i) sh.vertices)) u
        ++ (lines_upto (λ (o : ℕ). print_node (name_of (item k.outs o)) free_names (node_by (table_at k.tables o) vs fs codes (numbers_of u (rows o)))) k.outputs
        ++ last_lines u))
        ≡ print_network d (built d u rows codes)
    sheet-written u rows codes bs free_names eb ef =
        let bound_is : bs ≡ d.bound = eb ∙ bound-named d k h p in
        let free_is : free_names ≡ free d.inputs d.bound = ef ∙ ap₂ free h.inputs_named bound_is in
        let lut : (i : ℕ) → print_lut bs i (values_upto (λ (x : ℕ). on (codes x) i) sh.vertices) ≡ lut_line d u rows codes i
        = λ i. ap₂ (λ (ns : List Name) (n : ℕ). print_lut ns i (values_upto (λ (x : ℕ). on (codes x) i) n)) bound_is s.vertices in
        let luts = lines_same (λ (i : ℕ). print_lut bs i (values_upto (λ (x : ℕ). on (codes x) i) sh.vertices)) (lut_line d u rows codes) u (λ i l. lut i) in
        let put : ℕ → List ℕ
        = λ o. print_node (name_of (item k.outs o)) free_names (node_by (table_at k.tables o) vs fs codes (numbers_of u (rows o))) in
        let node : (o : ℕ) → o < k.outputs → put o ≡ node_line d u rows codes o
        = λ o l.
        ap₂ (λ (n : Name) (x : Node). print_node n free_names x) (output-named o l) (node_same codes o (numbers_of u (rows o)) l)
        ∙ ap (λ (ns : List Name). print_node (get_or (output_names d.outputs) o []) ns (node_built d codes o (numbers_of u (rows o)))) free_is in
        let nodes = lines_same put (node_line d u rows codes) k.outputs node in
        ap₂ (λ (a b : List ℕ). bytes "(network 1)\n" ++ (a ++ (b ++ last_lines u)))
        luts
        (nodes ∙ ap (lines_upto (node_line d u rows codes)) h.outputs_counted)
        ∙ sheet-lines d u rows codes
