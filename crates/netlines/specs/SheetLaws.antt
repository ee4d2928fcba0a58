-- A network sheet by its lines: what `print_network` says of the network of a core is the lines of its tables and its outputs
-- one after the other. Assumes nothing.
use Rattle.std.specs.Prelude.{◌≡◌}
use Rattle.std.proofs.Math.Path.{refl, sym, ap, ap₂}
use Rattle.std.proofs.Common.{◌∙◌, arith, add-zero, zero-add, add-suc, suc-add}
use mathlib.Core.List.{List, [], ◌∷◌, ◌++◌}
use Prim.Native.Nat.{ℕ, zero, suc, ◌+◌, ◌<◌}
use Rattle.std.proofs.Math.ListN.{length, get_or}
use Rattle.std.proofs.lemmas.List.{length-map}
use Rattle.bits.specs.Digit.{on}
use Rattle.text.specs.Bytes.{bytes, newline}
use Rattle.text.specs.Line.{ended_lines}
use Rattle.text.specs.EndedLaws.{ended_more, ended-append}
use Rattle.names.specs.Name.{Name}
use Rattle.sheet.specs.Lines.{Output, end_line}
use Rattle.sheet.specs.Examine.{Design, output_names}
use Rattle.classes.specs.Columns.{free, vertex_count}
use Rattle.bits.specs.Values.{values_upto}
use Rattle.network.specs.Network.{Node}
use Rattle.network.specs.Printer.{print_lut, print_node, print_count, network_line, lut_lines, node_lines, network_lines, print_network}
use Rattle.network.specs.Numbers.{numbers_of}
use Rattle.serving.specs.Build.{node_built, luts_built, nodes_built, built}
use Rattle.emit.specs.UptoLaws.{texts_from, upto_all, upto_same}
use Rattle.netlines.specs.Lines.{ended, lines_upto, last_lines}

pub lines_same : (f g : ℕ → List ℕ) (n : ℕ) → ((i : ℕ) → i < n → f i ≡ g i) → lines_upto f n ≡ lines_upto g n
lines_same f g n h = upto_same (ended f) (ended g) n (λ i l. ap (λ (t : List ℕ). t ++ (newline ∷ [])) (h i l))

-- ---- the lines of a list
module _ (d : Design) (u : ℕ) (rows codes : ℕ → ℕ) where
  -- the line of table i, and that of output o
  abbrev pub lut_line : ℕ → List ℕ
  lut_line i = print_lut d.bound i (values_upto (λ (x : ℕ). on (codes x) i) (vertex_count d.bound))

  abbrev pub node_line : ℕ → List ℕ
  node_line o =
      print_node (get_or (output_names d.outputs) o []) (free d.inputs d.bound) (node_built d codes o (numbers_of u (rows o)))

  ended-luts : (k i : ℕ) → ended_lines (lut_lines d.bound i (luts_built d codes k i)) ≡ texts_from (ended lut_line) k i
  unfolding ended_lines lut_lines luts_built texts_from
  ended-luts zero i = refl
  ended-luts (suc k) i =
      ended_more (lut_line i) (lut_lines d.bound (suc i) (luts_built d codes k (suc i)))
      ∙ ap (λ (t : List ℕ). ended lut_line i ++ t) (ended-luts k (suc i))

  ended-nodes : (ns : List Name) (i : ℕ) → ((j : ℕ) → j < length ns → get_or ns j [] ≡ get_or (output_names d.outputs) (i + j) [])
      → ended_lines (node_lines (free d.inputs d.bound) ns (nodes_built d u rows codes (length ns) i)) ≡ texts_from (ended node_line) (length ns) i
  unfolding ended_lines node_lines nodes_built texts_from
  ended-nodes [] i h = refl
  ended-nodes (n ∷ ns) i h =
      let name : n ≡ get_or (output_names d.outputs) i []
      = h 0 (omega arith) ∙ ap (λ (k : ℕ). get_or (output_names d.outputs) k []) (add-zero i) in
      let later : (j : ℕ) → j < length ns → get_or ns j [] ≡ get_or (output_names d.outputs) (suc i + j) []
      = λ j l. h (suc j) (omega arith) ∙ ap (λ (k : ℕ). get_or (output_names d.outputs) k []) (add-suc i j ∙ sym (suc-add i j)) in
      let x : Node = node_built d codes i (numbers_of u (rows i)) in
      let fs : List Name = free d.inputs d.bound in
      ended_more (print_node n fs x) (node_lines fs ns (nodes_built d u rows codes (length ns) (suc i)))
      ∙ ap₂ (λ (m : Name) (t : List ℕ). (print_node m fs x ++ (newline ∷ [])) ++ t) name (ended-nodes ns (suc i) later)

  luts-counted : (k i : ℕ) → length (luts_built d codes k i) ≡ k
  unfolding luts_built
  luts-counted zero i = refl
  luts-counted (suc k) i = ap suc (luts-counted k (suc i))

  outputs_counted : length (output_names d.outputs) ≡ length d.outputs
  outputs_counted = length-map d.outputs (λ (o : Output). o.name)

  all-nodes : ended_lines (node_lines (free d.inputs d.bound) (output_names d.outputs) (nodes_built d u rows codes (length d.outputs) 0))
      ≡ lines_upto node_line (length d.outputs)
  all-nodes =
      ap (λ (k : ℕ). ended_lines (node_lines (free d.inputs d.bound) (output_names d.outputs) (nodes_built d u rows codes k 0)))
      (sym outputs_counted)
      ∙ ended-nodes (output_names d.outputs) 0 (λ j l. ap (λ (k : ℕ). get_or (output_names d.outputs) k []) (sym (zero-add j)))
      ∙ ap (λ (k : ℕ). texts_from (ended node_line) k 0) outputs_counted
      ∙ sym (upto_all (ended node_line) (length d.outputs))

  last-lines : ended_lines (print_count (length (luts_built d codes u 0)) ∷ end_line ∷ []) ≡ last_lines u
  unfolding ended_lines last_lines
  last-lines = ap (λ (k : ℕ). print_count k ++ (newline ∷ (end_line ++ (newline ∷ [])))) (luts-counted u 0)

  pub sheet-lines : bytes "(network 1)\n" ++ (lines_upto lut_line u ++ (lines_upto node_line (length d.outputs) ++ last_lines u))
      ≡ print_network d (built d u rows codes)
  unfolding print_network network_lines built ended_lines
  sheet-lines =
      let ls : List (List ℕ) = lut_lines d.bound 0 (luts_built d codes u 0) in
      let ns : List (List ℕ)
      = node_lines (free d.inputs d.bound) (output_names d.outputs) (nodes_built d u rows codes (length d.outputs) 0) in
      let end : List (List ℕ) = print_count (length (luts_built d codes u 0)) ∷ end_line ∷ [] in
      sym
      (ap (λ (t : List ℕ). network_line ++ (newline ∷ t))
      (ended-append ls (ns ++ end)
      ∙ ap₂ (λ (a b : List ℕ). a ++ b) (ended-luts u 0 ∙ sym (upto_all (ended lut_line) u))
      (ended-append ns end ∙ ap₂ (λ (a b : List ℕ). a ++ b) all-nodes last-lines)))
