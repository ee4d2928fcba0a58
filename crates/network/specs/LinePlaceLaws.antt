-- Which line of a network sheet a shared table or a node stands on: lines count from 1, lut i stands i lines below the first
-- lut, and the node of output o as far below the lut lines; the count line follows the last node. Assumes nothing.
use Rattle.std.specs.Prelude.{◌≡◌, refl, Bool, List, [], ◌∷◌, ◌++◌, ℕ, zero, suc, ◌+◌, ◌-◌, ◌<◌, length, get_or}
use Rattle.std.proofs.Common.{sym, ap, subst, ◌∙◌, arith, get_or-append-add}
use Rattle.std.proofs.Math.ListN.{get_or-append}
use Rattle.limits.specs.Limits.{first_lut}
use Rattle.text.specs.Line.{line_at}
use Rattle.names.specs.Name.{Name}
use Rattle.sheet.specs.Examine.{Design}
use Rattle.network.specs.Network.{Network, Node}
use Rattle.network.specs.Printer.{network_line, print_count}
use Rattle.network.specs.NetworkFor.{node_at}
use Rattle.network.specs.Parts.{free_of, names_of, last_lines}
use Rattle.network.specs.Spelling.{LutSpelled, NodeSpelled, LutsSpelled, no_lut, one_lut, NodesSpelled, no_node, one-node, LinesSpelled}
use Rattle.network.specs.PartLaws.{names_count}

luts-count : {bs : List Name} {i : ℕ} {ts : List (List Bool)} {ls : List (List ℕ)} → LutsSpelled bs i ts ls → length ls ≡ length ts
luts-count no_lut = refl
luts-count (one_lut p q) = ap suc (luts-count q)

lut_at : {bs : List Name} {i : ℕ} {ts : List (List Bool)} {ls : List (List ℕ)}
    → LutsSpelled bs i ts ls
    → (j k : ℕ)
    → i + j ≡ k
    → j < length ts
    → LutSpelled bs k (get_or ts j []) (get_or ls j [])
lut_at no_lut j k e h = absurd (omega arith)
lut_at {bs} (one_lut {i = i} {t = t} {l = l} p q) zero k e h = subst (λ (n : ℕ). LutSpelled bs n t l) (omega arith) p
lut_at (one_lut p q) (suc j) k e h = lut_at q j k (omega arith) (omega arith)

nodes-count : {fs ns : List Name} {xs : List Node} {ls : List (List ℕ)} → NodesSpelled fs ns xs ls → (length ls ≡ length xs) × (length ls ≡ length ns)
nodes-count no_node = (refl, refl)
nodes-count (one-node p q) = let (e, f) = nodes-count q in (ap suc e, ap suc f)

node_at_lem : {fs ns : List Name} {xs : List Node} {ls : List (List ℕ)}
    → NodesSpelled fs ns xs ls
    → (o : ℕ)
    → o < length xs
    → NodeSpelled (get_or ns o []) fs (node_at xs o) (get_or ls o [])
node_at_lem no_node o h = absurd (omega arith)
node_at_lem (one-node p q) zero h = p
node_at_lem (one-node p q) (suc o) h = node_at_lem q o (omega arith)

module _ (d : Design) (w : Network) (ls : List (List ℕ)) (s : LinesSpelled d w ls) where
  pub lut_line : (i : ℕ) → i < length w.luts → LutSpelled d.bound i (get_or w.luts i []) (line_at ls (i + first_lut))
  lut_line i h =
      let rest = s.nodes ++ last_lines (length w.luts) in
      let c = luts-count s.luts_spelled in
      let n : i + first_lut - 1 ≡ suc i = omega arith in
      let line : line_at ls (i + first_lut) ≡ get_or s.luts i []
      = ap (λ (ks : List (List ℕ)). line_at ks (i + first_lut)) s.are_lines
      ∙ ap (λ (a : ℕ). get_or (network_line ∷ (s.luts ++ rest)) a []) n
      ∙ get_or-append s.luts rest [] i (omega arith) in
      subst (LutSpelled d.bound i (get_or w.luts i [])) (sym line) (lut_at s.luts_spelled i i (omega arith) h)

  -- the lines below the lut lines
  below_luts : (o : ℕ) → line_at ls (length w.luts + first_lut + o) ≡ get_or (s.nodes ++ last_lines (length w.luts)) o []
  below_luts o =
      let u = length w.luts in
      let rest = s.nodes ++ last_lines u in
      let c = luts-count s.luts_spelled in
      let n : u + first_lut + o - 1 ≡ suc (length s.luts + o) = omega arith in
      ap (λ (ks : List (List ℕ)). line_at ks (u + first_lut + o)) s.are_lines
      ∙ ap (λ (a : ℕ). get_or (network_line ∷ (s.luts ++ rest)) a []) n
      ∙ get_or-append-add s.luts rest o []

  pub node_line : (o : ℕ)
      → o < length w.nodes
      → NodeSpelled (get_or (names_of d) o []) (free_of d) (node_at w.nodes o) (line_at ls (length w.luts + first_lut + o))
  node_line o h =
      let (c, _) = nodes-count s.nodes_spelled in
      subst (NodeSpelled (get_or (names_of d) o []) (free_of d) (node_at w.nodes o))
      (sym (below_luts o ∙ get_or-append s.nodes (last_lines (length w.luts)) [] o (omega arith)))
      (node_at_lem s.nodes_spelled o h)

  pub count_line : line_at ls (length w.luts + first_lut + length d.outputs) ≡ print_count (length w.luts)
  count_line =
      let m = length d.outputs in
      let (_, c) = nodes-count s.nodes_spelled in
      let n : m ≡ length s.nodes + 0 = omega (arith, names_count d) in
      below_luts m
      ∙ ap (λ (a : ℕ). get_or (s.nodes ++ last_lines (length w.luts)) a []) n
      ∙ get_or-append-add s.nodes (last_lines (length w.luts)) 0 []
