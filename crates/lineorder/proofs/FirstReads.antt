-- The first network in byte order, by the reading sets of its nodes. Assumes nothing.
use Rattle.std.specs.Prelude.{◌≡◌, Bool, false, List, [], ℕ, ◌+◌, ◌^◌, ◌<◌, length, get_or}
use Rattle.std.proofs.Common.{sym, ap, ◌∙◌, subst, arith}
use Rattle.order.specs.Total.{NotLess}
use Rattle.sheet.specs.Examine.{Design}
use Rattle.network.specs.Network.{Network}
use Rattle.network.specs.Printer.{print_network}
use Rattle.network.specs.Parts.{free_of, names_of}
use Rattle.network.specs.Reads.{Rising}
use Rattle.serving.specs.Parts.{Parts}
use Rattle.network.specs.NetworkFor.{Named, node_at}
use Rattle.order.specs.Order.{before, tables_order}
use Rattle.lineorder.specs.LineOrder.{line_order}
use Rattle.lineorder.specs.NodeDigits.{digits_follow}
use Rattle.lineorder.specs.NodeOrder.{reads_order}
use Rattle.lineorder.specs.First.{node_line, Settled, first_from_parts}
use Rattle.lineorder.proofs.NodeLines.{node_not_less}

-- the same by reading sets: the digits of a node follow from the tables and from those that it reads
pub first_from_reads : (Permits : Network → Type 0) (d : Design) (u : ℕ) (w : Network)
    → Named d
    → Parts d.inputs d.bound
    → Settled Permits d u
    → Permits w
    → ((v : Network) → Permits v → NotLess (tables_order v.luts w.luts))
    → ((v : Network) (o : ℕ)
    → Permits v
    → v.luts ≡ w.luts
    → o < length d.outputs
    → NotLess (reads_order (node_at v.nodes o).reads (node_at w.nodes o).reads))
    → (v : Network)
    → Permits v
    → before (print_network d v) (print_network d w) ≡ false
first_from_reads Permits d u w h p k q tables reads = first_from_parts Permits d u w h k.uniform q tables lines
  where
    lines : (v : Network) (o : ℕ)
        → Permits v
        → v.luts ≡ w.luts
        → o < length d.outputs
        → NotLess (line_order (node_line d v o) (node_line d w o))
    lines v o r e l =
        let fv = k.uniform.wellformed v r in
        let fw = k.uniform.wellformed w q in
        let x = fv.node_fits o (subst (λ (n : ℕ). o < n) (sym fv.node_each) l) in
        let y = fw.node_fits o (subst (λ (n : ℕ). o < n) (sym fw.node_each) l) in
        node_not_less (get_or (names_of d) o []) (free_of d) (length w.luts) (node_at v.nodes o) (node_at w.nodes o)
        (k.reads-alike v w o r q l)
        (subst (λ (n : ℕ). Rising 0 n (node_at v.nodes o).reads) (ap (λ (ts : List (List Bool)). length ts) e) x.rises)
        y.rises
        (omega (arith, fw.few_luts))
        (reads v o r e l)
        (λ s. digits_follow d p v w o (k.computes v r) (k.computes w q) (k.blank v o r l) (k.blank w o q l) l e s
        (x.counted ∙ ap (λ (is : List ℕ). 2 ^ (length is + length (free_of d))) s ∙ sym y.counted))
