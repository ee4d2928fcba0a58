-- The first network in byte order of a set of networks of one design: its tables are the least, and with these tables each
-- node line is. Assumes nothing.
use Rattle.std.specs.Prelude.{◌≡◌, false, List, [], ℕ, ◌<◌, length, get_or}
use Rattle.std.proofs.Common.{sym, ◌∙◌, subst}
use Rattle.order.specs.Total.{NotLess}
use Rattle.sheet.specs.Examine.{Design}
use Rattle.network.specs.Network.{Network}
use Rattle.network.specs.Printer.{print_node, print_network}
use Rattle.network.specs.Parts.{free_of, names_of}
use Rattle.network.specs.Answers.{read_count, Computes}
use Rattle.network.specs.NetworkFor.{NetworkFor, Named, node_at}
use Rattle.order.specs.Order.{before, tables_order}
use Rattle.order.specs.OrderLaws.{then_not_less, before_not_less}
use Rattle.order.proofs.TotalLaws.{tables_total}
use Rattle.lineorder.specs.LineOrder.{line_order}
use Rattle.lineorder.specs.NodeDigits.{Blank}
use Rattle.lineorder.specs.PrintOrder.{nodes_order, print_order, nodes_not_less}

-- ======== definitions
-- the line of the node of output o
abbrev pub node_line : Design → Network → ℕ → List ℕ
node_line d w o = print_node (get_or (names_of d) o []) (free_of d) (node_at w.nodes o)

-- what permitted networks are at least: well formed, and of one number of shared tables
pub record Uniform (Permits : Network → Type 0) (d : Design) (u : ℕ) : Type 0 where
  pub wellformed : (v : Network) → Permits v → NetworkFor d v
  pub counted : (v : Network) → Permits v → length v.luts ≡ u

-- and compute the design, read equally many shared tables in an output, and have 0 in every entry whose code no vertex produces
pub record Settled (Permits : Network → Type 0) (d : Design) (u : ℕ) : Type 0 where
  pub uniform : Uniform Permits d u
  pub computes : (v : Network) → Permits v → Computes d v
  pub reads-alike : (v w : Network) (o : ℕ) → Permits v → Permits w → o < length d.outputs → read_count v o ≡ read_count w o
  pub blank : (v : Network) (o : ℕ) → Permits v → o < length d.outputs → Blank d v o

-- ======== laws
-- the tables are the least, and with these tables each node line is
pub first_from_parts : (Permits : Network → Type 0) (d : Design) (u : ℕ) (w : Network)
    → Named d
    → Uniform Permits d u
    → Permits w
    → ((v : Network) → Permits v → NotLess (tables_order v.luts w.luts))
    → ((v : Network) (o : ℕ)
    → Permits v
    → v.luts ≡ w.luts
    → o < length d.outputs
    → NotLess (line_order (node_line d v o) (node_line d w o)))
    → (v : Network)
    → Permits v
    → before (print_network d v) (print_network d w) ≡ false
first_from_parts Permits d u w h k p tables nodes v q =
    let f = k.wellformed v q in
    let g = k.wellformed w p in
    before_not_less (print_network d v) (print_network d w)
    (subst NotLess (sym (print_order d h v w f g (k.counted v q ∙ sym (k.counted w p))))
    (then_not_less (tables_order v.luts w.luts) (nodes_order d v.nodes w.nodes) (tables v q)
    (λ e.
    nodes_not_less (free_of d) (names_of d) v.nodes w.nodes (f.node_each ∙ sym g.node_each)
    (λ o m l. nodes v o q (tables_total.equal v.luts w.luts e) (subst (λ (n : ℕ). o < n) f.node_each l)))))
