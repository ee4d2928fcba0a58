-- Node lines of one output whose nodes read equally many shared tables. Assumes nothing.
use Rattle.std.specs.Prelude.{◌≡◌, Bool, List, [], ◌∷◌, ◌++◌, length}
use Rattle.std.proofs.Common.{sym, ap, ◌∙◌, subst}
use Prim.Native.Nat.{ℕ, ◌≤◌}
use Rattle.order.specs.Total.{NotLess}
use Rattle.text.specs.Bytes.{newline, close_bracket}
use Rattle.names.specs.Name.{Name}
use Rattle.network.specs.Network.{Node}
use Rattle.network.specs.Printer.{print_digits, print_node}
use Rattle.network.specs.Reads.{Rising}
use Rattle.order.specs.Order.{byte_order}
use Rattle.order.proofs.TotalLaws.{bytes_total}
use Rattle.order.specs.OrderLaws.{then_not_less, not_less_eq}
use Rattle.lineorder.specs.LineOrder.{line_order}
use Rattle.lineorder.specs.NodeOrder.{reads_order, line_rest, reads_equal, node_order}

-- a node whose tables come no sooner, and whose digits follow from its tables, has a line that is not less
pub node_not_less : (n : Name) (fs : List Name) (u : ℕ) (x y : Node)
    → length x.reads ≡ length y.reads
    → Rising 0 u x.reads
    → Rising 0 u y.reads
    → u ≤ 10
    → NotLess (reads_order x.reads y.reads)
    → (x.reads ≡ y.reads → x.digits ≡ y.digits)
    → NotLess (line_order (print_node n fs x) (print_node n fs y))
node_not_less n fs u x y e r z a l f =
    subst NotLess (sym (node_order n fs u x y e r z a))
    (then_not_less (reads_order x.reads y.reads) (byte_order (line_rest x) (line_rest y)) l
    (λ q.
    subst NotLess
    (sym (ap (λ (ds : List Bool). byte_order (0x20 ∷ (print_digits ds ++ (close_bracket ∷ newline ∷ []))) (line_rest y))
    (f (reads_equal x.reads y.reads q))
    ∙ bytes_total.self (line_rest y)))
    not_less_eq))
