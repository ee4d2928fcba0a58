-- `put_nodes`: each turn puts one line more. Assumes nothing.
use Prim.Native.Nat.{ℕ}
use Rattle.network.specs.Shown.{shown, item}
use Rattle.network.specs.Numbers.{numbers_of}
use Rattle.network.specs.Printer.{print_node}
use Rattle.sheet.specs.Known.{table_at}
use Rattle.names.specs.Pack.{name_of}
use Rattle.emit.specs.UptoLaws.{Texts}
use Rattle.netlines.specs.Lines.{ended, node_by}
use Rattle.netlines.specs.Room.{node_room}
use Rattle.netlines.proofs.put_nodes.Given as goal

abbrev pub invariant-loop-o : goal.invariant-loop-o
invariant-loop-o l = Texts
    (ended
    (λ (j : ℕ). print_node (name_of (item l.k.outs j)) (shown l.fs) (node_by (table_at l.k.tables j) l.vertex l.free (item l.codes) (numbers_of l.u (item l.rows j)))))
    node_room l.k.outputs l.initial.buf l.buf l.at l.p l.o
