-- `put_nodes`: each turn puts one block more. Assumes nothing.
use Rattle.emit.specs.UptoLaws.{Texts}
use Rattle.network.specs.Shown.{shown}
use Rattle.blif.specs.Texts.{node_text}
use Rattle.blif.specs.Room.{block_room}
use Rattle.blif.proofs.put_nodes.Given as goal

abbrev pub invariant-loop-o : goal.invariant-loop-o
invariant-loop-o l = Texts (node_text l.t (shown l.fs) l.k.outs l.n.luts l.n.reads l.n.nodeat) block_room l.k.outputs l.initial.buf l.buf l.at l.p l.o
