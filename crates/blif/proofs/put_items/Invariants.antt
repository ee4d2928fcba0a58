-- `put_items`: each turn puts one name more. Assumes nothing.
use lib.ListN.{length}
use Rattle.emit.specs.Written.{item_room}
use Rattle.emit.specs.UptoLaws.{Texts}
use Rattle.blif.specs.Texts.{item_text}
use Rattle.blif.proofs.put_items.Given as goal

abbrev pub invariant-loop-v : goal.invariant-loop-v
invariant-loop-v l = Texts (item_text l.ns) item_room (length l.ns) l.initial.buf l.buf l.at l.p l.v-index
