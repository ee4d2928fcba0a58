-- `read_node`: the head, the shared tables, the inputs, and the digits up to the line's end. Assumes nothing.
use Rattle.std.proofs.Common.{map, sym, length}
use Rattle.std.proofs.lemmas.List.{length-map}
use Rattle.names.specs.Pack.{name_of}
use Rattle.network.specs.LineReadLaws.{node_no_head, node_no_inputs, node-no-digits, node_digits}
use Rattle.network.proofs.read_node.Goals as goal

pub returns-in_err-a : goal.returns-in_err-a
returns-in_err-a c = let a = c.args in
    rw c.from_residual.ensures
    (node_no_head a.l.now (name_of a.name) (map name_of a.fs.now) a.u c.in_err-a.ensures)

pub reads_at-w-requires : goal.reads_at-w-requires
reads_at-w-requires c = (c.in_ok-a.ensures.inside, c.requires.1)

pub returns-in_err-d : goal.returns-in_err-d
returns-in_err-d c = let a = c.args in
    rw c.from_residual-in_err-d.ensures
    (node_no_inputs a.l.now (name_of a.name) (map name_of a.fs.now) a.u c.in_ok-a.ensures c.reads_at-w.result c.reads_at-w.ensures c.in_err-d.ensures)

pub table_at-requires : goal.table_at-requires
table_at-requires c = c.in_ok-d.ensures.inside

pub returns-in_err-at : goal.returns-in_err-at
returns-in_err-at c = let a = c.args in
    rw c.from_residual-in_err-at.ensures
    (node-no-digits a.l.now (name_of a.name) (map name_of a.fs.now) a.u c.in_ok-a.ensures c.reads_at-w.result c.reads_at-w.ensures c.in_ok-d.ensures
    (length a.fs.now) c.power.result (sym (length-map a.fs.now name_of)) c.power.ensures c.in_err-at.ensures)

pub returns : goal.returns
returns c = let a = c.args in
    node_digits a.l.now (name_of a.name) (map name_of a.fs.now) a.u c.in_ok-a.ensures c.reads_at-w.result c.reads_at-w.ensures c.in_ok-d.ensures
    (length a.fs.now) c.power.result (sym (length-map a.fs.now name_of)) c.power.ensures c.in_ok-at.ensures
