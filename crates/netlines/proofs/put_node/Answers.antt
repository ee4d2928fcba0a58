-- `put_node`: four texts, one after the other; the digits are the node's, by the first vertex of each code. Assumes nothing.
use native.Mathlib.Omega.{arith}
use lib.ListN.{length}
use Rattle.emit.specs.PutLaws.{put_next, put_then, put_length}
use Rattle.netlines.specs.TextLaws.{node_line}
use Rattle.netlines.specs.DigitLaws.{codes_few, entries_few}
use Rattle.netlines.proofs.put_node.Goals as goal

pub read_names-reads-requires : goal.read_names-reads-requires
read_names-reads-requires c = c.requires.2

pub power-count-requires : goal.power-count-requires
power-count-requires c = omega (arith, c.requires.2, c.read_names-reads.ensures.2)

pub firsts-firsts-requires : goal.firsts-firsts-requires
firsts-firsts-requires c = (c.requires.2, c.requires.3.few_vertices)

pub put_node_head-p-requires : goal.put_node_head-p-requires
put_node_head-p-requires c = omega (arith, c.requires.0)

pub joined-requires : goal.joined-requires
joined-requires c = omega (arith, c.requires.1, c.requires.2, c.read_names-reads.ensures.2)

pub put_list-q-requires : goal.put_list-q-requires
put_list-q-requires c = let place = c.put_node_head-p.ensures.place in
    let short = c.put_node_head-p.ensures.short in
    (omega (arith, c.requires.0, place, short), omega (arith, c.requires.1, c.requires.2, c.read_names-reads.ensures.2, c.joined.ensures.1))

pub put_entries-r-requires : goal.put_entries-r-requires
put_entries-r-requires c = let codes = codes_few _ c.power-count.result c.power-count.ensures (omega (arith, c.requires.2, c.read_names-reads.ensures.2)) in
    let few = entries_few c.power-count.result (length c.args.free.now) codes c.requires.3.few_free in
    let a = c.put_node_head-p.ensures in
    let b = c.put_list-q.ensures in
    (omega (arith, c.requires.0, a.place, a.short, b.place, b.short), codes, c.requires.3.laid)

pub put_text-requires : goal.put_text-requires
put_text-requires c = let codes = codes_few _ c.power-count.result c.power-count.ensures (omega (arith, c.requires.2, c.read_names-reads.ensures.2)) in
    let few = entries_few c.power-count.result (length c.args.free.now) codes c.requires.3.few_free in
    let a = c.put_node_head-p.ensures in
    let b = c.put_list-q.ensures in
    let d = c.put_entries-r.ensures in
    omega (arith, c.requires.0, a.place, a.short, b.place, b.short, d.place, d.short)

pub shape_of-buf : goal.shape_of-buf
shape_of-buf c = put_length (put_then c.put_node_head-p.ensures (put_then c.put_list-q.ensures (put_then c.put_entries-r.ensures c.put_text.ensures)))

pub returns : goal.returns
returns c = let codes = codes_few _ c.power-count.result c.power-count.ensures (omega (arith, c.requires.2, c.read_names-reads.ensures.2)) in
    let few = entries_few c.power-count.result (length c.args.free.now) codes c.requires.3.few_free in
    put_next c.put_node_head-p.ensures (put_then c.put_list-q.ensures (put_then c.put_entries-r.ensures c.put_text.ensures))
    (node_line _ _ _ _ _ _ _ _ _ _ _ _ c.joined.ensures.0 c.read_names-reads.ensures.0 c.firsts-firsts.ensures
    c.power-count.ensures c.read_names-reads.ensures.1 codes)
    (omega arith)
