-- `put_lut`: the block's first line, part after part, and its rows. Assumes nothing.
use mathlib.Core.Path.{ap, ◌∙◌, sym}
use native.Mathlib.Omega.{arith}
use Rattle.names.specs.Pack.{name_of}
use Rattle.names.specs.Name.{Name}
use Rattle.emit.specs.PutLaws.{put_next, put_then}
use Rattle.network.specs.Shown.{shown}
use Rattle.blif.specs.Texts.{digits_at, block_text}
use Rattle.blif.specs.BlockLaws.{block_text_lem}
use Rattle.blif.proofs.Arrays.{shown-counted}
use Rattle.blif.proofs.put_lut.Goals as goal

pub returns : goal.returns
returns c = let args = c.args in
    let bs = args.bs in
    let f = digits_at args.t.now args.place in
    let counted = sym (shown-counted bs (omega arith)) in
    let text = block_text_lem (name_of c.cell_name.result) f bs.count (shown bs) counted in
    put_next c.put_text-p.ensures (put_then c.put_listed-q.ensures (put_then c.put_item-r.ensures (put_then c.put_byte-s.ensures c.put_rows.ensures)))
    (text ∙ ap (λ (n : Name). block_text (shown bs) n f) c.cell_name.ensures) (omega arith)
