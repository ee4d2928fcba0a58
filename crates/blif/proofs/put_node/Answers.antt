-- `put_node`: the block's first line, part after part, and its rows. Assumes nothing.
use mathlib.Core.Path.{ap₂, sym, subst}
use mathlib.Core.List.{map}
use Prim.Native.Nat.{ℕ, ◌+◌, ◌^◌, ◌≤◌}
use native.Mathlib.Omega.{arith}
use lib.ListN.{length}
use Rattle.names.specs.Pack.{name_of}
use Rattle.network.specs.Numbers.{numbers_of}
use Rattle.emit.specs.PutLaws.{put_next, put_then}
use Rattle.network.specs.Shown.{shown}
use Rattle.blif.specs.Texts.{digits_at}
use Rattle.blif.specs.Printer.{cell_name}
use Rattle.blif.specs.BlockLaws.{block_text_two, two-counted}
use Rattle.blif.proofs.Arrays.{shown-counted}
use Rattle.blif.proofs.put_node.Goals as goal

pub put_rows-requires : goal.put_rows-requires
put_rows-requires c = let args = c.args in
    let pre = c.requires in
    let fs = args.fs in
    let free = shown-counted fs (omega arith) in
    let inputs = ap₂ (λ (a b : ℕ). a + b) c.count.ensures (sym free) in
    let few = pre.3.narrow in (
      omega (
        arith,
        pre.0,
        c.put_text-p.ensures.place,
        c.put_text-p.ensures.short,
        c.put_cells-q.ensures.place,
        c.put_cells-q.ensures.short,
        c.put_listed-r.ensures.place,
        c.put_listed-r.ensures.short,
        c.put_item-s.ensures.place,
        c.put_item-s.ensures.short,
        c.put_byte-v.ensures.place,
      ),
      omega (arith, few, inputs),
      subst (λ (k : ℕ). args.place + 2 ^ k ≤ length args.t.now) (sym inputs) pre.3.stands,
    )

pub returns : goal.returns
returns c = let args = c.args in
    let fs = args.fs in
    let is = numbers_of args.luts args.mask in
    let f = digits_at args.t.now args.place in
    let counted = two-counted is (shown fs) c.count.ensures (sym (shown-counted fs (omega arith))) in
    let text = block_text_two (name_of args.name) f _ (map cell_name is) (shown fs) counted in
    put_next c.put_text-p.ensures
    (put_then c.put_cells-q.ensures (put_then c.put_listed-r.ensures (put_then c.put_item-s.ensures (put_then c.put_byte-v.ensures c.put_rows.ensures))))
    text (omega arith)
