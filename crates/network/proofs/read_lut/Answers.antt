-- `read_lut`: the head, and the digits up to the line's end. Assumes nothing.
use Rattle.std.proofs.Common.{map, sym, length}
use Rattle.std.proofs.lemmas.List.{length-map}
use Rattle.names.specs.Pack.{name_of}
use Rattle.network.specs.LineReadLaws.{lut_no_head, lut_digits}
use Rattle.network.proofs.read_lut.Goals as goal

pub returns-in_err-c : goal.returns-in_err-c
returns-in_err-c c =
    rw c.from_residual.ensures (lut_no_head c.args.l.now (map name_of c.args.bs.now) c.args.i c.in_err-c.ensures)

pub table_at-requires : goal.table_at-requires
table_at-requires c = c.in_ok-c.ensures.inside

pub returns : goal.returns
returns c = let a = c.args in
    lut_digits a.l.now (map name_of a.bs.now) a.i c.in_ok-c.ensures c.table_at.result c.power.result (length a.bs.now) c.power.ensures
    (sym (length-map a.bs.now name_of)) c.table_at.ensures
