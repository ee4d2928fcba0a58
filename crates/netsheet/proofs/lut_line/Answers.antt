-- `lut_line`: six shared tables are the most. Assumes nothing.
use Rattle.std.proofs.Common.{map, take, arith, length-take-le}
use Rattle.names.specs.Pack.{name_of}
use Rattle.netsheet.specs.AskLaws.{no_more_luts, one_more_lut}
use Rattle.netsheet.proofs.lut_line.Goals as goal

pub returns-then-u-ge-MAX_CELLS : goal.returns-then-u-ge-MAX_CELLS
returns-then-u-ge-MAX_CELLS c = let a = c.args in
    no_more_luts (map name_of (take a.k.bounds a.k.bound)) a.u a.l.now c.if-u-ge-MAX_CELLS.true

pub read_lut-requires : goal.read_lut-requires
read_lut-requires c = let a = c.args in
    let count = length-take-le a.k.bounds a.k.bound (omega (arith, c.requires.few_bound)) in
    (omega (arith, c.requires.few_bound), omega (arith, c.if-u-ge-MAX_CELLS.false))

pub returns : goal.returns
returns c = let a = c.args in
    let count = length-take-le a.k.bounds a.k.bound (omega (arith, c.requires.few_bound)) in
    one_more_lut (map name_of (take a.k.bounds a.k.bound)) a.u a.l.now c.read_lut.result _ _ c.if-u-ge-MAX_CELLS.false count c.read_lut.ensures
