-- `ask_lut`: the line is a lut line, or else asked as a node line. Assumes nothing.
use Rattle.std.proofs.Common.{map, take, arith}
use Rattle.names.specs.Pack.{name_of}
use Rattle.netsheet.specs.AskLaws.{safe_lut, lut_few, lut_bad, lut_good}
use Rattle.netsheet.proofs.ask_lut.Goals as goal

pub overflow_add-at : goal.overflow_add-at
overflow_add-at c = record { fits = omega (arith, c.requires.2, c.in-Some.ensures.stands.inside) }

pub with_lut-requires : goal.with_lut-requires
with_lut-requires c = let a = c.args in
    lut_few (map name_of (take a.k.bounds a.k.bound)) a.s.sheet.luts a.l.now c.in-Some.ensures

pub returns-in-Some : goal.returns-in-Some
returns-in-Some c = let a = c.args in
    let few = lut_few (map name_of (take a.k.bounds a.k.bound)) a.s.sheet.luts a.l.now c.in-Some.ensures in (
      safe_lut a.s c.with_lut.result _ c.with_lut.ensures few,
      λ t d w q n h none_yet some-outputs. lut_good a.l.now t a.at d w a.k a.s q n h c.with_lut.result
          c.in-Some.ensures c.with_lut.ensures few (omega arith) none_yet,
    )

pub returns-in-None : goal.returns-in-None
returns-in-None c = let a = c.args in (
  c.ask_node.ensures.0,
  λ t d w q n h none_yet some-outputs. lut_bad a.l.now t a.at d w a.k a.s q n h c.ask_node.result c.in-None.ensures (c.ask_node.ensures.1 t d w q n h none_yet some-outputs),
)
