use Rattle.readingsets.specs.ChoiceLaws.{first_outputs_are}
use Rattle.std.proofs.Common.{arith}
use Rattle.readingsets.proofs.first_outputs.Goals as goal

pub power-requires : goal.power-requires
power-requires c = let h = c.requires in omega arith

pub overflow_sub-result : goal.overflow_sub-result
overflow_sub-result c = let h = first_outputs_are c.args.m c.requires in let a = h.0 in let e = c.power.ensures in omega arith

pub overflow_cast-result : goal.overflow_cast-result
overflow_cast-result c = let h = first_outputs_are c.args.m c.requires in let a = h.1 in let e = c.power.ensures in record { fits = omega arith }

pub returns : goal.returns
returns c = let e = c.power.ensures in omega arith
