use Rattle.std.proofs.Common.{◌^◌, ◌≤◌, arith, pow_mono}
use Rattle.readingsets.proofs.power.Goals as goal

pub power-requires : goal.power-requires
power-requires c = let h = c.requires in omega arith

pub overflow_cast-result : goal.overflow_cast-result
overflow_cast-result c = let low : 2 ^ c.args.d ≤ 2 ^ 16 = pow_mono c.requires in let e = c.power.ensures in record { fits = omega arith }

pub returns : goal.returns
returns c = let low : 2 ^ c.args.d ≤ 2 ^ 16 = pow_mono c.requires in let e = c.power.ensures in (e, omega arith)
