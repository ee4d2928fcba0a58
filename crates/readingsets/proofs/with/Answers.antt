use Rattle.std.proofs.Common.{◌^◌, ◌≤◌, ap, arith, pow_mono}
use lib.Bits.{bit_or}
use Rattle.readingsets.proofs.with.Goals as goal

pub power-requires : goal.power-requires
power-requires c = let h = c.requires in omega arith

pub overflow_cast-result : goal.overflow_cast-result
overflow_cast-result c = let h = c.requires in
    let n = c.args.n in
    let few : n ≤ 7 = omega arith in
    let low : 2 ^ n ≤ 2 ^ 7 = pow_mono few in
    let e = c.power.ensures in
    record { fits = omega arith }

pub returns : goal.returns
returns c = ap (bit_or c.args.done) c.power.ensures
