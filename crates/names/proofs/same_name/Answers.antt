use Rattle.std.specs.Prelude.{◌<◌, ◌≤◌, ◌-◌, ◌^◌, max}
use Rattle.std.proofs.Common.{arith}
use Rattle.std.proofs.Math.Nat.{le-max_left, le-max_right, max-le}
use Rattle.names.proofs.Matches.{same_by_bytes, bytes_enough}
use Rattle.names.proofs.same_name.Goals as goal

pub returns : goal.returns
returns c = let a = c.args.a in
    let b = c.args.b in
    let m = c.max.result in
    let most : max a b ≤ 2 ^ 64 - 1 = max-le {a = a} {b = b} (omega (arith, c.ranges.a.fits)) (omega (arith, c.ranges.b.fits)) in
    let longer : m < 2 ^ 64 = rw c.max.ensures (omega (arith, most)) in
    let left : a ≤ m = rw c.max.ensures (le-max_left a b) in
    let right : b ≤ m = rw c.max.ensures (le-max_right a b) in
    let enough = bytes_enough m longer in
    same_by_bytes _ a b _ (omega arith) (omega (arith, left, enough)) (omega (arith, right, enough))
    (rw (c.to_le_bytes.ensures, c.to_le_bytes-2.ensures) at c.eq_ignore_ascii_case.ensures.test)
