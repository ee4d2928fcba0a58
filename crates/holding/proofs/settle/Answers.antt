use native.Mathlib.Omega.{arith}
use mathlib.Core.Path.{refl}
use Rattle.holding.specs.BlocksLaws.{all_ones}
use Rattle.cells.specs.ListLaws.{zeros_are}
use Rattle.holding.proofs.settle.Goals as goal

pub held-requires : goal.held-requires
held-requires c = let pre = c.requires in
    (pre.0, pre.2, pre.3, pre.4, pre.5, pre.6, refl, refl, λ l h. zeros_are 32 l, λ l h. zeros_are 32 l)

pub wanted-requires : goal.wanted-requires
wanted-requires c = let pre = c.requires in
    let few = pre.3 in
    let outs = pre.4 in
    let o = pre.5 in
    let s = c.held.ensures in
    (pre.0, few, omega arith, pre.7, s.own_long, s.owns_long, λ l k. let z = s.less l k in omega arith, refl, refl, all_ones 32)
