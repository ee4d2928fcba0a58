-- `shape_of`: the rows gathered by the inputs' digits are those of vertices and free rows. Assumes nothing.
use mathlib.Core.Path.{◌≡◌, sym}
use native.Mathlib.Omega.{arith}
use borrow.Author.Rules.{rules}
use lib.ListN.{length, take}
use lib.Seq.{length-take-le}
use Rattle.classes.proofs.Arrays.{bound-sized}
use Rattle.classes.specs.ShapeLaws.{shaped, small_part, few_power}
use Rattle.classes.proofs.shape_of.Goals as goal

pub slice_bounds-digits-end : goal.slice_bounds-digits-end
slice_bounds-digits-end c = sym (length-take-le _ _ (omega (arith, c.requires.few_bound, bound-sized c.args.k c.well_formed.0)))

pub digits-list-requires : goal.digits-list-requires
digits-list-requires c = let e : length (take c.args.k.bounds c.args.k.bound) ≡ c.args.k.bounds = length-take-le _ _
    (omega (arith, c.requires.few_bound, bound-sized c.args.k c.well_formed.0)) in
    (c.requires.few_inputs, omega (arith, c.requires.few_bound))

pub slice_bounds-fill-end-2 : goal.slice_bounds-fill-end-2
slice_bounds-fill-end-2 c = sym (length-take-le _ _ (omega (arith, c.requires.few_inputs, c.digits-list.ensures.size)))

pub fill-requires : goal.fill-requires
fill-requires c = let p = small_part c.digits-list.result c.args.k.inputs c.digits-list.ensures.small
    c.requires.few_inputs c.digits-list.ensures.size in
    (search rules, search rules, p.0, p.1)

pub slice_bounds-fill-end-4 : goal.slice_bounds-fill-end-4
slice_bounds-fill-end-4 c = sym (length-take-le _ _ (omega (arith, c.requires.few_inputs, c.digits-list.ensures.size)))

pub fill-requires-2 : goal.fill-requires-2
fill-requires-2 c = let p = small_part c.digits-list.result c.args.k.inputs c.digits-list.ensures.small
    c.requires.few_inputs c.digits-list.ensures.size in
    (search rules, few_power c.args.k.bounds _ c.power-vertices.ensures c.requires.few_bound, p.0, p.1)

pub returns : goal.returns
returns c = shaped c.args.k c.digits-list.result _ c.requires c.digits-list.ensures c.power-vertices.ensures
    c.power.ensures c.fill.ensures c.fill-2.ensures c.fill.auto.out
    c.fill-2.auto.out
