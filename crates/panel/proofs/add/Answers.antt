use mathlib.Core.Path.{sym, subst}
use mathlib.Core.List.{List}
use Prim.Native.Nat.{◌+◌}
use native.Mathlib.Omega.{arith}
use Rattle.sheet.specs.declared.Rows.{Rows}
use Rattle.panel.specs.AddLaws.{AddedUpTo, added_none, added_unmarked, added_marked, added_all}
use Rattle.panel.proofs.add.Goals as goal
use Rattle.panel.proofs.add.Goals.{then-marks-o-eq49, else-marks-o-eq49}

pub loop-o-init : goal.loop-o-init
loop-o-init c = added_none _ _ _ search

pub offset_bounds-tables-o : goal.offset_bounds-tables-o
offset_bounds-tables-o c = omega (arith, c.requires)

pub bounds-tables-o : goal.bounds-tables-o
bounds-tables-o c = omega (arith, c.requires)

pub offset_bounds-tables-o-then-marks-o-eq49 : goal.offset_bounds-tables-o-then-marks-o-eq49
offset_bounds-tables-o-then-marks-o-eq49 c = omega (arith, c.requires)

pub bounds-tables-o-then-marks-o-eq49 : goal.bounds-tables-o-then-marks-o-eq49
bounds-tables-o-then-marks-o-eq49 c = omega (arith, c.requires)

pub loop-o-preserved : goal.loop-o-preserved
loop-o-preserved c = let pre = c.requires in
    let a = c.args in
    let o = c.loop-o.o in
    let so_far = c.loop-o.invariant in
    let inside = c.loop-o-test.true in
    let Next : List Rows → Type 0 = AddedUpTo a.tables.now a.rows a.marks.now (o + 1) in
    elim c.if-marks-o-eq49.branch [
      | then-marks-o-eq49 w ↦
          subst Next (sym w.tables-is) (added_marked _ _ _ _ _ so_far inside _ pre w.if-marks-o-eq49.true w.either.ensures)
      | else-marks-o-eq49 w ↦ subst Next (sym w.tables-is) (added_unmarked _ _ _ _ _ so_far inside w.if-marks-o-eq49.false)
    ]

pub returns : goal.returns
returns c = added_all _ _ _ _ _ c.loop-o.invariant c.loop-o-test.false
