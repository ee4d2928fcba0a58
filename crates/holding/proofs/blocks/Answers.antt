use mathlib.Core.Path.{refl, sym, subst}
use mathlib.Core.List.{List}
use Prim.Native.Nat.{ℕ, ◌+◌}
use native.Mathlib.Omega.{arith}
use Rattle.holding.specs.Blocks.{Table}
use Rattle.holding.specs.BlocksLaws.{table_more, entry_again}
use Rattle.holding.proofs.blocks.Goals as goal
use Rattle.holding.proofs.blocks.Goals.{then-first-c, else-first-c}

pub loop-i-preserved : goal.loop-i-preserved
loop-i-preserved c = let args = c.args in
    let pre = c.requires in
    let h = c.loop-i-test.true in
    let Next : List ℕ → Type 0 = Table args.ms (c.loop-i.i + 1) in
    elim c.if-first-c.branch [
      | then-first-c w ↦ subst Next (sym w.r-is) (table_more args.ms c.loop-i.i c.loop-i.r _ (omega arith) w.block.ensures c.loop-i.invariant)
      | else-first-c w ↦ subst Next (sym w.r-is) (table_more args.ms c.loop-i.i c.loop-i.r _ (omega arith)
          (entry_again args.ms c.loop-i.i c.loop-i.r _ _ refl refl w.if-first-c.false c.loop-i.invariant) c.loop-i.invariant)
    ]
