use native.Mathlib.Omega.{arith}
use mathlib.Core.Path.{sym, ap, subst, ◌∙◌}
use Prim.Native.Nat.{◌+◌}
use Rattle.netnames.specs.NumbersLaws.{Reading, reading_none, reading-without, reading_with, reading_all, digit_read}
use Rattle.network.specs.declared.Names.{Names}
use Rattle.network.specs.Shown.{shown}
use Rattle.netnames.proofs.read_names.Goals as goal
use Rattle.netnames.proofs.read_names.Goals.{then-has, else-has}

pub loop-i-init : goal.loop-i-init
loop-i-init c = reading_none _ _ c.no_names-r.ensures.0 c.no_names-r.ensures.1

pub loop-i-preserved : goal.loop-i-preserved
loop-i-preserved c = let args = c.args in
    elim c.if-has.branch [
      | then-has w ↦ reading_with c.loop-i.invariant (omega arith) (digit_read c.loop-i.i c.has.ensures c.from.ensures w.if-has.true)
          (ap shown w.r-is ∙ w.pushed-r.ensures.0) w.lut_name.ensures (ap (λ (q : Names). q.count) w.r-is ∙ w.pushed-r.ensures.1)
      | else-has w ↦ subst (λ (q : Names). Reading args.mask args.u (c.loop-i.i + 1) q.count (shown q)) (sym w.r-is)
          (reading-without c.loop-i.invariant (omega arith) (digit_read c.loop-i.i c.has.ensures c.from.ensures w.if-has.false))
    ]

pub returns : goal.returns
returns c = let w = reading_all c.loop-i.invariant (omega arith) in (w.listed, w.counted, w.few)
