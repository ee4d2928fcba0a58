use Rattle.std.proofs.Common.{arith}
use Rattle.network.specs.NumbersLaws.{shifted_byte, mask_fits}
use Rattle.network.specs.GatherLaws.{gathered_none, gathered_with, gathered-without, gathered_all}
use Rattle.network.proofs.reads_at.Goals as goal
use Rattle.network.proofs.reads_at.Goals.{in-Some, in_default}

pub loop-i-init : goal.loop-i-init
loop-i-init c = gathered_none c.args.s.now c.args.u c.args.c.at c.requires.0

pub overflow_add-mask : goal.overflow_add-mask
overflow_add-mask c =
    record { fits = omega (arith, shifted_byte c.loop-i.i (omega (arith, c.requires.1)), mask_fits c.loop-i.i c.loop-i.mask (omega (arith, c.requires.1)) c.loop-i.invariant.small) }

pub loop-i-preserved : goal.loop-i-preserved
loop-i-preserved c =
    elim c.match-lut_at.branch [
      | in-Some w ↦
          rw (w.next-is, w.mask-is, w.count-is, shifted_byte c.loop-i.i (omega (arith, c.requires.1)))
          (gathered_with c.loop-i.invariant (omega arith) (rw w.in-Some.is at c.lut_at.ensures))
      | in_default w ↦
          rw (w.next-is, w.mask-is, w.count-is)
          (gathered-without c.loop-i.invariant (omega arith) (rw w.in_default.is at c.lut_at.ensures))
    ]

pub returns : goal.returns
returns c = gathered_all c.loop-i.invariant (omega arith)
