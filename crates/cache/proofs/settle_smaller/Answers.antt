use Rattle.bits.specs.LogicLaws.{true_false}
use borrow.Author.Tests.{not-true}
use Rattle.std.proofs.Common.{sym, ◌∙◌}
use Rattle.cache.proofs.settle_smaller.Goals as goal

pub loop-i-init : goal.loop-i-init
loop-i-init c = c.requires.3

pub settle-t-requires : goal.settle-t-requires
settle-t-requires c = let p = c.requires in (p.0, p.1, p.2, c.loop-i.invariant)

pub shape_of-mem-then-not-t : goal.shape_of-mem-then-not-t
shape_of-mem-then-not-t c = let p = c.requires in
    c.settle-t.ensures.0.long ∙ sym p.3.long

pub returns-then-not-t : goal.returns-then-not-t
returns-then-not-t c = (c.settle-t.ensures.0, λ e. c.settle-t.ensures.1 (not-true _ c.if-not-t.true))

pub loop-i-preserved : goal.loop-i-preserved
loop-i-preserved c = c.settle-t.ensures.0

pub shape_of-mem : goal.shape_of-mem
shape_of-mem c = c.loop-i.invariant.long ∙ sym c.requires.3.long

pub returns : goal.returns
returns c = (c.loop-i.invariant, λ e. absurd (true_false e))
