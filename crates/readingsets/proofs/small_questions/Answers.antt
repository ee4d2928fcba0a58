use Rattle.bits.specs.LogicLaws.{true_false}
use borrow.Author.Tests.{not-true}
use Rattle.std.proofs.Common.{sym, ◌∙◌}
use Rattle.readingsets.proofs.small_questions.Goals as goal

pub loop-size-init : goal.loop-size-init
loop-size-init c = c.requires.4

pub settle-a-requires : goal.settle-a-requires
settle-a-requires c = let p = c.requires in (p.0, p.1, p.2, c.loop-size.invariant)

pub shape_of-mem-then-not-a : goal.shape_of-mem-then-not-a
shape_of-mem-then-not-a c = c.settle-a.ensures.0.long ∙ sym c.requires.4.long

pub returns-then-not-a : goal.returns-then-not-a
returns-then-not-a c = (c.settle-a.ensures.0, λ e. c.settle-a.ensures.1 (not-true _ c.if-not-a.true))

pub loop-size-preserved : goal.loop-size-preserved
loop-size-preserved c = c.settle-a.ensures.0

pub shape_of-mem : goal.shape_of-mem
shape_of-mem c = c.loop-size.invariant.long ∙ sym c.requires.4.long

pub returns : goal.returns
returns c = (c.loop-size.invariant, λ e. absurd (true_false e))
