use Rattle.std.proofs.Common.{sym, ◌∙◌, arith}
use Rattle.classes.proofs.Search.{unlike_none, unlike_more, like-found, like_itself}
use Rattle.classes.proofs.first_like.Goals as goal

pub loop-y-init : goal.loop-y-init
loop-y-init g c = λ r told. unlike_none

pub returns-then-same : goal.returns-then-same
returns-then-same g c = record {
  below = omega arith;
  first = λ r told. like-found (c.loop-y.invariant r told) (omega arith) (sym (told c.loop-y.y c.same.result (omega arith) c.same.ensures) ∙ c.if-same.true);
}

pub loop-y-preserved : goal.loop-y-preserved
loop-y-preserved g c = λ r told.
    unlike_more (c.loop-y.invariant r told) (omega arith) (sym (told c.loop-y.y c.same.result (omega arith) c.same.ensures) ∙ c.if-same.false)

pub returns : goal.returns
returns g c = record { below = tt; first = λ r told. like_itself (c.loop-y.invariant r told) (omega arith) }
