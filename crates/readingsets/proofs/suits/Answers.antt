use Rattle.std.proofs.Common.{ℕ, eqb, sym, subst, ne_eqb}
use Rattle.readingsets.specs.Choice.{Suits, disorder}
use Rattle.readingsets.specs.ChoiceLaws.{suits_count, suits_not}
use lib.Count.{ones}
use Rattle.bits.specs.CountLaws.{ones-count}
use Rattle.readingsets.proofs.suits.Goals as goal

pub returns-then-row-want : goal.returns-then-row-want
returns-then-row-want c = let a = c.args in
    let f = c.open_of-f in
    subst (λ (f : ℕ). Suits a.row a.want a.same (eqb (disorder f a.same) 0)) (sym f.ensures.0)
    (suits_count a.row a.want a.same (ones a.row) c.if-row-want.true (ones-count 16 a.row c.ranges.row.fits))

pub returns-else-row-want : goal.returns-else-row-want
returns-else-row-want c = let a = c.args in
    let other = c.if-row-want.false in
    subst (Suits a.row a.want a.same) (sym (ne_eqb (ones a.row) a.want other)) (suits_not a.row a.want a.same (ones a.row) other (ones-count 16 a.row c.ranges.row.fits))
