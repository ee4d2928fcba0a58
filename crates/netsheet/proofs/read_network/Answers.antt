use Rattle.std.proofs.Common.{⊎_elim, arith}
use Rattle.netsheet.specs.WalkLaws.{walk_start, walk_room, walk_open, walk-bad, walk_more, walk_end, refused_at, no_bytes, many_bytes}
use Rattle.netsheet.proofs.read_network.Goals as goal

pub returns-then-t-lt1 : goal.returns-then-t-lt1
returns-then-t-lt1 c = λ d h p o.
    ⊎_elim
    (λ few. refused_at d c.args.t.now 0 (no_bytes d c.args.t.now few))
    (λ many. refused_at d c.args.t.now 0 (many_bytes d c.args.t.now many.1))
    c.then-t-lt1.either

pub loop-at-init : goal.loop-at-init
loop-at-init c = walk_start c.args.t.now c.names_of-names.result c.blank-s.result c.blank-s.ensures (omega arith) (omega arith)

pub returns-then-e-t : goal.returns-then-e-t
returns-then-e-t c = λ d h p o.
    walk_open c.loop-at.invariant c.line_end-e.result c.loop-at-test.true c.line_end-e.ensures c.if-e-t.true d (c.names_of-names.ensures.right d h p) o

pub ask_line-requires : goal.ask_line-requires
ask_line-requires c = (c.names_of-names.ensures.counts, c.loop-at.invariant.safe, walk_room c.loop-at.invariant c.line_end-e.result c.loop-at-test.true c.line_end-e.ensures)

pub returns-in_default : goal.returns-in_default
returns-in_default c = λ d h p o. walk-bad c.loop-at.invariant c.line_end-e.result c.loop-at-test.true c.line_end-e.ensures c.if-e-t.false c.ask_line.result c.ask_line.ensures.1
    c.in_default.is d (c.names_of-names.ensures.right d h p) o

pub loop-at-preserved : goal.loop-at-preserved
loop-at-preserved c =
    walk_more c.loop-at.invariant c.line_end-e.result c.loop-at-test.true c.line_end-e.ensures c.if-e-t.false
    c.ask_line.result c.ask_line.ensures.1 c.in-Some.next c.in-Some.is (rw c.in-Some.is at c.ask_line.ensures.0)

pub returns : goal.returns
returns c = λ d h p o. walk_end c.loop-at.invariant c.loop-at-test.false c.ended.result c.ended.ensures d (c.names_of-names.ensures.right d h p) o
