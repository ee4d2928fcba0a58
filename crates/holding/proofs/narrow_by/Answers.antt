use mathlib.Core.Path.{refl}
use Rattle.bits.specs.LogicLaws.{true_false}
use Rattle.holding.specs.ReachLaws.{settled_no_room}
use Rattle.holding.specs.NarrowLaws.{settled_tight, kept-start}
use Rattle.holding.proofs.narrow_by.Goals as goal

pub returns-then-no_room : goal.returns-then-no_room
returns-then-no_room c = let args = c.args in
    let pre = c.requires in
    let p = args.p in
    let none = settled_no_room args.cl.now args.base.now p.ms _ _ p.vertices p.outputs args.o _ _ _ _ pre.0 pre.3 pre.4 pre.5 pre.8
    args.n.wants args.meet.now args.bs.now pre.9 (λ k l. pre.2.each args.o k pre.5 l) (c.no_room.ensures c.if-no_room.true) in
    (kept-start args.cl.now args.base.now p.ms _ _ p.vertices p.outputs _ _, pre.7, λ e. none)

pub returns : goal.returns
returns c = let args = c.args in
    let pre = c.requires in
    let p = args.p in
    let n = c.narrow.ensures in
    let kept = settled_tight args.cl.now args.base.now p.ms _ _ p.vertices p.outputs args.o _ _ _ _ pre.0 pre.3 pre.4 pre.5 pre.8
    args.n.wants args.meet.now _ _ c.busiest-b.result.tight pre.9 c.busiest-b.ensures.1 refl n in
    (kept, n.long, λ e. absurd (true_false e))
