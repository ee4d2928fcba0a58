use Rattle.readingsets.specs.ChoiceLaws.{known_or_none}
use Rattle.readingsets.proofs.alive.Goals as goal

pub returns-then-not-possible : goal.returns-then-not-possible
returns-then-not-possible c = (c.requires.6, λ e. c.possible.ensures (c.if-not-possible.true))

pub returns-then-known_bad : goal.returns-then-known_bad
returns-then-known_bad c = let a = c.args in
    let p = a.p in
    let h = c.requires.6 in
    (h, λ e. c.known_bad.ensures a.cl.now a.given.now p.kn p.val p.vertices (known_or_none p.kn) h c.if-known_bad.true)

pub small_questions-requires : goal.small_questions-requires
small_questions-requires c = let q = c.requires in (q.0, q.1, q.2, q.3, q.6)

pub returns : goal.returns
returns c = c.small_questions.ensures
