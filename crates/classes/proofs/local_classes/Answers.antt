use Rattle.std.proofs.Common.{◌∙◌, length, arith, rules}
use Rattle.classes.specs.ColumnLaws.{same-column}
use Rattle.classes.specs.Seen.{seen, alike_seen}
use Rattle.classes.proofs.local_classes.Goals as goal

pub returns : goal.returns
returns c =
    let a = c.args in
    let n = c.numbered-n.ensures (alike_seen a.t.now a.vertex.now a.free.now) (same-column (seen a.t.now a.vertex.now a.free.now) (length a.free.now))
    (λ y x b h k p. search rules) in
    record { counted = n.counted; classes = λ x h. (let m = c.map.ensures.items.at x 0 (record { 0 = 0 }) (omega arith) in search rules) ∙ n.classes x h }
