use Rattle.std.proofs.Common.{◌∙◌, arith, rules}
use Rattle.classes.specs.ClassLaws.{same_key_lem}
use Rattle.classes.specs.Seen.{same_key}
use Rattle.classes.proofs.global_classes.Goals as goal

pub returns : goal.returns
returns c =
    let n = c.numbered-n.ensures (same_key c.args.keys.now) (same_key_lem c.args.keys.now) (λ y x b h k p. search rules) in
    record { counted = n.counted; classes = λ x h. (let m = c.map.ensures.items.at x 0 (record { 0 = 0 }) (omega arith) in search rules) ∙ n.classes x h }
