use Rattle.std.proofs.Common.{◌≡◌, refl, arith, List, map, ℕ, ◌++◌, ◌∙◌, ap, take, take_all, length, length-take-le}
use Rattle.names.specs.Pack.{name_of}
use Rattle.network.specs.Shown.{shown}
use Rattle.network.specs.ShownLaws.{growing_none, growing_more, growing_all}
use Rattle.netnames.proofs.joined.Goals as goal

pub loop-v-init : goal.loop-v-init
loop-v-init c = (growing_none refl, omega arith)

pub loop-v-preserved : goal.loop-v-preserved
loop-v-preserved c = (growing_more c.loop-v.invariant.0 (omega arith) (omega arith) c.pushed-r.ensures.0 refl, omega arith)

pub returns : goal.returns
returns c =
    let vs = take c.args.b.count c.args.b.list in
    let all : length vs ≡ c.args.b.count = length-take-le c.args.b.count c.args.b.list (omega arith) in
    let grown = growing_all c.loop-v.invariant.0 (omega arith) in (
      grown ∙ ap (λ (l : List ℕ). shown c.args.a ++ map name_of l) (take_all (length vs) vs (omega arith)),
      omega arith,
    )
