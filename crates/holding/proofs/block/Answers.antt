use Rattle.holding.specs.BlocksLaws.{spans_block}
use Rattle.holding.proofs.block.Goals as goal

pub returns : goal.returns
returns c = let args = c.args in
    spans_block args.mask args.c c.single.result c.spread.result c.requires c.single.ensures c.spread.ensures
