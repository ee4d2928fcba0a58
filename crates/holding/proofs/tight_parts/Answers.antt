use Rattle.holding.specs.WantsLaws.{tight_start}
use Rattle.holding.proofs.tight_parts.Goals as goal

pub loop-p-init : goal.loop-p-init
loop-p-init c = tight_start c.args.ts.now c.args.spot
