-- All that Table and Check compute with, named once: under `unfolding computing` the answer for given sheets is computed.
-- What stands here says nothing by itself. Assumes nothing.
use Rattle.design.specs.Computing as tables
use Rattle.network.specs.Computing as checks

unfoldable pub computing : Unit {0}
unfolding tables.computing checks.computing
computing = tt
