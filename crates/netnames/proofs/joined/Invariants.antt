-- `joined`: each turn adds one name of the second row. Assumes nothing.
use Rattle.std.proofs.Common.{◌≡◌, ◌+◌, length}
use Rattle.names.specs.Pack.{name_of}
use Rattle.network.specs.ShownLaws.{Growing}
use Rattle.network.specs.Shown.{shown}
use Rattle.netnames.proofs.joined.Given as goal

abbrev pub invariant-loop-v : goal.invariant-loop-v
invariant-loop-v l = Growing name_of (shown l.initial.r) l.v-items (length l.v-items) l.v-index (shown l.r) × (l.r.count ≡ l.initial.r.count + l.v-index)
