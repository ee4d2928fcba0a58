-- `free_names`: each turn looks one name up among those left out, and adds it where it is none of them. Assumes nothing.
use mathlib.Core.List.{map}
use lib.ListN.{take}
use Rattle.names.specs.Pack.{name_of}
use Rattle.network.specs.FreeNameLaws.{Freeing}
use Rattle.network.specs.Shown.{shown}
use Rattle.network.proofs.free_names.Given as goal

abbrev pub invariant-loop-i : goal.invariant-loop-i
invariant-loop-i l = Freeing l.names (map name_of (take l.bs.count l.bs.list)) l.n l.i l.r.count (shown l.r)
