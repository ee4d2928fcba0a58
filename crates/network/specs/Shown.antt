-- Names in a row, as the code holds them: how many, and the numbers that hold them. Assumes nothing.
use Rattle.std.specs.Prelude.{List, map, ℕ, ◌+◌, get_or, take}
use Rattle.limits.specs.Limits.{max_inputs, max_cells}
use Rattle.names.specs.Name.{Name}
use Rattle.names.specs.Pack.{name_of}
use Rattle.network.specs.declared.Names.{Names}

-- the most names of a list: a node lists the shared tables that it reads, then the free inputs
abbrev pub max_names : ℕ
max_names = max_cells + max_inputs

-- what stands at a place of an array
abbrev pub item : List ℕ → ℕ → ℕ
item l i = get_or l i 0

-- the names in a row
abbrev pub shown : Names → List Name
shown n = map name_of (take n.count n.list)
