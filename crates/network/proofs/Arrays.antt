-- How long the array of a row of names is: what a function is told of a row that it owns says so. Assumes nothing.
use mathlib.Core.Path.{◌≡◌}
use mathlib.Core.List.{List}
use lib.ListN.{length}
use mir.Val.{Val}
use denote.Laws.{Is}
use Rattle.network.specs.Shown.{max_names}
use Rattle.network.specs.declared.Names.{Names}
use Rattle.network.specs.contracts.Names as names

pub list_sized : (n : Names) {vs : List Val} → Is names.the_row n vs → length n.list ≡ max_names
list_sized n g = g.1.1.1.0.1.0.1
