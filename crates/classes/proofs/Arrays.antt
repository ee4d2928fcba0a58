-- How long the bound inputs' array of a sheet is: what a function is told of a sheet that it owns says so. Assumes nothing.
use mathlib.Core.Path.{◌≡◌}
use mathlib.Core.List.{List}
use lib.ListN.{length}
use mir.Val.{Val}
use denote.Laws.{Is}
use Rattle.limits.specs.Limits.{max_bound}
use Rattle.sheet.specs.declared.Sheet.{Sheet}
use Rattle.sheet.specs.contracts.Sheet as sheet

pub bound-sized : (k : Sheet) {vs : List Val} → Is sheet.the_row k vs → length k.bound ≡ max_bound
bound-sized k g = g.1.1.1.1.1.0.1.0.1
