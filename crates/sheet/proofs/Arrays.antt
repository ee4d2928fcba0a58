-- How long the arrays of a sheet are: what a function is told of a sheet that it owns says so of each. Assumes nothing.
use Rattle.std.proofs.Common.{◌≡◌, List, length}
use mir.Val.{Val}
use denote.Laws.{Is}
use Rattle.limits.specs.Limits.{max_inputs, max_bound, max_outputs}
use Rattle.sheet.specs.declared.Sheet.{Sheet}
use Rattle.sheet.specs.contracts.Sheet as sheet

module _ (k : Sheet) {vs : List Val} (g : Is sheet.the_row k vs) where
  pub names_sized : length k.names ≡ max_inputs
  names_sized = g.1.1.1.0.1.0.1

  pub bound-sized : length k.bound ≡ max_bound
  bound-sized = g.1.1.1.1.1.0.1.0.1

  pub outs_sized : length k.outs ≡ max_outputs
  outs_sized = g.1.1.1.1.1.1.1.1.0.1.0.1

  pub tables_sized : length k.tables ≡ max_outputs
  tables_sized = g.1.1.1.1.1.1.1.1.1.0.1.0.1
