-- The names of a design that the lines of a network sheet repeat, as the code holds them. Assumes nothing.
use Rattle.std.specs.Prelude.{◌≡◌, map, ◌≤◌, length, take}
use Rattle.limits.specs.Limits.{max_inputs, max_bound, max_outputs}
use Rattle.names.specs.Pack.{name_of}
use Rattle.sheet.specs.Examine.{Design, output_names}
use Rattle.sheet.specs.Known.{Holds}
use Rattle.sheet.specs.declared.Sheet.{Sheet}
use Rattle.classes.specs.Columns.{free}
use Rattle.classes.specs.Proper.{Proper}
use Rattle.netsheet.specs.declared.Named.{Named}

-- the counts of a sheet within their ranges
pub record Ranged (k : Sheet) : Type 0 where
  pub few_inputs : k.inputs ≤ max_inputs
  pub few_bound : k.bounds ≤ max_bound
  pub few_outputs : k.outputs ≤ max_outputs

pub record Counts (k : Named) : Type 0 where
  pub few_bound : k.bounds ≤ max_bound
  pub few_free : k.frees ≤ max_inputs
  pub few_outputs : k.outputs ≤ max_outputs

pub record NamedIs (d : Design) (k : Named) : Type 0 where
  pub bound-named : map name_of (take k.bounds k.bound) ≡ d.bound
  pub bound-counted : k.bounds ≡ length d.bound
  pub free-named : map name_of (take k.frees k.free) ≡ free d.inputs d.bound
  pub outs_named : map name_of (take k.outputs k.outs) ≡ output_names d.outputs
  pub outs_counted : k.outputs ≡ length d.outputs

pub record NamedFor (k : Sheet) (r : Named) : Type 0 where
  pub counts : Counts r
  pub right : (d : Design) → Holds d k → Proper d → NamedIs d r
