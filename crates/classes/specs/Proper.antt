-- What a valid design says of its names: how many there are, that none stands twice, and that the bound ones are inputs.
-- Assumes nothing.
use Rattle.std.specs.Prelude.{◌≡◌, true, List, ◌≤◌, length}
use Rattle.limits.specs.Limits.{max_inputs, max_bound}
use Rattle.names.specs.Name.{Name, distinct}
use Rattle.names.specs.Spelled.{all_stand_in}
use Rattle.sheet.specs.Examine.{Design}

-- bound inputs bs among the inputs ns, letter for letter
pub record Parted (ns bs : List Name) : Type 0 where
  pub inputs_distinct : distinct ns ≡ true
  pub bound-distinct : distinct bs ≡ true
  pub bound_inputs : all_stand_in bs ns ≡ true

pub record Proper (d : Design) : Type 0 where
  pub some_inputs : 1 ≤ length d.inputs
  pub few_inputs : length d.inputs ≤ max_inputs
  pub some-bound : 1 ≤ length d.bound
  pub few_bound : length d.bound ≤ max_bound
  pub parted : Parted d.inputs d.bound
