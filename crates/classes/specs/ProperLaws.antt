-- A valid design is proper. Assumes nothing.
use Rattle.sheet.specs.Examine.{Design}
use Rattle.sheet.specs.WellFormed.{WellFormed}
use Rattle.classes.specs.Proper.{Proper}

pub proper_of : (d : Design) → WellFormed d → Proper d
proper_of d w =
    record {
      some_inputs = w.inputs_right.filled;
      few_inputs = w.inputs_right.few;
      some-bound = w.bound_right.filled;
      few_bound = w.bound_right.few;
      parted = record { inputs_distinct = w.inputs_right.once; bound-distinct = w.bound_right.once; bound_inputs = w.bound_right.known };
    }
