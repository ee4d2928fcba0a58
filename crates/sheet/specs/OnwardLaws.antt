-- A line that passes its questions: the sheet that the code goes on with holds what is known then. Assumes nothing.
use Rattle.std.specs.Prelude.{refl}
use Rattle.sheet.specs.Examine.{Design}
use Rattle.sheet.specs.Known.{Holds, Onward, place_of}
use Rattle.sheet.specs.declared.Place.{Place}
use Rattle.sheet.specs.declared.Sheet.{Sheet}
use Rattle.sheet.specs.declared.Step.{Step}

-- the code's step to the place p with the sheet k
abbrev pub step_to : Place → Sheet → Step
step_to p k = record { place = p; sheet = k }

pub passed_onward : {p : Place} {k : Sheet} {d : Design} → Holds d k → Onward (place_of p) d (step_to p k)
passed_onward h = record { placed = refl; holds = h }
