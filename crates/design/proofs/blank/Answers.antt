use mathlib.Core.Path.{refl}
use native.Mathlib.Omega.{arith}
use Rattle.design.proofs.blank.Goals as goal

pub returns : goal.returns
returns c = record {
  inputs_counted = refl;
  inputs_few = omega arith;
  inputs_named = refl;
  bound-counted = refl;
  bound_few = omega arith;
  bound_placed = refl;
  limit_is = refl;
  limit_small = omega arith;
  outputs_counted = refl;
  outputs_few = omega arith;
  outputs_named = refl;
  tabled = λ o h. absurd (omega arith);
}
