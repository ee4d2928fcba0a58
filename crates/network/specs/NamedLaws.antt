-- The names of a valid design are names. Assumes nothing.
use Rattle.std.specs.Prelude.{◌≡◌, refl, true, List, [], ◌∷◌, ℕ, suc, ◌<◌, length}
use Rattle.std.proofs.Common.{arith}
use Rattle.bits.specs.LogicLaws.{and_both}
use Rattle.names.specs.Name.{is_name}
use Rattle.names.specs.Names.{all_names}
use Rattle.names.specs.AllNamesLaws.{all_named}
use Rattle.names.specs.StandLaws.{all_stand_among}
use Rattle.sheet.specs.Lines.{Output}
use Rattle.sheet.specs.Examine.{Design, output_names}
use Rattle.sheet.specs.WellFormed.{WellFormed, output_at}
use Rattle.network.specs.NetworkFor.{Named}

outputs_named : (os : List Output)
    → ((o : ℕ) → o < length os → is_name (output_at os o).name ≡ true)
    → all_names (output_names os) ≡ true
unfolding all_names
outputs_named [] h = refl
outputs_named (o ∷ os) h =
    and_both (is_name o.name) (all_names (output_names os))
    (h 0 (omega arith))
    (outputs_named os (λ i l. h (suc i) (omega arith)))

pub design-named : (d : Design) → WellFormed d → Named d
design-named d f =
    record {
      inputs_named = f.inputs_right.named;
      bound-named = all_named d.bound d.inputs f.inputs_right.named (all_stand_among d.bound d.inputs f.bound_right.known);
      outputs_named = outputs_named d.outputs (λ o l. (f.outputs_right.each o l).named);
      some-output = f.some-output;
    }
