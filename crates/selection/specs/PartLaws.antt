-- The design with some of its outputs: its bound names are the design's, its outputs are those of the set, and with all of them it is
-- the design. Assumes nothing.
use Rattle.std.specs.Prelude.{◌≡◌, refl, List, ℕ, ◌-◌, ◌^◌, ◌<◌, length}
use Rattle.std.proofs.Common.{ap}
use Rattle.sheet.specs.Lines.{Output}
use Rattle.sheet.specs.Examine.{Design}
use Rattle.sheet.specs.WellFormed.{output_at}
use Rattle.subsets.specs.Subset.{size, member_at}
use Rattle.subsets.specs.SubsetLaws.{selected-length, selected_at, all-selected}
use Rattle.selection.specs.Selection.{part}

pub part-bound : (s : ℕ) (d : Design) → (part s d).bound ≡ d.bound
unfolding part
part-bound s d = refl

pub part_count : (s : ℕ) (d : Design) → length (part s d).outputs ≡ size (length d.outputs) s
unfolding part
part_count s d = selected-length s d.outputs

pub part-output : (s : ℕ) (d : Design) (j : ℕ)
    → j < size (length d.outputs) s
    → output_at (part s d).outputs j ≡ output_at d.outputs (member_at (length d.outputs) s j)
unfolding part
part-output s d j h = selected_at s d.outputs j _ h

pub part_all : (d : Design) → part (2 ^ length d.outputs - 1) d ≡ d
unfolding part
part_all d =
    let with_outputs : List Output → Design
    = λ os. record { inputs = d.inputs; bound = d.bound; limit = d.limit; outputs = os } in
    ap with_outputs (all-selected d.outputs)
