-- The cause of a refusal by 8 (clause 11.6): the fewest outputs that 8 refuses by themselves, the limit being the same. Sets are
-- numbers, output o being in the set whose digit o is 1. Assumes nothing.
use Rattle.std.specs.Prelude.{◌≡◌, ℕ, ◌≤◌, ◌<◌, length, List}
use Rattle.limits.specs.Limits.{max_classes}
use Rattle.sheet.specs.Examine.{Design, Examined, refused, valid, examine}
use Rattle.classes.specs.Classes.{global_count}
use Rattle.network.specs.Network.{Network}
use Rattle.network.specs.NetworkFor.{NetworkFor}
use Rattle.network.specs.Answers.{WithinLimits, Computes}
use Rattle.subsets.specs.Subset.{size, SomeOf, Earlier}
use Rattle.selection.specs.Selection.{part}

-- some network within the limit and the widths has the design's value on every row
pub record Served (d : Design) : Type 0 where
  pub network : Network
  pub wellformed : NetworkFor d network
  pub within : WithinLimits d network
  pub computes : Computes d network

-- the outputs of the set s are the cause: no network serves them, and one serves every smaller set but the empty one, and every
-- earlier set of the same number
pub record Cause (d : Design) (s : ℕ) : Type 0 where
  pub outputs : SomeOf (length d.outputs) s
  pub unserved : Served (part s d) → ⊥
  pub smaller : (t : ℕ) → SomeOf (length d.outputs) t → size (length d.outputs) t < size (length d.outputs) s → Served (part t d)
  pub earlier : (t : ℕ)
      → SomeOf (length d.outputs) t
      → size (length d.outputs) t ≡ size (length d.outputs) s
      → Earlier t s
      → Served (part t d)

-- what is answered: no cause, or the set
pub data CauseAnswer : Type 0 where
  no_cause : CauseAnswer
  outputs_of : ℕ → CauseAnswer

-- the cause on a design: there is one exactly where Map refuses it by 8
pub data CauseFor (d : Design) : CauseAnswer → Type 0 where
  too_many_classes : max_classes < global_count d d.bound → CauseFor d no_cause
  mapped : global_count d d.bound ≤ max_classes → Served d → CauseFor d no_cause
  refused_by_8 : (s : ℕ) → global_count d d.bound ≤ max_classes → (Served d → ⊥) → Cause d s → CauseFor d (outputs_of s)

-- the cause on what an examination answers
abbrev pub CauseOf : Examined → CauseAnswer → Type 0
CauseOf (refused q l) a = a ≡ no_cause
CauseOf (valid d) a = CauseFor d a

-- and on the sheet t
abbrev pub CauseIs : List ℕ → CauseAnswer → Type 0
CauseIs t a = CauseOf (examine t) a
