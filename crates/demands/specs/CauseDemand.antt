-- What the cause of a refusal by 8 promises, in bytes (clause 14.6): the sheet that has only the `out` lines of the cause is refused
-- by 8, and the sheet of every smaller set that has an output, and of every earlier set of the same number, maps. Assumes nothing.
use Rattle.std.specs.Prelude.{◌≡◌, List, ℕ, ◌≤◌, ◌<◌, length}
use Rattle.limits.specs.Limits.{max_network}
use Rattle.sheet.specs.Examine.{Design, valid, examine}
use Rattle.subsets.specs.Subset.{size, SomeOf, Earlier}
use Rattle.selection.specs.Selection.{part, only_outs}
use Rattle.mapper.specs.Map.{MapAnswer, refused_by, mapped, Outcome}
use Rattle.mapper.specs.Cause.{CauseAnswer, no_cause, outputs_of}

-- Map refuses the sheet t by 8, whatever the buffer
pub record RefusedBy8 (t : List ℕ) : Type 0 where
  pub answers : (b : List ℕ) (a : MapAnswer) (b' : List ℕ) → Outcome t b a b' → a ≡ refused_by 8 0

-- 8 does not refuse the sheet t
abbrev pub NotBy8 : List ℕ → Type 0
NotBy8 t = (b : List ℕ) (a : MapAnswer) (b' : List ℕ) → Outcome t b a b' → a ≡ refused_by 8 0 → ⊥

-- 8 does not refuse it, and with a long buffer it maps
pub record MapsLong (t : List ℕ) : Type 0 where
  pub not_by_8 : NotBy8 t
  pub maps : (b : List ℕ) (a : MapAnswer) (b' : List ℕ)
      → Outcome t b a b'
      → max_network ≤ length b
      → (u : ℕ) × (n : ℕ) × (a ≡ mapped u n)

-- the sheet t says the design d; alone, the outputs of the set s are refused by 8
pub record RefusedAlone (t : List ℕ) (d : Design) (s : ℕ) : Type 0 where
  pub is_valid : examine (only_outs s (length d.outputs) t) ≡ valid (part s d)
  pub by_8 : RefusedBy8 (only_outs s (length d.outputs) t)

-- and they map
pub record MapsAlone (t : List ℕ) (d : Design) (s : ℕ) : Type 0 where
  pub is_valid : examine (only_outs s (length d.outputs) t) ≡ valid (part s d)
  pub maps_long : MapsLong (only_outs s (length d.outputs) t)

-- what is promised of the set s for the sheet t, which says the design d
pub record CauseDemand (t : List ℕ) (d : Design) (s : ℕ) : Type 0 where
  pub refused_together : RefusedBy8 t
  pub refused_alone : RefusedAlone t d s
  pub smaller_maps : (u : ℕ) → SomeOf (length d.outputs) u → size (length d.outputs) u < size (length d.outputs) s → MapsAlone t d u
  pub earlier_maps : (u : ℕ)
      → SomeOf (length d.outputs) u
      → size (length d.outputs) u ≡ size (length d.outputs) s
      → Earlier u s
      → MapsAlone t d u

-- and of every answer: none is named exactly where 8 does not refuse the sheet
pub record CauseTrue (t : List ℕ) (c : CauseAnswer) : Type 0 where
  pub none : c ≡ no_cause → NotBy8 t
  pub named : (s : ℕ) → c ≡ outputs_of s → (d : Design) × (examine t ≡ valid d) × CauseDemand t d s
