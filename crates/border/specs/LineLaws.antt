-- Reading a line and beginning the search: a label more is below the number of vertices; with digit 0 taken off a number vertex 0 is
-- known to be 0; and a search that may begin with so many cells may begin with one more. Assumes nothing.
use Rattle.std.specs.Prelude.{◌≡◌, ℕ, ◌+◌, ◌-◌, ◌^◌, ◌<◌, false, not, ◌⊎◌, List, bit_and, slice_set}
use Rattle.std.proofs.Common.{ap, ◌∙◌, inl, inr, arith, length-set}
use Rattle.bits.specs.Logic.{andb}
use Rattle.bits.specs.Digit.{on}
use Rattle.bits.specs.DigitLaws.{on_and, on_single, on_complement}
use Rattle.bits.specs.LogicLaws.{and_false}
use Rattle.bits.specs.FilledLaws.{each_more}
use Rattle.seeking.specs.Seeking.{Begins}
use Rattle.border.specs.Line.{ZeroFirst, Low}

pub low_more : (i x : ℕ) (cl : List ℕ) → i < 256 → x < 32 → Low i cl → Low (i + 1) (slice_set cl i x)
low_more i x cl h l s = record {
  long = length-set cl i x ∙ s.long;
  below = each_more (λ k z. z < 32) i x cl (let z = s.long in omega arith) l s.below;
}

-- without its digit 0 a number has none
pub off_first : (n : ℕ) → on (bit_and n (2 ^ 32 - 1 - 1)) 0 ≡ false
off_first n = on_and n (2 ^ 32 - 1 - 1) 0 ∙ ap (andb (on n 0)) (on_complement 32 1 0 (omega arith) (omega arith) ∙ ap not (on_single 0)) ∙ and_false (on n 0)

-- with one cell, or none where nothing is known, the search may begin, and so with one more
pub begins : (kn val u : ℕ) → (kn ≡ 0) ⊎ (u ≡ 1) → ZeroFirst kn val → Begins kn val u
begins kn val u (inl e) z = inl e
begins kn val u (inr e) (inl k) = inl k
begins kn val u (inr e) (inr q) = inr (omega arith, q.0, q.1)

pub begins_more : (kn val u : ℕ) → Begins kn val u → Begins kn val (u + 1)
begins_more kn val u (inl e) = inl e
begins_more kn val u (inr q) = let h = q.0 in inr (omega arith, q.1, q.2)
