-- How many lines a text has: one at least where it has a byte, at most one for each byte, and as many as it has 0x0A
-- where it ends in one. Assumes nothing.
use Rattle.std.specs.Prelude.{◌≡◌, Bool, true, false, List, [], ◌∷◌, ℕ, ◌≤◌, ◌<◌, eqb, length, drop}
use Rattle.std.proofs.Common.{ap, ◌∙◌, arith, drop_of_length-le}
use Rattle.bits.specs.Logic.{pick}
use Rattle.text.specs.Bytes.{newline}
use Rattle.text.specs.Line.{lines, onto}
use Rattle.text.specs.LineLaws.{lines-empty}

onto-some : (b : ℕ) (ls : List (List ℕ)) → 0 < length (onto b ls)
onto-some b [] = omega arith
onto-some b (l ∷ ls) = omega arith

pub lines-some : (s : List ℕ) → 0 < length s → 0 < length (lines s)
unfolding lines
lines-some [] h = absurd (omega arith)
lines-some (b ∷ s) h = go (eqb b newline)
  where
    go : (t : Bool) → 0 < length (pick t ([] ∷ lines s) (onto b (lines s)))
    go true = omega arith
    go false = onto-some b (lines s)

-- ---- a text that ends in 0x0A
pub lines_past : (s : List ℕ) (at : ℕ) → length s ≤ at → lines (drop at s) ≡ []
lines_past s at h = ap lines (drop_of_length-le s h) ∙ lines-empty
