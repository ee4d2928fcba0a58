-- The search for codes, step by step: the next vertex, codes given, and the two answers. Each step says only that no solution
-- is lost; what is found is tested by writing it out. A vertex without a code left ends the search: a solution has a code for
-- it in its set. Assumes nothing.
use Rattle.std.specs.Prelude.{◌≡◌, Bool, true, false, List, ℕ, ◌+◌, ◌≤◌, ◌<◌, leb, length, set, Option, Some, None}
use Rattle.std.specs.Option.{is_some}
use Rattle.std.proofs.Common.{sym, ap, ◌∙◌, subst, arith, below_more, get_or-set_same, get_or-set_other, leb-true, le-leb}
use Rattle.bits.specs.LogicLaws.{true_false, never_both, false_unless}
use Rattle.bits.specs.Digit.{on}
use Rattle.bits.specs.DigitLaws.{on_zero}
use Rattle.bits.specs.CountLaws.{count-drop}
use Rattle.problem.specs.Problem.{item, Hopeless, Told}
use Rattle.holding.specs.Search.{Seeking, uncoded, Empty}

-- ======== the next vertex
pub seeking_start : (codes : List ℕ) → Seeking codes 0 None
seeking_start codes = λ x h. absurd (omega arith)

pub seeking_coded : (codes : List ℕ) (y : ℕ) (best best' : Option ℕ) → item codes y < 64 → best' ≡ best → Seeking codes y best → Seeking codes (y + 1) best'
seeking_coded codes y best best' h e s = subst (Seeking codes (y + 1)) (sym e) (go best s)
  where
    go : (b : Option ℕ) → Seeking codes y b → Seeking codes (y + 1) b
    go None s = below_more (λ (x : ℕ). item codes x < 64) y s h
    go (Some x) s = ((let z = s.0 in omega arith), s.1)

pub seeking_better : (codes : List ℕ) (y : ℕ) (best' : Option ℕ) → 64 ≤ item codes y → best' ≡ Some y → Seeking codes (y + 1) best'
seeking_better codes y best' h e = subst (Seeking codes (y + 1)) (sym e) (omega arith, h)

pub seeking_worse : (codes : List ℕ) (y : ℕ) (best best' : Option ℕ) → is_some best ≡ true → best' ≡ best → Seeking codes y best → Seeking codes (y + 1) best'
seeking_worse codes y best best' some e s = subst (Seeking codes (y + 1)) (sym e) (go best some s)
  where
    go : (b : Option ℕ) → is_some b ≡ true → Seeking codes y b → Seeking codes (y + 1) b
    go None some s = absurd (true_false (sym some))
    go (Some x) some s = ((let z = s.0 in omega arith), s.1)

-- ======== codes given
pub uncoded_less : (codes : List ℕ) (v x c : ℕ) → length codes ≡ 32 → v ≤ 32 → x < v → 64 ≤ item codes x → c < 64 → uncoded (set codes x c) v < uncoded codes v
uncoded_less codes v x c e w h k l = count-drop (λ (y : ℕ). leb 64 (item codes y)) (λ (y : ℕ). leb 64 (item (set codes x c) y)) v x h (le-leb 64 (item codes x) k)
    (false_unless _ (λ t. let z = leb-true 64 (item (set codes x c) x) t in let y = get_or-set_same codes x c 0 (omega arith) in omega arith))
    (λ i ne. ap (leb 64) (get_or-set_other codes x i c 0 ne))

pub empty_hopeless : (cl base ms caps spots : List ℕ) (v j kn val : ℕ) (codes dom : List ℕ) → Empty dom v → Hopeless cl base ms caps spots v j kn val codes dom
empty_hopeless cl base ms caps spots v j kn val codes dom e = record { none = λ g f k d. never_both (k.within e.0 e.1) (ap (λ (n : ℕ). on n (g e.0)) e.2 ∙ on_zero (g e.0)) }

-- the two answers
module _ (cl base ms ps caps spots : List ℕ) (v j kn val : ℕ) (codes dom codes' dom' r : List ℕ) where
  pub told-found : (ok : Bool) → ok ≡ true → Told cl base ms ps caps spots v j kn val codes' dom' ok r → Told cl base ms ps caps spots v j kn val codes dom ok r
  told-found true e t = t
  told-found false e t = absurd (true_false (sym e))

  pub told_lost : (ok : Bool) → ok ≡ false → Told cl base ms ps caps spots v j kn val codes dom ok r → Hopeless cl base ms caps spots v j kn val codes dom
  told_lost true e t = absurd (true_false e)
  told_lost false e t = t
