-- The codes of a vertex tried one after another, where the sets of codes have room for every solution that goes on from the
-- codes given: a code that led to nothing is in no solution, and where none of the codes that a vertex may be asked to take is
-- left, there is none. Assumes nothing.
use Rattle.std.specs.Prelude.{◌≡◌, ℕ, ◌<◌, ◌≤◌, true, List, length, bit_and, slice_set}
use Rattle.std.proofs.Common.{sym, ap, ◌∙◌}
use Rattle.std.proofs.Math.Decide.{ℕ_discrete}
use Rattle.bits.specs.LogicLaws.{and_right, never_both}
use Rattle.bits.specs.Digit.{on}
use Rattle.bits.specs.DigitLaws.{on_and, on_zero}
use Rattle.coding.specs.ValuesLaws.{agrees_less, agrees_more}
use Rattle.holding.specs.BlocksLaws.{on_both}
use Rattle.cells.specs.Sets.{Without}
use Rattle.problem.specs.Problem.{item, Blocks, Solves, Extends, Kept, Fixed, Hopeless}
use Rattle.coding.specs.Known.{Fitting}
use Rattle.coding.specs.Values.{Groups, Marks, Over, Canon, Valued}
use Rattle.coding.specs.Tried.{Covers, Trying}

pub covers_more : (codes : List ℕ) (v x c : ℕ) → length codes ≡ 32 → v ≤ 32 → x < v
    → (cl base ms caps spots : List ℕ) (j kn val : ℕ) (dom d : List ℕ) → 64 ≤ item codes x
    → Kept cl base ms caps spots v j (slice_set codes x c) dom d → Covers cl base ms caps spots v j kn val codes dom
    → Covers cl base ms caps spots v j kn val (slice_set codes x c) d
covers_more codes v x c long few h cl base ms caps spots j kn val dom d u k s = record
    { covers = λ g f a b. (k.keeps g f (record { coded = a; within = s.covers g f (agrees_less codes v x c long few h g u a) b })).within }

-- ======== the codes of a vertex, one after another
module _ (cl base ms caps spots : List ℕ) (v j kn val : ℕ) (codes dom : List ℕ) (x can : ℕ) (h : x < v) where
  pub trying_start : (fit : ℕ) → Fitting kn val x fit → Trying cl base ms caps spots v j kn val codes dom x can (bit_and (bit_and (item dom x) can) fit)
  trying_start fit a = record {
    tried = λ g f e b t. on_both (bit_and (item dom x) can) fit (g x) (on_both (item dom x) can (g x) (e.within x h) t) (a.all (g x) (f.small x h) (b x h));
    digit = λ c l t. a.only c l (and_right (on (bit_and (item dom x) can) c) (on fit c) (sym (on_and (bit_and (item dom x) can) fit c) ∙ t));
  }

  -- code c led to nothing
  pub trying_more : (left c left' : ℕ) (d : List ℕ) → length codes ≡ 32 → v ≤ 32 → Without left c left' → on left c ≡ true
      → Kept cl base ms caps spots v j (slice_set codes x c) dom d → Hopeless cl base ms caps spots v j kn val (slice_set codes x c) d
      → Trying cl base ms caps spots v j kn val codes dom x can left → Trying cl base ms caps spots v j kn val codes dom x can left'
  trying_more left c left' d long few w in_left k bad t = record { tried = λ g f e b i. go g f e b i (ℕ_discrete (g x) c); digit = λ i l y. digit i l y (ℕ_discrete i c) }
    where
      go : (g : ℕ → ℕ) → Solves cl base ms caps spots v j g → Extends codes dom v g → Fixed kn val v g → on can (g x) ≡ true → Dec (g x ≡ c) → on left' (g x) ≡ true
      go g f e b i (no ne) = w.others (g x) (f.small x h) ne ∙ t.tried g f e b i
      go g f e b i (yes q) = absurd (bad.none g f (k.keeps g f (record { coded = agrees_more codes v x c long few h g q e.coded; within = e.within })) b)

      digit : (i : ℕ) → i < 64 → on left' i ≡ true → Dec (i ≡ c) → on kn x ≡ true → on i 0 ≡ on val x
      digit i l y (no ne) = t.digit i l (sym (w.others i l ne) ∙ y)
      digit i l y (yes q) = t.digit i l (ap (on left) q ∙ in_left)

  -- no code is left: a solution would have led to one with a code in can
  pub trying_end : (gb used : List ℕ) (all left : ℕ) → 64 ≤ item codes x → left ≡ 0 → Valued ms gb all j kn codes v used
      → ((gs : List ℕ) (sh : ℕ) → Over sh all → Blocks gs gb 3 → Groups gs sh → Marks gs used → Canon gs used sh 3 can)
      → Covers cl base ms caps spots v j kn val codes dom → Trying cl base ms caps spots v j kn val codes dom x can left
      → Hopeless cl base ms caps spots v j kn val codes dom
  trying_end gb used all left u z w n s t = record {
    none = λ g f e b.
        let r = (n w.gs w.sh w.over w.blocks w.groups w.values.marks).reach cl base ms caps spots codes v j x u w.alike w.values.has g f e.coded h in
        let d : Fixed kn val v r.0 = λ y l k. r.4 (w.alone y l k) y l ∙ b y l k in
        never_both (t.tried r.0 r.1 (record { coded = r.2; within = s.covers r.0 r.1 r.2 d }) d r.3) (ap (λ (m : ℕ). on m (r.0 x)) z ∙ on_zero (r.0 x));
  }
