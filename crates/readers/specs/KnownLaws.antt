-- Why known digits of cell 0 lose no answer. A cell that counts as shared though one output reads it alone is one more cell
-- that the search decides, and a cell in no group is one that is never exchanged. Digits that no output reads tell nothing
-- apart: codes keep what they tell when these are written into them. Vertex 0 has code 0, so a known digit 1 there leaves no
-- codes. Assumes nothing.
use Rattle.std.specs.Prelude.{◌≡◌, refl, Bool, true, false, not, List, ℕ, ◌+◌, ◌-◌, ◌^◌, ◌≤◌, ◌<◌, length, set}
use Rattle.std.proofs.Common.{sym, ap, ◌∙◌, subst, inl, inr, ⊎_elim, arith, length-set, get_or-set_other}
use Rattle.std.proofs.Math.Decide.{ℕ_discrete}
use Rattle.std.specs.Int.Bits.{bit_and, bit_or}
use Rattle.std.proofs.lemmas.Nat.{and_le_l, or_lt}
use Rattle.bits.specs.Logic.{andb, orb}
use Rattle.bits.specs.LogicLaws.{and_left, never_both, false_unless, and_true, and_false}
use Rattle.bits.specs.Digit.{on}
use Rattle.bits.specs.DigitLaws.{on_and, on_or, on_or_one, on_or_none, on_zero, on_single, on_complement}
use Rattle.bits.specs.CountLaws.{less_or_equal}
use Rattle.bits.specs.FilledLaws.{each_more}
use Rattle.coding.specs.KnownLaws.{fitting_any}
use Rattle.cells.specs.SetsLaws.{on_power_other}
use Rattle.cells.specs.PigeonLaws.{agree_and, and_agree}
use Rattle.readers.specs.MasksLaws.{private_read}
use Rattle.cells.specs.Shared.{shared_code}
use Rattle.problem.specs.Problem.{item, Fixed, Knows}
use Rattle.coding.specs.Known.{Fitting}
use Rattle.coding.specs.Values.{Alone}
use Rattle.readers.specs.Masks.{Short, Common, Planned, Start, Decided}
use Rattle.readers.specs.Groups.{Grouping}
use Rattle.readers.specs.Known.{Public, Zero, Asked, Groupable, Fitted, Digit, Wrote}

-- ======== cell 0 is shared
pub public_none : (kn sh : ℕ) → kn ≡ 0 → Public kn sh
public_none kn sh e x t = absurd (never_both (sym (ap (λ (z : ℕ). on z x) e) ∙ t) (on_zero x))

pub public_more : (kn sh : ℕ) → Public kn (bit_or sh 1)
public_more kn sh x t = on_or_one sh 1 0 (on_single 0)

pub common_more : (rows : List ℕ) (j sh : ℕ) → Common rows j sh → Common rows j (bit_or sh 1)
common_more rows j sh c = record {
  two = λ o q i h k ne e f. on_or sh 1 i ∙ ap (λ (b : Bool). orb b (on 1 i)) (c.two o q i h k ne e f);
  low = or_lt 6 sh 1 c.low (omega arith);
}

pub groupable_all : (sh kn : ℕ) → sh < 64 → kn ≡ 0 → Groupable sh kn sh
groupable_all sh kn h e = record { low = h; among = λ i t. t; without = λ x t. absurd (never_both (sym (ap (λ (z : ℕ). on z x) e) ∙ t) (on_zero x)) }

pub groupable_less : (sh kn : ℕ) → sh < 64 → Groupable sh kn (bit_and sh (2 ^ 8 - 1 - 1))
groupable_less sh kn h = record {
  low = (let w = and_le_l sh (2 ^ 8 - 1 - 1) in omega arith);
  among = λ i t. and_left (on sh i) (on (2 ^ 8 - 1 - 1) i) (sym (on_and sh (2 ^ 8 - 1 - 1) i) ∙ t);
  without = λ x t. on_and sh (2 ^ 8 - 1 - 1) 0 ∙ ap (andb (on sh 0)) (on_complement 8 1 0 (omega arith) (omega arith) ∙ ap not (on_single 0)) ∙ and_false (on sh 0);
}

pub grouping_over : (rows gs : List ℕ) (sh r kn j done : ℕ) → Groupable sh kn r → Grouping rows gs r j done → Grouping rows gs sh j done
grouping_over rows gs sh r kn j done a g = record {
  long = g.long;
  groups = record { low = g.groups.low; among = λ k i h t. a.among i (g.groups.among k i h t); disjoint = g.groups.disjoint };
  uniform = g.uniform;
  inside = g.inside;
}

pub grouping_alone : (rows gs : List ℕ) (sh r kn j done : ℕ) → Public kn sh → Groupable sh kn r → Grouping rows gs r j done → (x : ℕ) → on kn x ≡ true → Alone gs sh
grouping_alone rows gs sh r kn j done p a g x t = record {
  shared = p x t;
  outside = λ k h. false_unless (on (item gs k) 0) (λ y. never_both (g.groups.among k 0 h y) (a.without x t));
}

-- ======== the outputs that read cell 0
pub unread_more : (rows : List ℕ) (n : ℕ) → on (item rows n) 0 ≡ false → ((o : ℕ) → o < n → on (item rows o) 0 ≡ false) → (o : ℕ) → o < n + 1 → on (item rows o) 0 ≡ false
unread_more rows n e a o h = ⊎_elim (a o) (λ q. ap (λ (z : ℕ). on (item rows z) 0) q ∙ e) (less_or_equal o n (omega arith))

-- ======== the start
pub fitted_any : (kn val : ℕ) (dom : List ℕ) → kn ≡ 0 → length dom ≡ 32 → ((x : ℕ) → x < 32 → item dom x ≡ 2 ^ 64 - 1) → Fitted kn val 32 dom
fitted_any kn val dom e long all = record {
  long = long;
  fits = λ x h. subst (Fitting kn val x) (sym (all x h)) (fitting_any kn val x (ap (λ (z : ℕ). on z x) e ∙ on_zero x));
}

pub fitted_more : (kn val x : ℕ) (dom : List ℕ) (s : ℕ) → x < 32 → Fitting kn val x s → Fitted kn val x dom → Fitted kn val (x + 1) (set dom x s)
fitted_more kn val x dom s h a f = record {
  long = length-set dom x s ∙ f.long;
  fits = each_more (Fitting kn val) x s dom (let z = f.long in omega arith) a f.fits;
}

pub shared_fixed : (kn val sh v : ℕ) (f : ℕ → ℕ) → Public kn sh → Fixed kn val v f → Fixed kn val v (shared_code sh f)
shared_fixed kn val sh v f p e x h t = on_and (f x) sh 0 ∙ ap (andb (on (f x) 0)) (p x t) ∙ and_true (on (f x) 0) ∙ e x h t

module _ (rows : List ℕ) (sh j : ℕ) (ms ps caps spots : List ℕ) (short : Short rows j) (c : Common rows j sh) (p : Planned rows sh j ms ps caps spots) where
  -- no output has cell 0 for itself
  not_private : (kn x o : ℕ) → Public kn sh → on kn x ≡ true → o < j → on (item ps o) 0 ≡ false
  not_private kn x o k t h = false_unless (on (item ps o) 0) (λ y. never_both (k x t) (private_read rows sh j ms ps caps spots short c p o 0 h y).1)

  pub start_knows : (kn val v : ℕ) (codes dom : List ℕ) → v ≤ 32 → Public kn sh → Zero kn val v → Start kn val codes dom → Knows kn val ps codes v j
  start_knows kn val v codes dom few k z s = record {
    public = λ x o b t h. not_private kn x o k t h;
    given = λ x b t l. given x b t l (ℕ_discrete x 0);
  }
    where
      given : (x : ℕ) → x < v → on kn x ≡ true → item codes x < 64 → Dec (x ≡ 0) → on (item codes x) 0 ≡ on val x
      given x b t l (yes e) = ap (λ (y : ℕ). on (item codes y) 0) e ∙ ap (λ (y : ℕ). on y 0) s.first ∙ on_zero 0 ∙ sym (ap (on val) e ∙ z (omega arith) (ap (on kn) (sym e) ∙ t))
      given x b t l (no ne) = absurd (let e = s.others x (omega arith) ne in omega arith)

-- no cell is shared: no digit is known
pub zeros_knows : (kn val sh v j : ℕ) (ps codes : List ℕ) → sh ≡ 0 → Public kn sh → Knows kn val ps codes v j
zeros_knows kn val sh v j ps codes e k = record { public = λ x o b t h. absurd (none x t); given = λ x b t l. absurd (none x t) }
  where
    none : (x : ℕ) → on kn x ≡ true → ⊥
    none x t = never_both (k x t) (ap (λ (z : ℕ). on z 0) e ∙ on_zero 0)

-- vertex 0 has a known digit 1: it cannot have code 0
pub decided_contrary : (cl : List ℕ) (v j : ℕ) (rows : List ℕ) (kn val : ℕ) (r : List ℕ) → 0 < v → on kn 0 ≡ true → on val 0 ≡ true → Decided cl v j rows kn val false r
decided_contrary cl v j rows kn val r h t e f w b z = never_both (b 0 h t ∙ e) (ap (λ (y : ℕ). on y 0) z ∙ on_zero 0)

-- what is refused with the digits asked for is refused with all that are known
pub decided_asked : (cl : List ℕ) (v j : ℕ) (rows : List ℕ) (k kn val : ℕ) (r : List ℕ) → Asked rows j kn k → Decided cl v j rows k val false r → Decided cl v j rows kn val false r
decided_asked cl v j rows k kn val r (inl e) d = λ f w b z. d f w (λ x h t. b x h (sym (ap (λ (n : ℕ). on n x) e) ∙ t)) z
decided_asked cl v j rows k kn val r (inr a) d = λ f w b z. d f w (λ x h t. absurd (never_both (sym (ap (λ (n : ℕ). on n x) a.0) ∙ t) (on_zero x))) z

-- ======== the end
one_off : (i : ℕ) → (i ≡ 0 → ⊥) → on 1 i ≡ false
one_off i ne = on_power_other 0 i ne

pub digit_unknown : (c : ℕ) (known d : Bool) → known ≡ false → Digit c known d c
digit_unknown c known d e = record { there = λ t. absurd (never_both t e); others = λ i h ne. refl }

pub digit_one : (c : ℕ) (known d : Bool) → d ≡ true → Digit c known d (bit_or c 1)
digit_one c known d e = record { there = λ t. on_or_one c 1 0 (on_single 0) ∙ sym e; others = λ i h ne. on_or_none c 1 i (one_off i ne) }

pub digit_zero : (c : ℕ) (known d : Bool) → d ≡ false → Digit c known d (bit_and c (2 ^ 8 - 1 - 1))
digit_zero c known d e = record {
  there = λ t. on_and c (2 ^ 8 - 1 - 1) 0 ∙ ap (andb (on c 0)) (on_complement 8 1 0 (omega arith) (omega arith) ∙ ap not (on_single 0)) ∙ and_false (on c 0) ∙ sym e;
  others = λ i h ne. on_and c (2 ^ 8 - 1 - 1) i ∙ ap (andb (on c i)) (on_complement 8 1 i (omega arith) (omega arith) ∙ ap not (one_off i ne)) ∙ and_true (on c i);
}

pub wrote-start : (kn val : ℕ) (codes : List ℕ) → length codes ≡ 32 → Wrote kn val codes 0 codes
wrote-start kn val codes e = record { long = e; done = λ x h. absurd (omega arith); rest = λ x h. refl }

pub wrote_more : (kn val : ℕ) (codes : List ℕ) (n : ℕ) (r : List ℕ) (c : ℕ) (known d : Bool) → n < 32 → known ≡ on kn n → d ≡ on val n → Digit (item r n) known d c
    → Wrote kn val codes n r → Wrote kn val codes (n + 1) (set r n c)
wrote_more kn val codes n r c known d h ek ed b w =
    let a = subst (λ (t : Bool). Digit (item r n) t (on val n) c) ek (subst (λ (t : Bool). Digit (item r n) known t c) ed b) in record {
      long = length-set r n c ∙ w.long;
      done = each_more (λ x. Digit (item codes x) (on kn x) (on val x)) n c r (let z = w.long in omega arith)
          (subst (λ (z : ℕ). Digit z (on kn n) (on val n) c) (w.rest n (omega arith)) a) w.done;
      rest = λ x b. get_or-set_other r n x c 0 (λ q. let z : x ≡ n = q in omega arith) ∙ w.rest x (omega arith);
    }

-- nobody reads cell 0
module _ (cl : List ℕ) (v j : ℕ) (rows : List ℕ) (kn val : ℕ) (codes r : List ℕ) (short : Short rows j) where
  pub decided_written : (k : ℕ) → (k ≡ kn → ⊥) → Asked rows j kn k → Wrote kn val codes v r → (ok : Bool) → Decided cl v j rows k val ok codes → Decided cl v j rows kn val ok r
  decided_written k ne (inl e) w ok d = absurd (ne e)
  decided_written k ne (inr a) w true d = (record { tells = λ o x y h b c q e. d.0.tells o x y h b c q (same o x y h b c e) }, λ x h t. (w.done x h).there t)
    where
      digit : (o x i : ℕ) → o < j → x < v → i < 6 → on (item rows o) i ≡ true → on (item r x) i ≡ on (item codes x) i
      digit o x i h b l t = (w.done x b).others i l (λ e. never_both t (ap (on (item rows o)) e ∙ a.1 o h))

      same : (o x y : ℕ) → o < j → x < v → y < v → bit_and (item r x) (item rows o) ≡ bit_and (item r y) (item rows o) → bit_and (item codes x) (item rows o) ≡ bit_and (item codes y) (item rows o)
      same o x y h b c e = agree_and 6 (item rows o) (item codes x) (item codes y) (short o h)
          (λ i l t. sym (digit o x i h b l t) ∙ and_agree 6 (item rows o) (item r x) (item r y) e i l t ∙ digit o y i h c l t)
  decided_written k ne (inr a) w false d = decided_asked cl v j rows k kn val r (inr a) d
