-- Groups are found one after another: a set of shared cells becomes a group where each output is seen to read it whole or not
-- at all, and where none of its cells is in a group before. A group that is missed costs time and no answer. At the start
-- vertex 0 has code 0, so of each group value 0 is in use. Assumes nothing.
use Rattle.std.specs.Prelude.{◌≡◌, refl, Bool, true, false, List, [], ◌∷◌, ℕ, zero, suc, ◌+◌, ◌≤◌, ◌<◌, eqb, set}
use Rattle.std.proofs.Common.{sym, ap, ap₂, ◌∙◌, subst, inr, ⊎_elim, arith, length-set, get_or-set_same, get_or-set_other, eq-eqb}
use Rattle.std.proofs.Math.Decide.{ℕ_discrete}
use Rattle.std.specs.Int.Bits.{bit_and, bit_or}
use Rattle.std.proofs.lemmas.Nat.{and_le_r}
use Rattle.bits.specs.Logic.{andb, orb}
use Rattle.bits.specs.LogicLaws.{and_right, never_both, false_unless, or_true}
use Rattle.bits.specs.Digit.{on}
use Rattle.bits.specs.DigitLaws.{on_and, on_or, on_zero}
use Rattle.bits.specs.CountLaws.{less_or_equal}
use Rattle.cells.specs.ListLaws.{zeros_are}
use Rattle.cells.specs.Lists.{zeros}
use Rattle.problem.specs.Problem.{item, Blocks}
use Rattle.coding.specs.Exchange.{Uniform}
use Rattle.coding.specs.Values.{Over, Alone, Marked, Valued}
use Rattle.readers.specs.Masks.{Start}
use Rattle.readers.specs.Groups.{Grouping}

pub uniform_more : (rows : List ℕ) (g n : ℕ) → Uniform (item rows n) g → ((o : ℕ) → o < n → Uniform (item rows o) g) → (o : ℕ) → o < n + 1 → Uniform (item rows o) g
uniform_more rows g n e a o h = ⊎_elim (a o) (λ q. subst (λ (o : ℕ). Uniform (item rows o) g) (sym q) e) (less_or_equal o n (omega arith))

no_cell : (i : ℕ) → on 0 i ≡ true → ⊥
no_cell i t = never_both t (on_zero i)

pub grouping_start : (rows : List ℕ) (sh j : ℕ) → Grouping rows (zeros 8) sh j 0
grouping_start rows sh j = record {
  long = refl;
  groups = record {
    low = λ k h. let e = zeros_are 8 k in omega arith;
    among = λ k i h t. absurd (empty k i h t);
    disjoint = λ k l i h m ne t. absurd (empty k i h t);
  };
  uniform = λ k o h l. inr (ap (bit_and (item rows o)) (zeros_are 8 k) ∙ (let w = and_le_r (item rows o) 0 in let r : bit_and (item rows o) 0 ≡ 0 = omega arith in r));
  inside = λ k i h t. absurd (empty k i h t);
}
  where
    empty : (k i : ℕ) → k < 3 → on (item (zeros 8) k) i ≡ true → ⊥
    empty k i h t = no_cell i (sym (ap (λ (z : ℕ). on z i) (zeros_are 8 k)) ∙ t)

pub grouping_same : (rows gs gs' : List ℕ) (sh j done done' : ℕ) → gs' ≡ gs → done' ≡ done → Grouping rows gs sh j done → Grouping rows gs' sh j done'
grouping_same rows gs gs' sh j done done' a b s = subst (λ (z : List ℕ). Grouping rows z sh j done') (sym a) (subst (λ (z : ℕ). Grouping rows gs sh j z) (sym b) s)

-- g has cells of sh that are not in done
module _ (rows gs : List ℕ) (sh j done n g c : ℕ) (h : n < 3) (low : sh < 64) (is : g ≡ bit_and c sh) (apart : bit_and g done ≡ 0) (whole : (o : ℕ) → o < j → Uniform (item rows o) g)
    (s : Grouping rows gs sh j done) where
  here : item (set gs n g) n ≡ g
  here = get_or-set_same gs n g 0 (let z = s.long in omega arith)

  there : (k : ℕ) → (k ≡ n → ⊥) → item (set gs n g) k ≡ item gs k
  there k ne = get_or-set_other gs n k g 0 ne

  -- what holds of g and of the groups so far holds of all
  each : (P : ℕ → ℕ → Type 0) → P n g → ((k : ℕ) → k < 3 → P k (item gs k)) → (k : ℕ) → k < 3 → P k (item (set gs n g) k)
  each P a b k l = go (ℕ_discrete k n)
    where
      go : Dec (k ≡ n) → P k (item (set gs n g) k)
      go (yes e) = subst (λ (z : ℕ). P z (item (set gs n g) z)) (sym e) (subst (P n) (sym here) a)
      go (no ne) = subst (P k) (sym (there k ne)) (b k l)

  in_or_l : (i : ℕ) → on done i ≡ true → on (bit_or done g) i ≡ true
  in_or_l i e = on_or done g i ∙ ap (λ (x : Bool). orb x (on g i)) e

  in_or_r : (i : ℕ) → on g i ≡ true → on (bit_or done g) i ≡ true
  in_or_r i e = on_or done g i ∙ ap (orb (on done i)) e ∙ or_true (on done i)

  fresh_cell : (i : ℕ) → on g i ≡ true → on done i ≡ false
  fresh_cell i e = false_unless (on done i) (λ t. no_cell i (sym (ap (λ (z : ℕ). on z i) apart) ∙ on_and g done i ∙ ap₂ andb e t))

  pub grouping_more : Grouping rows (set gs n g) sh j (bit_or done g)
  grouping_more = record {
    long = length-set gs n g ∙ s.long;
    groups = record {
      low = each (λ (k x : ℕ). x < 64) (let w = and_le_r c sh in omega arith) s.groups.low;
      among = λ k i l. each (λ (k x : ℕ). on x i ≡ true → on sh i ≡ true) (λ t. and_right (on c i) (on sh i) (sym (on_and c sh i) ∙ ap (λ (z : ℕ). on z i) (sym is) ∙ t))
          (λ k m t. s.groups.among k i m t) k l;
      disjoint = λ k l i p q ne. disjoint k l i p q ne (ℕ_discrete k n) (ℕ_discrete l n);
    };
    uniform = λ k o l b. each (λ (k x : ℕ). Uniform (item rows o) x) (whole o b) (λ k m. s.uniform k o m b) k l;
    inside = λ k i l. each (λ (k x : ℕ). on x i ≡ true → on (bit_or done g) i ≡ true) (in_or_r i) (λ k m t. in_or_l i (s.inside k i m t)) k l;
  }
    where
      S : ℕ → ℕ → Type 0
      S k i = on (item (set gs n g) k) i ≡ true

      disjoint : (k l i : ℕ) → k < 3 → l < 3 → (k ≡ l → ⊥) → Dec (k ≡ n) → Dec (l ≡ n) → S k i → on (item (set gs n g) l) i ≡ false
      disjoint k l i p q ne (yes a) (yes b) t = absurd (ne (a ∙ sym b))
      disjoint k l i p q ne (yes a) (no b) t =
          let w : on g i ≡ true = sym (ap (λ (z : ℕ). on z i) (ap (item (set gs n g)) a ∙ here)) ∙ t in
          ap (λ (z : ℕ). on z i) (there l b) ∙ false_unless (on (item gs l) i) (λ u. never_both (s.inside l i q u) (fresh_cell i w))
      disjoint k l i p q ne (no a) (yes b) t =
          let w : on (item gs k) i ≡ true = sym (ap (λ (z : ℕ). on z i) (there k a)) ∙ t in
          ap (λ (z : ℕ). on z i) (ap (item (set gs n g)) b ∙ here) ∙ false_unless (on g i) (λ u. never_both (s.inside k i p w) (fresh_cell i u))
      disjoint k l i p q ne (no a) (no b) t =
          ap (λ (z : ℕ). on z i) (there l b) ∙ s.groups.disjoint k l i p q ne (sym (ap (λ (z : ℕ). on z i) (there k a)) ∙ t)

-- vertex 0 has code 0: its values are in use
pub start_valued : (ms gs gb used codes dom : List ℕ) (sh all j v kn val done : ℕ) → v ≤ 32
    → ((o : ℕ) → o < j → item ms o < 64) → ((o i : ℕ) → o < j → on (item ms o) i ≡ true → on sh i ≡ true) → Over sh all
    → Blocks gs gb 3 → Grouping ms gs sh j done → ((x : ℕ) → on kn x ≡ true → Alone gs sh) → Start kn val codes dom → Marked gs (0 ∷ 0 ∷ 0 ∷ []) 0 3 used
    → Valued ms gb all j kn codes v used
start_valued ms gs gb used codes dom sh all j v kn val done few short masked over b g alone s m = record {
  gs = gs;
  sh = sh;
  over = over;
  blocks = b;
  groups = g.groups;
  alike = record { short = short; masked = masked; uniform = g.uniform };
  alone = λ x h. alone x;
  values = record {
    marks = record { long = m.long; closed = λ k h. closed k h };
    has = λ k y h l t. has k y h l t (ℕ_discrete y 0);
  };
}
  where
    nothing : (k : ℕ) → k < 3 → item (0 ∷ 0 ∷ 0 ∷ []) k ≡ 0
    nothing zero h = refl
    nothing (suc zero) h = refl
    nothing (suc (suc zero)) h = refl
    nothing (suc (suc (suc k))) h = absurd (omega arith)

    -- what is in use is the block of code 0
    is : (k c : ℕ) → k < 3 → c < 64 → on (item used k) c ≡ eqb (bit_and c (item gs k)) (bit_and 0 (item gs k))
    is k c h l = let q = m.done k h in ap (λ (z : ℕ). on z c) q.2 ∙ on_or _ q.0 c ∙ ap (λ (z : ℕ). orb (on z c) (on q.0 c)) (nothing k h) ∙ ap (λ (b : Bool). orb b (on q.0 c))
        (on_zero c) ∙ q.1 c l

    closed : (k : ℕ) → k < 3 → (c d : ℕ) → c < 64 → d < 64 → bit_and c (item gs k) ≡ bit_and d (item gs k) → on (item used k) c ≡ true → on (item used k) d ≡ true
    closed k h c d p q e t = is k d h q ∙ ap (λ (z : ℕ). eqb z (bit_and 0 (item gs k))) (sym e) ∙ sym (is k c h p) ∙ t

    has : (k y : ℕ) → k < 3 → y < v → item codes y < 64 → Dec (y ≡ 0) → on (item used k) (item codes y) ≡ true
    has k y h l t (yes e) = ap (on (item used k)) (ap (item codes) e ∙ s.first) ∙ is k 0 h (omega arith) ∙ eq-eqb (bit_and 0 (item gs k)) (bit_and 0 (item gs k)) refl
    has k y h l t (no ne) = absurd (let e = s.others y (omega arith) ne in omega arith)
