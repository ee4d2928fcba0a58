-- Why writing private cells out finds codes or shows that there are none. Inside each block and part of an output the classes
-- are numbered, a new class by the number after the highest so far. So equal numbers in a block are of one class, and codes
-- that hold the numbers tell the classes apart. A class whose number is n has n other classes before it in its block: a number
-- that the private cells cannot hold shows a block with more classes than they tell apart, which no solution has. The number's
-- digits go to the private cells, lowest first. Assumes nothing.
use Rattle.std.specs.Prelude.{◌≡◌, refl, Bool, true, false, not, List, [], ◌∷◌, ◌⊎◌, ℕ, zero, suc, ◌+◌, ◌-◌, ◌^◌, ◌≤◌, ◌<◌, length, set}
use Rattle.std.proofs.Common.{sym, ap, ap₂, ◌∙◌, subst, inl, inr, ⊎_elim, arith, eq-eqb, ne_eqb, length-set, get_or-set_same, get_or-set_other}
use Rattle.std.proofs.Math.Decide.{dec_lt}
use Rattle.std.specs.Int.Bits.{bit_and, bit_or}
use Rattle.std.proofs.lemmas.Nat.{and_le_r}
use Rattle.cells.specs.Sets.{With}
use Rattle.bits.specs.Logic.{andb, orb, bit}
use Rattle.bits.specs.LogicLaws.{true_false, never_both, and_true, and_false, or_true, or_false, false_unless}
use Rattle.bits.specs.Digit.{on}
use Rattle.bits.specs.DigitLaws.{on_and, on_or, on_zero, on-ones, on_above, on_complement, equal_digits}
use Rattle.bits.specs.Count.{count}
use Rattle.bits.specs.CountLaws.{less_or_equal, count_more, count_same}
use Rattle.cells.specs.PigeonLaws.{agree_and, and_agree}
use Rattle.cells.specs.ListLaws.{all_map}
use Rattle.cells.specs.Lists.{All, Pairs}
use Rattle.problem.specs.Problem.{label_at, part_of, item, Plan, Parted, Fixed, Knows, Hopeless}
use Rattle.numbering.specs.Number.{key, Fellows, Numbered, Number, Passed, Spread, Spreading, Wrote, Written, Finished}

-- ======== numbering
-- a part and a block are the same exactly when both are
pub both_same : {a b c d : ℕ} → a ≡ c → b ≡ d → ◌≡◌ {A = ℕ × ℕ} (a, b) (c, d)
both_same e f = let pair : ℕ → ℕ → ℕ × ℕ = λ x y. (x, y) in ap₂ pair e f

module _ (cl codes : List ℕ) (o mask x : ℕ) (nums : List ℕ) where
  abbrev K : ℕ → ℕ × ℕ
  K = key cl codes o mask

  pub passed_start : Passed cl codes o mask x nums 0 0
  passed_start = record {
    none = λ w h. absurd (omega arith);
    above = λ w h. absurd (omega arith);
    seen = ([], tt, tt, refl);
    under = omega arith;
  }

  -- y's class is x's: the same number
  pub number_old : (y : ℕ) → y < x → K y ≡ K x → label_at cl o y ≡ label_at cl o x → Numbered cl codes o mask x nums → Number cl codes o mask x nums (item nums y)
  number_old y h e l s = record {
    new = λ w a b c. s.apart w y a h (b ∙ sym e) c ∙ l;
    others = (let r = s.fellows y h in (
      r.0,
      all_map (λ (w : ℕ). (w < y) × (K w ≡ K y) × (label_at cl o w ≡ label_at cl o y → ⊥))
          (λ (w : ℕ). (w < x) × (K w ≡ K x) × (label_at cl o w ≡ label_at cl o x → ⊥)) r.0 (λ w p. ((let z = p.0 in omega arith), p.1 ∙ e, λ q. p.2 (q ∙ sym l))) r.1,
      r.2,
      r.3,
    ));
    small = (let z = s.low y h in omega arith);
  }

  up : (y next : ℕ) → Passed cl codes o mask x nums y next
      → (ws : List ℕ) × All (λ (w : ℕ). (w < y + 1) × (K w ≡ K x)) ws × Pairs (λ (a b : ℕ). label_at cl o a ≡ label_at cl o b → ⊥) ws × (length ws ≡ next)
  up y next p = let r = p.seen in (r.0, all_map (λ (w : ℕ). (w < y) × (K w ≡ K x)) (λ (w : ℕ). (w < y + 1) × (K w ≡ K x)) r.0 (λ w a. ((let z = a.0 in omega arith), a.1)) r.1, r.2, r.3)

  passed_miss : (y next : ℕ) → (K y ≡ K x → ⊥) → Passed cl codes o mask x nums y next → Passed cl codes o mask x nums (y + 1) next
  passed_miss y next ne p = record {
    none = λ w h e. ⊎_elim (λ l. p.none w l e) (λ q. absurd (ne (subst (λ (i : ℕ). K i ≡ K x) q e))) (less_or_equal w y (omega arith));
    above = λ w h e. ⊎_elim (λ l. p.above w l e) (λ q. absurd (ne (subst (λ (i : ℕ). K i ≡ K x) q e))) (less_or_equal w y (omega arith));
    seen = up y next p;
    under = (let z = p.under in omega arith);
  }

  -- y is in the block, with a number below next
  passed_low : (y next : ℕ) → (label_at cl o y ≡ label_at cl o x → ⊥) → item nums y < next → Passed cl codes o mask x nums y next → Passed cl codes o mask x nums (y + 1) next
  passed_low y next ne h p = record {
    none = λ w b e. ⊎_elim (λ l. p.none w l e) (λ q. subst (λ (i : ℕ). label_at cl o i ≡ label_at cl o x → ⊥) (sym q) ne) (less_or_equal w y (omega arith));
    above = λ w b e. ⊎_elim (λ l. p.above w l e) (λ q. subst (λ (i : ℕ). item nums i < next) (sym q) h) (less_or_equal w y (omega arith));
    seen = up y next p;
    under = (let z = p.under in omega arith);
  }

  -- or with the highest so far
  passed_high : (y next : ℕ) → y < x → K y ≡ K x → (label_at cl o y ≡ label_at cl o x → ⊥) → next ≤ item nums y
      → Numbered cl codes o mask x nums → Passed cl codes o mask x nums y next
      → Passed cl codes o mask x nums (y + 1) (item nums y + 1)
  passed_high y next l e ne h s p = record {
    none = λ w b k. ⊎_elim (λ l. p.none w l k) (λ q. subst (λ (i : ℕ). label_at cl o i ≡ label_at cl o x → ⊥) (sym q) ne) (less_or_equal w y (omega arith));
    above = λ w b k. ⊎_elim (λ l. let z = p.above w l k in omega arith) (λ q. subst (λ (i : ℕ). item nums i < item nums y + 1) (sym q) (omega arith)) (less_or_equal w y (omega arith));
    seen = (let r = s.fellows y l in (
      y ∷ r.0,
      (
        ((omega arith), e),
        all_map (λ (w : ℕ). (w < y) × (K w ≡ K y) × (label_at cl o w ≡ label_at cl o y → ⊥)) (λ (w : ℕ). (w < y + 1) × (K w ≡ K x)) r.0
            (λ w a. ((let z = a.0 in omega arith), a.1 ∙ e)) r.1,
      ),
      (all_map (λ (w : ℕ). (w < y) × (K w ≡ K y) × (label_at cl o w ≡ label_at cl o y → ⊥)) (λ (w : ℕ). label_at cl o y ≡ label_at cl o w → ⊥) r.0 (λ w a q. a.2 (sym q)) r.1, r.2),
      (let z = r.3 in omega arith),
    ));
    under = (let z = s.low y l in omega arith);
  }

  -- the same as the code says it: l and q are the classes read, next' is the new number
  pub at_miss : (y next next' : ℕ) → (K y ≡ K x → ⊥) → next' ≡ next → Passed cl codes o mask x nums y next → Passed cl codes o mask x nums (y + 1) next'
  at_miss y next next' ne e p = subst (Passed cl codes o mask x nums (y + 1)) (sym e) (passed_miss y next ne p)

  pub at_low : (y next next' l q : ℕ) → l ≡ label_at cl o y → q ≡ label_at cl o x → (l ≡ q → ⊥) → item nums y < next
      → next' ≡ next → Passed cl codes o mask x nums y next → Passed cl codes o mask x nums (y + 1) next'
  at_low y next next' l q a b ne h e p = subst (Passed cl codes o mask x nums (y + 1)) (sym e) (passed_low y next (λ r. ne (a ∙ r ∙ sym b)) h p)

  pub at_high : (y next next' l q : ℕ) → y < x → K y ≡ K x → l ≡ label_at cl o y → q ≡ label_at cl o x → (l ≡ q → ⊥)
      → next ≤ item nums y → next' ≡ item nums y + 1 → Numbered cl codes o mask x nums
      → Passed cl codes o mask x nums y next → Passed cl codes o mask x nums (y + 1) next'
  at_high y next next' l q i k a b ne h e s p = subst (Passed cl codes o mask x nums (y + 1)) (sym e) (passed_high y next i k (λ r. ne (a ∙ r ∙ sym b)) h s p)

  pub number_new : (y next : ℕ) → x ≤ y → y ≤ x → Passed cl codes o mask x nums y next → Number cl codes o mask x nums next
  number_new y next a b q = let e : y ≡ x = omega arith in let p = subst (λ (i : ℕ). Passed cl codes o mask x nums i next) e q in record {
    new = λ w h k c. absurd (let z = p.above w h k in omega arith);
    others = (let r = p.seen in (
      r.0,
      all_map (λ (w : ℕ). (w < x) × (K w ≡ K x)) (λ (w : ℕ). (w < x) × (K w ≡ K x) × (label_at cl o w ≡ label_at cl o x → ⊥)) r.0
          (λ w a. (a.0, a.1, p.none w a.0 a.1)) r.1,
      r.2,
      r.3,
    ));
    small = p.under;
  }

  pub numbered_more : (n : ℕ) → x < 32 → Number cl codes o mask x nums n → Numbered cl codes o mask x nums → Numbered cl codes o mask (x + 1) (set nums x n)
  numbered_more n b m s = record {
    long = length-set nums x n ∙ s.long;
    apart = λ y z h k e f. pair y z (less_or_equal y x (omega arith)) (less_or_equal z x (omega arith)) e f;
    fellows = λ y h. ⊎_elim (λ l. subst (Fellows cl codes o mask y y) (sym (old y l)) (s.fellows y l))
        (λ q. subst (λ (i : ℕ). Fellows cl codes o mask i i (item (set nums x n) i)) (sym q) (subst (Fellows cl codes o mask x x) (sym here) m.others)) (less_or_equal y x (omega arith));
    low = λ y h. ⊎_elim (λ l. let z = s.low y l in let w = old y l in omega arith)
        (λ q. subst (λ (i : ℕ). item (set nums x n) i ≤ i) (sym q) (let z = m.small in let w = here in omega arith)) (less_or_equal y x (omega arith));
  }
    where
      here : item (set nums x n) x ≡ n
      here = get_or-set_same nums x n 0 (let z = s.long in omega arith)

      old : (y : ℕ) → y < x → item (set nums x n) y ≡ item nums y
      old y l = get_or-set_other nums x y n 0 (λ q. let z : y ≡ x = q in omega arith)

      pair : (y z : ℕ) → (y < x) ⊎ (y ≡ x) → (z < x) ⊎ (z ≡ x) → K y ≡ K z → item (set nums x n) y ≡ item (set nums x n) z → label_at cl o y ≡ label_at cl o z
      pair y z (inl a) (inl c) e f = s.apart y z a c e (sym (old y a) ∙ f ∙ old z c)
      pair y z (inl a) (inr c) e f = m.new y a (e ∙ ap K c) (sym (old y a) ∙ f ∙ ap (item (set nums x n)) c ∙ here) ∙ ap (label_at cl o) (sym c)
      pair y z (inr a) (inl c) e f = ap (label_at cl o) a ∙ sym (m.new z c (sym e ∙ ap K a) (sym (old z c) ∙ sym f ∙ ap (item (set nums x n)) a ∙ here))
      pair y z (inr a) (inr c) e f = ap (label_at cl o) (a ∙ sym c)

pub numbered-start : (cl codes : List ℕ) (o mask : ℕ) (nums : List ℕ) → length nums ≡ 32 → Numbered cl codes o mask 0 nums
numbered-start cl codes o mask nums e = record { long = e; apart = λ y z h. absurd (omega arith); fellows = λ y h. absurd (omega arith); low = λ y h. absurd (omega arith) }

-- ======== spreading a number over the digits of a mask
-- there is a digit with p that k digits with p stand below
nth : (p : ℕ → Bool) (n k : ℕ) → k < count p n → (i : ℕ) × (i < n) × (p i ≡ true) × (count p i ≡ k)
unfolding count
nth p zero k h = absurd (omega arith)
nth p (suc n) k h = go (p n) refl (nth p n k) (dec_lt k (count p n))
  where
    Out : ℕ → Type 0
    Out n = (i : ℕ) × (i < n) × (p i ≡ true) × (count p i ≡ k)

    go : (b : Bool) → p n ≡ b → (k < count p n → Out n) → Dec (k < count p n) → Out (suc n)
    go b e ih (yes l) = let r = ih l in (r.0, (let z = r.1 in omega arith), r.2, r.3)
    go true e ih (no l) = (n, (omega arith), e, (let z : bit (p n) ≡ 1 = ap bit e in omega arith))
    go false e ih (no l) = absurd (let z : bit (p n) ≡ 0 = ap bit e in omega arith)

spread_start : (n p : ℕ) → Spread n p 0 0
spread_start n p = record { digits = λ k h. absurd (omega arith); rest = λ k h. on_zero k }

-- digit i of p is 0: nothing is added
spread_skip : (n p i r : ℕ) → on p i ≡ false → Spread n p i r → Spread n p (i + 1) r
spread_skip n p i r e s = record {
  digits = λ k h. ⊎_elim (s.digits k) (λ q. subst (λ (z : ℕ). on r z ≡ andb (on p z) (on n (count (on p) z))) (sym q)
      (s.rest i (omega arith) ∙ sym (ap (λ (b : Bool). andb b (on n (count (on p) i))) e))) (less_or_equal k i (omega arith));
  rest = λ k h. s.rest k (omega arith);
}

-- digit i of p is 1, and the next digit of n is 0
spread_zero : (n p i r : ℕ) → on p i ≡ true → on n (count (on p) i) ≡ false → Spread n p i r → Spread n p (i + 1) r
spread_zero n p i r e f s = record {
  digits = λ k h. ⊎_elim (s.digits k) (λ q. subst (λ (z : ℕ). on r z ≡ andb (on p z) (on n (count (on p) z))) (sym q) (s.rest i (omega arith) ∙ sym (ap₂ andb e f)))
      (less_or_equal k i (omega arith));
  rest = λ k h. s.rest k (omega arith);
}

-- or 1
spread_one : (n p i r r' : ℕ) → on p i ≡ true → on n (count (on p) i) ≡ true → With r i r' → Spread n p i r → Spread n p (i + 1) r'
spread_one n p i r r' e f w s = record {
  digits = λ k h. ⊎_elim (λ l. w k ∙ ap (λ (b : Bool). orb (on r k) b) (ne_eqb k i (λ q. omega arith)) ∙ or_false (on r k) ∙ s.digits k l)
      (λ q. subst (λ (z : ℕ). on r' z ≡ andb (on p z) (on n (count (on p) z))) (sym q) (w i ∙ ap (λ (b : Bool). orb (on r i) b) (eq-eqb i i refl) ∙ or_true (on r i) ∙ sym (ap₂ andb e f)))
      (less_or_equal k i (omega arith));
  rest = λ k h. w k ∙ ap (λ (b : Bool). orb (on r k) b) (ne_eqb k i (λ q. omega arith)) ∙ or_false (on r k) ∙ s.rest k (omega arith);
}

-- what is spread over six digits fits in a byte
pub spread_low : (n p r : ℕ) → Spread n p 6 r → r < 256
spread_low n p r s = low_of r (equal_digits (bit_and r 255) r (λ k. on_and r 255 k ∙ go k (dec_lt k 8)))
  where
    low_of : (r : ℕ) → bit_and r 255 ≡ r → r < 256
    low_of r e = let h = and_le_r r 255 in omega arith

    go : (k : ℕ) → Dec (k < 8) → andb (on r k) (on 255 k) ≡ on r k
    go k (yes l) = ap (λ (b : Bool). andb (on r k) b) (on-ones 8 k l) ∙ and_true (on r k)
    go k (no l) = ap (λ (b : Bool). andb b (on 255 k)) (s.rest k (omega arith)) ∙ sym (s.rest k (omega arith))

pub spreading_start : (n p : ℕ) → Spreading n p 0 0 0
unfolding count
spreading_start n p = record { spread = spread_start n p; passed = refl; low = omega arith }

pub spreading_skip : (n p i r k r' k' : ℕ) → false ≡ on p i → r' ≡ r → k' ≡ k → Spreading n p i r k → Spreading n p (i + 1) r' k'
spreading_skip n p i r k r' k' e a b s = record {
  spread = subst (Spread n p (i + 1)) (sym a) (spread_skip n p i r (sym e) s.spread);
  passed = b ∙ count_same (on p) i k (sym e) s.passed;
  low = (let z = s.low in omega arith);
}

pub spreading_one : (n p i r k r' k' s : ℕ) → true ≡ on p i → true ≡ on n k → With r i s → r' ≡ s → k' ≡ k + 1 → Spreading n p i r k → Spreading n p (i + 1) r' k'
spreading_one n p i r k r' k' q e f w a b s = record {
  spread = subst (Spread n p (i + 1)) (sym a) (spread_one n p i r q (sym e) (subst (λ (z : ℕ). on n z ≡ true) s.passed (sym f)) w s.spread);
  passed = b ∙ count_more (on p) i k (sym e) s.passed;
  low = (let z = s.low in omega arith);
}

pub spreading_zero : (n p i r k r' k' : ℕ) → true ≡ on p i → false ≡ on n k → r' ≡ r → k' ≡ k + 1 → Spreading n p i r k → Spreading n p (i + 1) r' k'
spreading_zero n p i r k r' k' e f a b s = record {
  spread = subst (Spread n p (i + 1)) (sym a) (spread_zero n p i r (sym e) (subst (λ (z : ℕ). on n z ≡ false) s.passed (sym f)) s.spread);
  passed = b ∙ count_more (on p) i k (sym e) s.passed;
  low = (let z = s.low in omega arith);
}

pub spreading_end : (n p i r k : ℕ) → 6 ≤ i → i ≤ 6 → Spreading n p i r k → Spread n p 6 r
spreading_end n p i r k a b s = let e : i ≡ 6 = omega arith in subst (λ (z : ℕ). Spread n p z r) e s.spread

-- ======== writing one output's private cells
pub wrote-start : (nums : List ℕ) (p cap : ℕ) (codes : List ℕ) → length codes ≡ 32 → Wrote nums p cap 0 codes codes
wrote-start nums p cap codes e = record { long = e; less = λ y h. absurd (omega arith); here = λ y i h. absurd (omega arith); there = λ y i h. absurd (omega arith); rest = λ y h. refl }

-- the new code: what is outside of p, and the number spread over p
pub wrote_more : (nums : List ℕ) (p cap x : ℕ) (codes r : List ℕ) (s : ℕ) → x < 32 → p < 256 → item nums x < cap
    → Spread (item nums x) p 6 s → Wrote nums p cap x codes r
    → Wrote nums p cap (x + 1) codes (set r x (bit_or (bit_and (item r x) (2 ^ 8 - 1 - p)) s))
wrote_more nums p cap x codes r s b q h sp w = record {
  long = length-set r x n ∙ w.long;
  less = λ y k. ⊎_elim (w.less y) (λ e. subst (λ (i : ℕ). item nums i < cap) (sym e) h) (less_or_equal y x (omega arith));
  here = λ y i k l m. ⊎_elim (λ a. ap (λ (z : ℕ). on z i) (old y (λ e. omega arith)) ∙ w.here y i a l m)
      (λ e. subst (λ (y : ℕ). on (item (set r x n) y) i ≡ on (item nums y) (count (on p) i)) (sym e) (ap (λ (z : ℕ). on z i) new ∙ in_p i l m)) (less_or_equal y x (omega arith));
  there = λ y i k l m. ⊎_elim (λ a. ap (λ (z : ℕ). on z i) (old y (λ e. omega arith)) ∙ w.there y i a l m)
      (λ e. subst (λ (y : ℕ). on (item (set r x n) y) i ≡ on (item codes y) i) (sym e) (ap (λ (z : ℕ). on z i) new ∙ out_p i l m)) (less_or_equal y x (omega arith));
  rest = λ y k. old y (λ e. omega arith) ∙ w.rest y (omega arith);
}
  where
    n : ℕ
    n = bit_or (bit_and (item r x) (2 ^ 8 - 1 - p)) s

    new : item (set r x n) x ≡ n
    new = get_or-set_same r x n 0 (let z = w.long in omega arith)

    old : (y : ℕ) → (y ≡ x → ⊥) → item (set r x n) y ≡ item r y
    old y ne = get_or-set_other r x y n 0 ne

    digit : (i : ℕ) → i < 6 → on n i ≡ orb (andb (on (item r x) i) (not (on p i))) (andb (on p i) (on (item nums x) (count (on p) i)))
    digit i l = on_or (bit_and (item r x) (2 ^ 8 - 1 - p)) s i ∙ ap₂ orb
        (on_and (item r x) (2 ^ 8 - 1 - p) i ∙ ap (λ (t : Bool). andb (on (item r x) i) t) (on_complement 8 p i q (omega arith))) (sp.digits i l)

    all : (a : Bool) → orb (andb a true) false ≡ a
    all true = refl
    all false = refl

    in_p : (i : ℕ) → i < 6 → on p i ≡ true → on n i ≡ on (item nums x) (count (on p) i)
    in_p i l m = digit i l ∙ ap (λ (t : Bool). orb (andb (on (item r x) i) (not t)) (andb t (on (item nums x) (count (on p) i)))) m ∙ ap
        (λ (t : Bool). orb t (on (item nums x) (count (on p) i))) (and_false (on (item r x) i))

    out_p : (i : ℕ) → i < 6 → on p i ≡ false → on n i ≡ on (item codes x) i
    out_p i l m = digit i l ∙ ap (λ (t : Bool). orb (andb (on (item r x) i) (not t)) (andb t (on (item nums x) (count (on p) i)))) m ∙ all (on (item r x) i) ∙ ap (λ (z : ℕ). on z i)
        (w.rest x (omega arith))

pub written-whole : (nums : List ℕ) (p cap v : ℕ) (codes : List ℕ) (ok : Bool) (r : List ℕ) → ok ≡ true → Written nums p cap v codes ok r → Wrote nums p cap v codes r
written-whole nums p cap v codes true r e w = w
written-whole nums p cap v codes false r e w = absurd (true_false (sym e))

pub written_large : (nums : List ℕ) (p cap v : ℕ) (codes : List ℕ) (ok : Bool) (r : List ℕ) → ok ≡ false → Written nums p cap v codes ok r → (x : ℕ) × (x < v) × (cap ≤ item nums x)
written_large nums p cap v codes false r e w = w
written_large nums p cap v codes true r e w = absurd (true_false e)

-- ======== output after output
pub finished_start : (cl ms ps : List ℕ) (v : ℕ) (codes : List ℕ) → length codes ≡ 32 → Finished cl ms ps v 0 codes codes
finished_start cl ms ps v codes e = record { long = e; kept = λ x i h l k. refl; parted = λ q x y h. absurd (omega arith) }

module _ (cl ms ps caps : List ℕ) (v j : ℕ) (plan : Plan ms ps caps j) where
  pub finished_more : (o : ℕ) (codes nums r r' : List ℕ) → o < j → Numbered cl codes o (item ms o) v nums
      → Wrote nums (item ps o) (item caps o) v r r' → Finished cl ms ps v o codes r
      → Finished cl ms ps v (o + 1) codes r'
  finished_more o codes nums r r' h num w f = record {
    long = w.long;
    kept = λ x i a l k. w.there x i a l (k o (omega arith)) ∙ f.kept x i a l (λ q b. k q (omega arith));
    parted = λ q x y b c d t e g. ⊎_elim (λ l. before q x y l c d t e g) (λ p. here q x y p c d t e g) (less_or_equal q o (omega arith));
  }
    where
      -- a mask that p has no digit of sees no change
      same : (mask x y : ℕ) → mask < 64 → ((i : ℕ) → on mask i ≡ true → on (item ps o) i ≡ false) → x < v → y < v
          → bit_and (item r' x) mask ≡ bit_and (item r' y) mask → bit_and (item r x) mask ≡ bit_and (item r y) mask
      same mask x y s d a b e = agree_and 6 mask (item r x) (item r y) s (λ i l m. sym (w.there x i a l (d i m)) ∙ and_agree 6 mask (item r' x) (item r' y) e i l m ∙ w.there y i b l (d i m))

      before : (q x y : ℕ) → q < o → x < v → y < v → part_of cl q x ≡ part_of cl q y → bit_and (item r' x) (item ms q) ≡ bit_and (item r' y) (item ms q)
          → bit_and (item r' x) (item ps q) ≡ bit_and (item r' y) (item ps q) → label_at cl q x ≡ label_at cl q y
      before q x y l a b t e g = f.parted q x y l a b t
          (same (item ms q) x y (plan.short_shared q (omega arith)) (λ i m. false_unless _ (λ t. never_both m (plan.private o q i h (omega arith) t))) a b e)
          (same (item ps q) x y (plan.short q (omega arith)) (λ i m. plan.single q o i (omega arith) h (λ z. omega arith) m) a b g)

      -- what o's shared cells see is as it was given
      given : (x i : ℕ) → x < v → i < 6 → on (item ms o) i ≡ true → on (item r' x) i ≡ on (item codes x) i
      given x i a l m = w.there x i a l (false_unless _ (λ t. never_both m (plan.private o o i h h t))) ∙ f.kept x i a l
          (λ q b. false_unless _ (λ t. never_both m (plan.private q o i (omega arith) h t)))

      at : (x y : ℕ) → x < v → y < v → part_of cl o x ≡ part_of cl o y → bit_and (item r' x) (item ms o) ≡ bit_and (item r' y) (item ms o)
          → bit_and (item r' x) (item ps o) ≡ bit_and (item r' y) (item ps o) → label_at cl o x ≡ label_at cl o y
      at x y a b t e g = num.apart x y a b
          (both_same t (agree_and 6 (item ms o) (item codes x) (item codes y) (plan.short_shared o h)
          (λ i l m. sym (given x i a l m) ∙ and_agree 6 (item ms o) (item r' x) (item r' y) e i l m ∙ given y i b l m)))
          (equal_digits (item nums x) (item nums y) (λ k. go k (dec_lt k (count (on (item ps o)) 6))))
        where
          fits : (z : ℕ) → z < v → item nums z < 2 ^ count (on (item ps o)) 6
          fits z c = subst (λ (n : ℕ). item nums z < n) (plan.room o h) (w.less z c)

          go : (k : ℕ) → Dec (k < count (on (item ps o)) 6) → on (item nums x) k ≡ on (item nums y) k
          go k (yes l) =
              let d = nth (on (item ps o)) 6 k l in
              ap (on (item nums x)) (sym d.3) ∙ sym (w.here x d.0 a d.1 d.2) ∙ and_agree 6 (item ps o) (item r' x) (item r' y) g d.0 d.1 d.2 ∙ w.here y d.0 b d.1
              d.2 ∙ ap (on (item nums y)) d.3
          go k (no l) = on_above (count (on (item ps o)) 6) (item nums x) k (fits x a) (omega arith) ∙ sym (on_above (count (on (item ps o)) 6) (item nums y) k (fits y b) (omega arith))

      here : (q x y : ℕ) → q ≡ o → x < v → y < v → part_of cl q x ≡ part_of cl q y → bit_and (item r' x) (item ms q) ≡ bit_and (item r' y) (item ms q)
          → bit_and (item r' x) (item ps q) ≡ bit_and (item r' y) (item ps q) → label_at cl q x ≡ label_at cl q y
      here q x y p a b t e g = ap (λ (z : ℕ). label_at cl z x) p ∙ at x y a b (subst (λ (z : ℕ). part_of cl z x ≡ part_of cl z y) p t)
          (subst (λ (z : ℕ). bit_and (item r' x) (item ms z) ≡ bit_and (item r' y) (item ms z)) p e) (subst (λ (z : ℕ). bit_and (item r' x) (item ps z) ≡ bit_and (item r' y) (item ps z)) p g) ∙ ap
          (λ (z : ℕ). label_at cl z y) (sym p)

  pub finished_all : (o : ℕ) (codes r : List ℕ) → j ≤ o → Finished cl ms ps v o codes r → Parted cl ms ps v j r
  finished_all o codes r h f = record { parted = λ q x y a. f.parted q x y (omega arith) }

  pub finished_fixed : (o kn val : ℕ) (codes r : List ℕ) → o ≤ j → ((x : ℕ) → x < v → item codes x < 64) → Knows kn val ps codes v j → Finished cl ms ps v o codes r → Fixed kn val v (item r)
  finished_fixed o kn val codes r h all k f x b t = f.kept x 0 b (omega arith) (λ q l. k.public x q b t (omega arith)) ∙ k.given x b t (all x b)

-- a number that the private cells cannot hold: no solution has these codes
pub crowded : (cl base ms caps spots : List ℕ) (v j o kn val : ℕ) (codes dom nums : List ℕ) (x : ℕ) → o < j → x < v
    → ((y : ℕ) → y < v → item codes y < 64) → item caps o ≤ item nums x → Numbered cl codes o (item ms o) v nums
    → Hopeless cl base ms caps spots v j kn val codes dom
crowded cl base ms caps spots v j o kn val codes dom nums x h b all k s = record {
  none = λ g f e d.
      let same : (w : ℕ) → w < v → bit_and (g w) (item ms o) ≡ bit_and (item codes w) (item ms o) = λ w l. ap (λ (z : ℕ). bit_and z (item ms o)) (e.coded w l (all w l)) in
      let r = s.fellows x b in
      let a = f.fits.crowd o (part_of cl o x) (bit_and (item codes x) (item ms o)) (x ∷ r.0) h (
        (b, refl, same x b),
        all_map (λ (w : ℕ). (w < x) × (key cl codes o (item ms o) w ≡ key cl codes o (item ms o) x) × (label_at cl o w ≡ label_at cl o x → ⊥))
            (λ (w : ℕ). (w < v) × (part_of cl o w ≡ part_of cl o x) × (bit_and (g w) (item ms o) ≡ bit_and (item codes x) (item ms o))) r.0
            (λ w p. let z : w < v = (let y = p.0 in omega arith) in (z, ap (λ (k : ℕ × ℕ). k.0) p.1, same w z ∙ ap (λ (k : ℕ × ℕ). k.1) p.1)) r.1,
      ) (
        all_map (λ (w : ℕ). (w < x) × (key cl codes o (item ms o) w ≡ key cl codes o (item ms o) x) × (label_at cl o w ≡ label_at cl o x → ⊥)) (λ (w : ℕ). label_at cl o x ≡ label_at cl o w → ⊥)
            r.0 (λ w p q. p.2 (sym q)) r.1,
        r.2,
      ) in
      let z = r.3 in omega arith;
}
