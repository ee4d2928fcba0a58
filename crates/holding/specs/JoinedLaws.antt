-- A set that is joined in every cell outside a mask has every code that the mask does not tell from one of its codes, and no
-- other: two such codes differ in cells outside the mask alone, and each joining crosses one of these. So blocks are made by
-- six joinings. Assumes nothing.
use Rattle.std.specs.Prelude.{◌≡◌, refl, Bool, true, false, not, ◌⊎◌, ℕ, ◌+◌, ◌-◌, ◌*◌, ◌/◌, ◌%◌, ◌^◌, ◌≤◌, ◌<◌}
use Rattle.std.proofs.Common.{sym, ap, ap₂, ◌∙◌, subst, inl, inr, ⊎_elim, arith}
use Rattle.std.proofs.Math.Decide.{ℕ_discrete, dec_lt}
use Rattle.std.specs.Int.Bits.{bit_and, bit_or, xor_add_and}
use Rattle.std.proofs.lemmas.Nat.{xor_lt}
use Rattle.std.proofs.Math.Pow.{pow-lt}
use Rattle.bits.specs.Logic.{andb, orb, xorb}
use Rattle.bits.specs.Digit.{on}
use Rattle.bits.specs.DigitLaws.{on_and, on_or, on_xor, on_zero, on_above, on_single, equal_digits}
use Rattle.bits.specs.LogicLaws.{never_both, true_unless, and_true, and_false, or_true, or_false, xor_false}
use Rattle.bits.specs.ShiftLaws.{on_cut, on_down, on_shifted, on_below_shifted}
use Rattle.cells.specs.SetsLaws.{on_power_other}
use Rattle.cells.specs.PigeonLaws.{agree_and, and_agree}
use Rattle.holding.specs.Blocks.{Spans}
use Rattle.holding.specs.Joined.{across, Joined, Matches, Spreading}

-- ======== the code across a cell
across-here : (i k : ℕ) → on (across i k) i ≡ not (on k i)
across-here i k = on_xor k (2 ^ i) i ∙ ap (λ (b : Bool). xorb (on k i) b) (on_single i) ∙ turned (on k i)
  where
    turned : (b : Bool) → xorb b true ≡ not b
    turned true = refl
    turned false = refl

across_other : (i k j : ℕ) → (j ≡ i → ⊥) → on (across i k) j ≡ on k j
across_other i k j ne = on_xor k (2 ^ i) j ∙ ap (λ (b : Bool). xorb (on k j) b) (on_power_other i j ne) ∙ xor_false (on k j)

-- it is 2 ^ i below a code with cell i, and 2 ^ i above one without
across_below : (i k : ℕ) → on k i ≡ true → 2 ^ i + across i k ≡ k
across_below i k e = let s = xor_add_and k (2 ^ i) in let a = one in omega arith
  where
    one : bit_and k (2 ^ i) ≡ 2 ^ i
    one = equal_digits (bit_and k (2 ^ i)) (2 ^ i) (λ j. on_and k (2 ^ i) j ∙ elim (ℕ_discrete j i) as (λ _. andb (on k j) (on (2 ^ i) j) ≡ on (2 ^ i) j) [
      | yes q ↦ ap (λ (b : Bool). andb b (on (2 ^ i) j)) (ap (on k) q ∙ e)
      | no q ↦ ap (λ (b : Bool). andb (on k j) b) (on_power_other i j q) ∙ and_false (on k j) ∙ sym (on_power_other i j q)
    ])

across_above : (i k : ℕ) → on k i ≡ false → across i k ≡ 2 ^ i + k
across_above i k e = let s = xor_add_and k (2 ^ i) in let a = none in omega arith
  where
    none : bit_and k (2 ^ i) ≡ 0
    none = equal_digits (bit_and k (2 ^ i)) 0 (λ j. on_and k (2 ^ i) j ∙ elim (ℕ_discrete j i) as (λ _. andb (on k j) (on (2 ^ i) j) ≡ false) [
      | yes q ↦ ap (λ (b : Bool). andb b (on (2 ^ i) j)) (ap (on k) q ∙ e)
      | no q ↦ ap (λ (b : Bool). andb (on k j) b) (on_power_other i j q) ∙ and_false (on k j)
    ] ∙ sym (on_zero j))

-- ======== joining in one cell
-- low has the codes without cell i; those of d go up by 2 ^ i, and those that come down to such codes go down by it
pub joined_of : (d i s low : ℕ) → s ≡ 2 ^ i → ((k : ℕ) → k < 64 → on low k ≡ not (on k i)) → Joined d i (bit_or (bit_or d (bit_and d low * 2 ^ s % 2 ^ 64)) (bit_and (d / 2 ^ s) low))
joined_of d i s low p e = record { digit = λ k h. on_or (bit_or d up) down k ∙ ap (λ (b : Bool). orb b (on down k)) (on_or d up k) ∙ go k h (on k i) refl }
  where
    up : ℕ
    up = bit_and d low * 2 ^ s % 2 ^ 64

    down : ℕ
    down = bit_and (d / 2 ^ s) low

    comes_down : (k : ℕ) → k < 64 → on down k ≡ andb (on d (s + k)) (not (on k i))
    comes_down k h = on_and (d / 2 ^ s) low k ∙ ap₂ andb (on_down d s k) (e k h)

    goes_up : (k : ℕ) → s + k < 64 → on up (s + k) ≡ andb (on d k) (not (on k i))
    goes_up k h = on_cut 64 (bit_and d low * 2 ^ s) (s + k) h ∙ on_shifted (bit_and d low) s k ∙ on_and d low k ∙ ap (λ (b : Bool). andb (on d k) b) (e k (omega arith))

    below : (k : ℕ) → on k i ≡ true → s + across i k ≡ k
    below k q = ap (λ (z : ℕ). z + across i k) p ∙ across_below i k q

    above : (k : ℕ) → on k i ≡ false → across i k ≡ s + k
    above k q = across_above i k q ∙ ap (λ (z : ℕ). z + k) (sym p)

    -- a code that is s below one without cell i has cell i
    has_cell : (m : ℕ) → on (s + m) i ≡ false → on m i ≡ true
    has_cell m q = true_unless (on m i) (λ f. never_both (across-here i m ∙ ap not f) (ap (λ (z : ℕ). on z i) (above m f) ∙ q))

    -- nothing comes up to a code without cell i
    none_up : (k : ℕ) → k < 64 → on k i ≡ false → Dec (k < s) → on up k ≡ false
    none_up k h q (yes l) = on_cut 64 (bit_and d low * 2 ^ s) k h ∙ on_below_shifted (bit_and d low) s k l
    none_up k h q (no l) =
        let at : s + (k - s) ≡ k = omega arith in
        ap (on up) (sym at) ∙ goes_up (k - s) (omega arith) ∙ ap (λ (b : Bool). andb (on d (k - s)) (not b)) (has_cell (k - s) (ap (λ (z : ℕ). on z i) at ∙ q)) ∙ and_false (on d (k - s))

    go : (k : ℕ) → k < 64 → (b : Bool) → on k i ≡ b → orb (orb (on d k) (on up k)) (on down k) ≡ orb (on d k) (on d (across i k))
    go k h true q =
        let at = below k q in
        ap₂ (λ (x y : Bool). orb (orb (on d k) x) y)
        (ap (on up) (sym at) ∙ goes_up (across i k) (omega arith) ∙ ap (λ (b : Bool). andb (on d (across i k)) (not b)) (across-here i k ∙ ap not q) ∙ and_true (on d (across i k)))
        (comes_down k h ∙ ap (λ (b : Bool). andb (on d (s + k)) (not b)) q ∙ and_false (on d (s + k)))
        ∙ or_false (orb (on d k) (on d (across i k)))
    go k h false q =
        ap₂ (λ (x y : Bool). orb (orb (on d k) x) y) (none_up k h q (dec_lt k s))
        (comes_down k h ∙ ap (λ (b : Bool). andb (on d (s + k)) (not b)) q ∙ and_true (on d (s + k)) ∙ ap (on d) (sym (above k q)))
        ∙ ap (λ (b : Bool). orb b (on d (across i k))) (or_false (on d k))

-- ======== joining cell by cell
-- codes that match from cell i on match from the next cell on
fewer : (mask i c k : ℕ) → Matches mask i c k → Matches mask (i + 1) c k
fewer mask i c k f j s = f j (⊎_elim inl (λ l. inr (omega arith)) s)

-- and the other way round, where they are the same in cell i
one_more : (mask i c k : ℕ) → on c i ≡ on k i → Matches mask (i + 1) c k → Matches mask i c k
one_more mask i c k e f j s = elim (ℕ_discrete j i) as (λ _. on c j ≡ on k j) [
  | yes q ↦ subst (λ (z : ℕ). on c z ≡ on k z) (sym q) e
  | no q ↦ f j (⊎_elim inl (λ l. inr (omega arith)) s)
]

-- crossing a cell outside the mask changes no cell of the mask, and no later cell
across_same : (mask i k j : ℕ) → on mask i ≡ false → (on mask j ≡ true) ⊎ (i + 1 ≤ j) → on (across i k) j ≡ on k j
across_same mask i k j e s = across_other i k j (λ q. ⊎_elim (λ m. never_both m (ap (on mask) q ∙ e)) (λ l. omega arith) s)

pub spreading_start : (mask d : ℕ) → Spreading mask d 0 d
spreading_start mask d = record {
  has = λ c k h l e f. subst (λ (z : ℕ). on d z ≡ true) (equal_digits c k (λ j. f j (inr (omega arith)))) e;
  from = λ k h e. (k, h, e, λ j s. refl);
}

pub spreading_same : (mask d i r r' : ℕ) → on mask i ≡ true → r' ≡ r → Spreading mask d i r → Spreading mask d (i + 1) r'
spreading_same mask d i r r' m q s = subst (Spreading mask d (i + 1)) (sym q) (record {
  has = λ c k h l e f. s.has c k h l e (one_more mask i c k (f i (inl m)) f);
  from = λ k h e. let t = s.from k h e in (t.0, t.1, t.2, fewer mask i t.0 k t.3);
})

pub spreading_more : (mask d i r r' w : ℕ) → i < 6 → on mask i ≡ false → Joined r i w → r' ≡ w → Spreading mask d i r → Spreading mask d (i + 1) r'
spreading_more mask d i r r' w b m is q s = subst (Spreading mask d (i + 1)) (sym q) (record {
  has = λ c k h l e f. is.digit k l ∙ has c k h l e f (on c i) (on k i) refl refl;
  from = λ k h e. from k h (on r k) refl (sym (is.digit k h) ∙ e);
})
  where
    low : (k : ℕ) → k < 64 → across i k < 64
    low k h = xor_lt 6 k (2 ^ i) h (pow-lt b)

    here : (c k : ℕ) → c < 64 → k < 64 → on d c ≡ true → Matches mask (i + 1) c k → on c i ≡ on k i → orb (on r k) (on r (across i k)) ≡ true
    here c k h l e f t = ap (λ (x : Bool). orb x (on r (across i k))) (s.has c k h l e (one_more mask i c k t f))

    there : (c k : ℕ) → c < 64 → k < 64 → on d c ≡ true → Matches mask (i + 1) c k → on c i ≡ not (on k i) → orb (on r k) (on r (across i k)) ≡ true
    there c k h l e f t =
        let crossed : Matches mask (i + 1) c (across i k) = λ j a. f j a ∙ sym (across_same mask i k j m a) in
        ap (λ (x : Bool). orb (on r k) x) (s.has c (across i k) h (low k l) e (one_more mask i c (across i k) (t ∙ sym (across-here i k)) crossed)) ∙ or_true (on r k)

    has : (c k : ℕ) → c < 64 → k < 64 → on d c ≡ true → Matches mask (i + 1) c k → (x y : Bool) → on c i ≡ x → on k i ≡ y → orb (on r k) (on r (across i k)) ≡ true
    has c k h l e f true true u v = here c k h l e f (u ∙ sym v)
    has c k h l e f true false u v = there c k h l e f (u ∙ sym (ap not v))
    has c k h l e f false true u v = there c k h l e f (u ∙ sym (ap not v))
    has c k h l e f false false u v = here c k h l e f (u ∙ sym v)

    from : (k : ℕ) → k < 64 → (x : Bool) → on r k ≡ x → orb (on r k) (on r (across i k)) ≡ true → (c : ℕ) × (c < 64) × (on d c ≡ true) × Matches mask (i + 1) c k
    from k h true u e = let t = s.from k h u in (t.0, t.1, t.2, fewer mask i t.0 k t.3)
    from k h false u e =
        let t = s.from (across i k) (low k h) (sym (ap (λ (x : Bool). orb x (on r (across i k))) u) ∙ e) in
        (t.0, t.1, t.2, λ j a. fewer mask i t.0 (across i k) t.3 j a ∙ across_same mask i k j m a)

-- codes have no cells from 6 on, so the cells of the mask are those that count
pub spreading_end : (mask d r : ℕ) → mask < 256 → Spreading mask d 6 r → Spans mask d r
spreading_end mask d r b s = record {
  whole = λ c k h l e q. s.has c k h l e (λ j a. ⊎_elim (λ m. and_agree (j + 1) mask c k q j (omega arith) m) (λ n. on_above 6 c j h n ∙ sym (on_above 6 k j l n)) a);
  only = λ k h e. let t = s.from k h e in (t.0, t.1, t.2, agree_and 8 mask t.0 k b (λ j n m. t.3 j (inl m)));
}
