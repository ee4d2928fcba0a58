-- Of cells that may change places and that all outputs with a row so far read alike, the next output may be asked to read the first
-- ones: where it reads the second of two neighbours and not the first, exchanging the two makes its row smaller and leaves the rows so
-- far as they are. A row cannot become smaller for ever, so in the end it is in order. Assumes nothing.
use Rattle.std.specs.Prelude.{◌≡◌, refl, Bool, true, false, not, ◌⊎◌, ℕ, zero, suc, ◌-◌, ◌/◌, ◌^◌, ◌≤◌, ◌<◌}
use Rattle.std.proofs.Common.{sym, ap, ◌∙◌, subst, inl, inr, ⊎_elim, arith}
use Rattle.std.proofs.Math.Decide.{ℕ_discrete, dec_lt}
use Rattle.std.specs.Int.Bits.{bit_and}
use Rattle.bits.specs.Logic.{andb}
use Rattle.bits.specs.Digit.{on}
use Rattle.bits.specs.DigitLaws.{on_and, on_above, on_complement, on_none}
use Rattle.bits.specs.LogicLaws.{never_both, and_false}
use Rattle.bits.specs.CountLaws.{less_or_equal}
use Rattle.bits.specs.ShiftLaws.{on_half}
use Rattle.cells.specs.SwapLaws.{swapped-low, swapped_high, swapped_other, swapped_same, swapped_less, swapped_short, swapped-count, swapped_coded}
use Rattle.cells.specs.Swap.{swapped}
use Rattle.cells.specs.Reorder.{Exchangeable, InOrder, Off, Exchanged}

-- ---- in order or not
disordered : (same r n : ℕ) → ((i : ℕ) × (on same i ≡ true) × (on r (suc i) ≡ true) × (on r i ≡ false)) ⊎ ((i : ℕ) → i < n → on same i ≡ true → on r (suc i) ≡ true → on r i ≡ true)
disordered same r zero = inr (λ i h. absurd (omega arith))
disordered same r (suc n) = go (on same n) refl (on r (suc n)) refl (on r n) refl (disordered same r n)
  where
    Out : ℕ → Type 0
    Out n = ((i : ℕ) × (on same i ≡ true) × (on r (suc i) ≡ true) × (on r i ≡ false)) ⊎ ((i : ℕ) → i < n → on same i ≡ true → on r (suc i) ≡ true → on r i ≡ true)

    more : (on same n ≡ true → on r (suc n) ≡ true → on r n ≡ true) → Out n → Out (suc n)
    more f = ⊎_elim inl (λ g. inr (λ i h. ⊎_elim (g i) (λ e. subst (λ (z : ℕ). on same z ≡ true → on r (suc z) ≡ true → on r z ≡ true) (sym e) f) (less_or_equal i n h)))

    go : (a : Bool) → on same n ≡ a → (b : Bool) → on r (suc n) ≡ b → (c : Bool) → on r n ≡ c → Out n → Out (suc n)
    go false ea b eb c ec = more (λ s t. absurd (never_both s ea))
    go true ea false eb c ec = more (λ s t. absurd (never_both t eb))
    go true ea true eb true ec = more (λ s t. ec)
    go true ea true eb false ec = λ h. inl (n, ea, eb, ec)

-- the digits where a row of at most w cells has the next cell and not the cell itself are none of same
pub in_order_none : (w r same : ℕ) → r < 2 ^ w → InOrder same r → bit_and (bit_and (r / 2) (2 ^ w - 1 - r)) same ≡ 0
in_order_none w r same h s = on_none (bit_and (bit_and (r / 2) (2 ^ w - 1 - r)) same)
    (λ i. on_and (bit_and (r / 2) (2 ^ w - 1 - r)) same i ∙ ap (λ (b : Bool). andb b (on same i)) (on_and (r / 2) (2 ^ w - 1 - r) i) ∙ go i (on (r / 2) i) refl (on same i) refl)
  where
    go : (i : ℕ) (a : Bool) → on (r / 2) i ≡ a → (b : Bool) → on same i ≡ b → andb (andb a (on (2 ^ w - 1 - r) i)) b ≡ false
    go i false p b q = refl
    go i true p false q = and_false (on (2 ^ w - 1 - r) i)
    go i true p true q =
        let t : on r (suc i) ≡ true = on_half r i ∙ p in
        let l : i < w = elim (dec_lt i w) as (λ _. i < w) [ yes k ↦ k | no k ↦ absurd (never_both t (on_above w r (suc i) h (omega arith))) ] in
        ap (λ (x : Bool). andb x true) (on_complement w r i h l ∙ ap not (s i q t))

module _ (v j k u : ℕ) (Conflict : ℕ → ℕ → ℕ → Type 0) (Before : ℕ → Type 0) where
  -- ---- what is kept: by no exchange, by one, by one after another
  exchanged_none : (rows codes : ℕ → ℕ) → Exchanged v j k u Conflict Before rows codes rows codes
  exchanged_none rows codes = record {
    coded = λ c. c;
    before = λ p b. refl;
    counts = λ q n l. refl;
    short = λ q n l h. h;
    low = λ x n l h. h;
    rows_kept = λ q i h. refl;
    codes_kept = λ x i h. refl;
    off = λ x h. h;
  }

  kept : (i : ℕ) → k ≤ i → suc i < u → (n d : ℕ) → (d < k) ⊎ (u ≤ d) → on (swapped i n) d ≡ on n d
  kept i a b n d h = swapped_other i n d (λ e. outside d a (omega arith) e h) (λ e. outside d (omega arith) b e h)
    where
      outside : (d : ℕ) {z : ℕ} → k ≤ z → z < u → d ≡ z → (d < k) ⊎ (u ≤ d) → ⊥
      outside d a b e = ⊎_elim (λ l. omega arith) (λ l. omega arith)

  swapped_off : (i : ℕ) → k ≤ i → suc i < u → (n : ℕ) → Off k u n → Off k u (swapped i n)
  swapped_off i a b n h d p q = go (ℕ_discrete d i) (ℕ_discrete d (suc i))
    where
      go : Dec (d ≡ i) → Dec (d ≡ suc i) → on (swapped i n) d ≡ false
      go (yes e) f = ap (on (swapped i n)) e ∙ swapped-low i n ∙ h (suc i) (omega arith) b
      go (no e) (yes f) = ap (on (swapped i n)) f ∙ swapped_high i n ∙ h i a (omega arith)
      go (no e) (no f) = swapped_other i n d e f ∙ h d p q

  exchanged_once : (i : ℕ) (rows codes : ℕ → ℕ) → k ≤ i → suc i < u → ((p : ℕ) → Before p → on (rows p) i ≡ on (rows p) (suc i))
      → Exchanged v j k u Conflict Before rows codes (λ q. swapped i (rows q)) (λ x. swapped i (codes x))
  exchanged_once i rows codes a b s = record {
    coded = swapped_coded i v j Conflict rows codes;
    before = λ p h. swapped_same i (rows p) (s p h);
    counts = λ q n l. swapped-count i (rows q) n (omega arith);
    short = λ q n l h. swapped_short i (rows q) n (omega arith) h;
    low = λ x n l h. swapped_short i (codes x) n (omega arith) h;
    rows_kept = λ q d h. kept i a b (rows q) d h;
    codes_kept = λ x d h. kept i a b (codes x) d h;
    off = λ x h. swapped_off i a b (codes x) h;
  }

  exchanged_both : (rows codes rows₁ codes₁ rows₂ codes₂ : ℕ → ℕ) → Exchanged v j k u Conflict Before rows codes rows₁ codes₁
      → Exchanged v j k u Conflict Before rows₁ codes₁ rows₂ codes₂ → Exchanged v j k u Conflict Before rows codes rows₂ codes₂
  exchanged_both rows codes rows₁ codes₁ rows₂ codes₂ s t = record {
    coded = λ c. t.coded (s.coded c);
    before = λ p b. t.before p b ∙ s.before p b;
    counts = λ q n l. t.counts q n l ∙ s.counts q n l;
    short = λ q n l h. t.short q n l (s.short q n l h);
    low = λ x n l h. t.low x n l (s.low x n l h);
    rows_kept = λ q i h. t.rows_kept q i h ∙ s.rows_kept q i h;
    codes_kept = λ x i h. t.codes_kept x i h ∙ s.codes_kept x i h;
    off = λ x h. t.off x (s.off x h);
  }

  -- ---- the next output's row put in order
  module _ (o same : ℕ) where
    abbrev Reordered : (ℕ → ℕ) → (ℕ → ℕ) → Type 0
    Reordered rows codes = (rows' : ℕ → ℕ) × (codes' : ℕ → ℕ) × Exchanged v j k u Conflict Before rows codes rows' codes' × InOrder same (rows' o)

    reordered_within : (size : ℕ) (rows codes : ℕ → ℕ) → rows o < size → Exchangeable k u Before rows same → Reordered rows codes
    reordered_within zero rows codes h s = absurd (omega arith)
    reordered_within (suc size) rows codes h s = ⊎_elim
        (λ d.
        let i = d.0 in
        let rows₁ : ℕ → ℕ = λ q. swapped i (rows q) in
        let codes₁ : ℕ → ℕ = λ x. swapped i (codes x) in
        let t = exchanged_once i rows codes (s.from i d.1) (s.within i d.1) (λ p b. s.alike i p d.1 b) in
        let less : rows₁ o < rows o = swapped_less i (rows o) d.3 d.2 in
        let r = reordered_within size rows₁ codes₁ (omega arith) (again i rows codes s t) in
        (r.0, r.1, exchanged_both rows codes rows₁ codes₁ r.0 r.1 t r.2, r.3))
        (λ g. (rows, codes, exchanged_none rows codes, λ i e. g i (let l = s.within i e in omega arith) e))
        (disordered same (rows o) u)
      where
        again : (i : ℕ) (rows codes : ℕ → ℕ) → Exchangeable k u Before rows same
            → Exchanged v j k u Conflict Before rows codes (λ q. swapped i (rows q)) (λ x. swapped i (codes x))
            → Exchangeable k u Before (λ q. swapped i (rows q)) same
        again i rows codes s t = record {
          from = s.from;
          within = s.within;
          alike = λ d p e b. ap (λ (z : ℕ). on z d) (t.before p b) ∙ s.alike d p e b ∙ sym (ap (λ (z : ℕ). on z (suc d)) (t.before p b));
        }

    pub reordered : (rows codes : ℕ → ℕ) → Exchangeable k u Before rows same
        → (rows' : ℕ → ℕ) × (codes' : ℕ → ℕ) × Exchanged v j k u Conflict Before rows codes rows' codes' × InOrder same (rows' o)
    reordered rows codes s = reordered_within (suc (rows o)) rows codes (omega arith) s
