-- Two values of a group of cells exchanged. Cells with the same readers form a group g; their values at a vertex together are
-- one value of the group. Every output reads all of the group or none of it, so exchanging two values at every vertex leaves
-- each output's blocks as they were, and a solution stays a solution. Assumes nothing.
use Rattle.std.specs.Prelude.{◌≡◌, ℕ, ◌-◌, ◌^◌, ◌<◌, ◌≤◌, Bool, true, false, not, List, [], ◌∷◌, length, ◌==◌, ◌≢◌, bit_and, bit_or, refl}
use Rattle.std.proofs.Common.{sym, ap, ap₂, ◌∙◌, inl, inr, arith, eq-eqb, ne_eqb}
use Rattle.std.proofs.Math.Decide.{ℕ_discrete, dec_lt}
use Rattle.std.proofs.lemmas.Nat.{and_le_r}
use Rattle.bits.specs.Logic.{andb, orb, pick}
use Rattle.bits.specs.LogicLaws.{and_left, never_both, and_true, and_false, or_false}
use Rattle.bits.specs.Digit.{on}
use Rattle.bits.specs.DigitLaws.{on_and, on_or, on_zero, on_above, on_complement, on-ones, equal_digits}
use Rattle.cells.specs.PigeonLaws.{agree_and, and_agree}
use Rattle.cells.specs.ListLaws.{all_map, pairs_map}
use Rattle.cells.specs.Lists.{All, Pairs}
use Rattle.cells.specs.Shared.{block}
use Rattle.problem.specs.Problem.{label_at, part_of, item, Solves}
use Rattle.coding.specs.Exchange.{Uniform, SameBlocks}

-- ======== exchanging two values
abbrev other : ℕ → ℕ → ℕ → ℕ
other a b p = pick (p == a) b (pick (p == b) a p)

other_a : (a b p : ℕ) → p ≡ a → other a b p ≡ b
other_a a b p e = ap (λ (t : Bool). pick t b (pick (p == b) a p)) (eq-eqb p a e)

other_b : (a b p : ℕ) → (p ≢ a) → p ≡ b → other a b p ≡ a
other_b a b p ne e = ap (λ (t : Bool). pick t b (pick (p == b) a p)) (ne_eqb p a ne) ∙ ap (λ (t : Bool). pick t a p) (eq-eqb p b e)

other_c : (a b p : ℕ) → (p ≢ a) → (p ≢ b) → other a b p ≡ p
other_c a b p na nb = ap (λ (t : Bool). pick t b (pick (p == b) a p)) (ne_eqb p a na) ∙ ap (λ (t : Bool). pick t a p) (ne_eqb p b nb)

other_same : (a b p q : ℕ) → other a b p ≡ other a b q → p ≡ q
other_same a b p q e = go (ℕ_discrete p a) (ℕ_discrete p b) (ℕ_discrete q a) (ℕ_discrete q b)
  where
    go : Dec (p ≡ a) → Dec (p ≡ b) → Dec (q ≡ a) → Dec (q ≡ b) → p ≡ q
    go (yes pa) pb (yes qa) qb = pa ∙ sym qa
    go (yes pa) pb (no qa) (yes qb) = pa ∙ sym (other_b a b q qa qb) ∙ sym e ∙ other_a a b p pa ∙ sym qb
    go (yes pa) pb (no qa) (no qb) = absurd (qb (sym (other_c a b q qa qb) ∙ sym e ∙ other_a a b p pa))
    go (no pa) (yes pb) (yes qa) qb = pb ∙ sym (other_a a b q qa) ∙ sym e ∙ other_b a b p pa pb ∙ sym qa
    go (no pa) (yes pb) (no qa) (yes qb) = pb ∙ sym qb
    go (no pa) (yes pb) (no qa) (no qb) = absurd (qa (sym (other_c a b q qa qb) ∙ sym e ∙ other_b a b p pa pb))
    go (no pa) (no pb) (yes qa) qb = absurd (pb (sym (other_c a b p pa pb) ∙ e ∙ other_a a b q qa))
    go (no pa) (no pb) (no qa) (yes qb) = absurd (pa (sym (other_c a b p pa pb) ∙ e ∙ other_b a b q qa qb))
    go (no pa) (no pb) (no qa) (no qb) = sym (other_c a b p pa pb) ∙ e ∙ other_c a b q qa qb

-- a code with another value of the group
abbrev renamed : ℕ → ℕ → ℕ → ℕ
renamed g t c = bit_or (bit_and c (2 ^ 8 - 1 - g)) (bit_and t g)

module _ (g : ℕ) (low : g < 64) where
  renamed-on : (t c i : ℕ) → i < 8 → on (renamed g t c) i ≡ orb (andb (on c i) (not (on g i))) (andb (on t i) (on g i))
  renamed-on t c i l = on_or (bit_and c (2 ^ 8 - 1 - g)) (bit_and t g) i
      ∙ ap₂ orb (on_and c (2 ^ 8 - 1 - g) i ∙ ap (λ (b : Bool). andb (on c i) b) (on_complement 8 g i (omega arith) l)) (on_and t g i)

  renamed_in : (t c i : ℕ) → i < 6 → on g i ≡ true → on (renamed g t c) i ≡ on t i
  renamed_in t c i l e = renamed-on t c i (omega arith) ∙ ap (λ (b : Bool). orb (andb (on c i) (not b)) (andb (on t i) b)) e ∙ ap₂ orb (and_false (on c i)) (and_true (on t i))

  renamed_out : (t c i : ℕ) → i < 6 → on g i ≡ false → on (renamed g t c) i ≡ on c i
  renamed_out t c i l e = renamed-on t c i (omega arith) ∙ ap (λ (b : Bool). orb (andb (on c i) (not b)) (andb (on t i) b)) e ∙ ap₂ orb (and_true (on c i)) (and_false (on t i)) ∙ or_false (on c i)

  -- the code c with values a and b of the group exchanged
  abbrev pub swap : ℕ → ℕ → ℕ → ℕ
  swap a b c = renamed g (other (bit_and a g) (bit_and b g) (bit_and c g)) c

  value_of : (t : ℕ) → bit_and (bit_and t g) g ≡ bit_and t g
  value_of t = agree_and 6 g (bit_and t g) t low (λ i l e. on_and t g i ∙ ap (λ (b : Bool). andb (on t i) b) e ∙ and_true (on t i))

  other-value : (a b c : ℕ) → bit_and (other (bit_and a g) (bit_and b g) (bit_and c g)) g ≡ other (bit_and a g) (bit_and b g) (bit_and c g)
  other-value a b c = go (bit_and c g == bit_and a g) (bit_and c g == bit_and b g)
    where
      go : (p q : Bool) → bit_and (pick p (bit_and b g) (pick q (bit_and a g) (bit_and c g))) g ≡ pick p (bit_and b g) (pick q (bit_and a g) (bit_and c g))
      go true q = value_of b
      go false true = value_of a
      go false false = value_of c

  swap-value : (a b c : ℕ) → bit_and (swap a b c) g ≡ other (bit_and a g) (bit_and b g) (bit_and c g)
  swap-value a b c = agree_and 6 g (swap a b c) (other (bit_and a g) (bit_and b g) (bit_and c g)) low (λ i l e. renamed_in _ c i l e) ∙ other-value a b c

  -- a value that is neither keeps the code, as far as its first six digits go
  swap-kept : (a b c i : ℕ) → i < 6 → (bit_and c g ≢ bit_and a g) → (bit_and c g ≢ bit_and b g) → on (swap a b c) i ≡ on c i
  swap-kept a b c i l na nb = go (on g i) refl
    where
      go : (t : Bool) → on g i ≡ t → on (swap a b c) i ≡ on c i
      go true e = renamed_in (other (bit_and a g) (bit_and b g) (bit_and c g)) c i l e ∙ ap (λ (z : ℕ). on z i) (other_c (bit_and a g) (bit_and b g) (bit_and c g) na nb) ∙ on_and c g i ∙ ap
          (λ (t : Bool). andb (on c i) t) e ∙ and_true (on c i)
      go false e = renamed_out (other (bit_and a g) (bit_and b g) (bit_and c g)) c i l e

  -- exchanging values keeps blocks: one way
  swap_there : (a b c d m : ℕ) → m < 64 → Uniform m g → bit_and c m ≡ bit_and d m → bit_and (swap a b c) m ≡ bit_and (swap a b d) m
  swap_there a b c d m h u e = agree_and 6 m (swap a b c) (swap a b d) h (λ i l t. digit i l t (on g i) refl u)
    where
      digit : (i : ℕ) → i < 6 → on m i ≡ true → (t : Bool) → on g i ≡ t → Uniform m g → on (swap a b c) i ≡ on (swap a b d) i
      digit i l t false w u = renamed_out (other (bit_and a g) (bit_and b g) (bit_and c g)) c i l w ∙ and_agree 6 m c d e i l t
          ∙ sym (renamed_out (other (bit_and a g) (bit_and b g) (bit_and d g)) d i l w)
      digit i l t true w (inr z) = absurd (never_both (on_and m g i ∙ ap₂ andb t w) (ap (λ (n : ℕ). on n i) z ∙ on_zero i))
      digit i l t true w (inl z) = renamed_in (other (bit_and a g) (bit_and b g) (bit_and c g)) c i l w ∙ ap (λ (n : ℕ). on (other (bit_and a g) (bit_and b g) n) i) same ∙ sym
          (renamed_in (other (bit_and a g) (bit_and b g) (bit_and d g)) d i l w)
        where
          all : (i : ℕ) → on g i ≡ true → on m i ≡ true
          all i w = and_left (on m i) (on g i) (sym (on_and m g i) ∙ ap (λ (n : ℕ). on n i) z ∙ w)

          same : bit_and c g ≡ bit_and d g
          same = agree_and 6 g c d low (λ i l w. and_agree 6 m c d e i l (all i w))

  -- and the other
  swap_back : (a b c d m : ℕ) → m < 64 → Uniform m g → bit_and (swap a b c) m ≡ bit_and (swap a b d) m → bit_and c m ≡ bit_and d m
  swap_back a b c d m h u e = agree_and 6 m c d h (λ i l t. digit i l t (on g i) refl u)
    where
      digit : (i : ℕ) → i < 6 → on m i ≡ true → (t : Bool) → on g i ≡ t → Uniform m g → on c i ≡ on d i
      digit i l t false w u = sym (renamed_out (other (bit_and a g) (bit_and b g) (bit_and c g)) c i l w) ∙ and_agree 6 m (swap a b c) (swap a b d) e i l t ∙ renamed_out
          (other (bit_and a g) (bit_and b g) (bit_and d g)) d i l w
      digit i l t true w (inr z) = absurd (never_both (on_and m g i ∙ ap₂ andb t w) (ap (λ (n : ℕ). on n i) z ∙ on_zero i))
      digit i l t true w (inl z) = and_agree 6 g c d same i l w
        where
          all : (i : ℕ) → on g i ≡ true → on m i ≡ true
          all i w = and_left (on m i) (on g i) (sym (on_and m g i) ∙ ap (λ (n : ℕ). on n i) z ∙ w)

          same : bit_and c g ≡ bit_and d g
          same = other_same (bit_and a g) (bit_and b g) (bit_and c g) (bit_and d g)
              (sym (swap-value a b c) ∙ agree_and 6 g (swap a b c) (swap a b d) low (λ i l w. and_agree 6 m (swap a b c) (swap a b d) e i l (all i w)) ∙ swap-value a b d)

  pub swap_blocks : (ms : List ℕ) (v j a b : ℕ) (f : ℕ → ℕ) → ((o : ℕ) → o < j → item ms o < 64) → ((o : ℕ) → o < j → Uniform (item ms o) g) → SameBlocks ms v j f (λ (x : ℕ). swap a b (f x))
  swap_blocks ms v j a b f short u = record {
    there = λ o x y h p q e. swap_there a b (f x) (f y) (item ms o) (short o h) (u o h) e;
    back = λ o x y h p q e. swap_back a b (f x) (f y) (item ms o) (short o h) (u o h) e;
  }

  -- a code below 64 stays below 64
  pub swap-small : (a b c : ℕ) → c < 64 → swap a b c < 64
  swap-small a b c h = below (swap a b c) (λ i l. on_or (bit_and c (2 ^ 8 - 1 - g)) (bit_and (other (bit_and a g) (bit_and b g) (bit_and c g)) g) i
      ∙ ap₂ orb (on_and c (2 ^ 8 - 1 - g) i ∙ ap (λ (t : Bool). andb t (on (2 ^ 8 - 1 - g) i)) (on_above 6 c i h l))
      (on_and (other (bit_and a g) (bit_and b g) (bit_and c g)) g i ∙ ap (λ (t : Bool). andb (on (other (bit_and a g) (bit_and b g) (bit_and c g)) i) t) (on_above 6 g i low l) ∙ and_false
      (on (other (bit_and a g) (bit_and b g) (bit_and c g)) i)))
    where
      below : (n : ℕ) → ((i : ℕ) → 6 ≤ i → on n i ≡ false) → n < 64
      below n z = let e : bit_and n 63 ≡ n = equal_digits (bit_and n 63) n (λ i. on_and n 63 i ∙ case i (dec_lt i 6)) in let w = and_le_r n 63 in omega arith
        where
          case : (i : ℕ) → Dec (i < 6) → andb (on n i) (on 63 i) ≡ on n i
          case i (yes l) = ap (λ (b : Bool). andb (on n i) b) (on-ones 6 i l) ∙ and_true (on n i)
          case i (no l) = ap (λ (b : Bool). andb b (on 63 i)) (z i (omega arith)) ∙ sym (z i (omega arith))

  -- a code below 64 with neither value stays
  pub swap_stays : (a b c : ℕ) → c < 64 → (bit_and c g ≢ bit_and a g) → (bit_and c g ≢ bit_and b g) → swap a b c ≡ c
  swap_stays a b c h na nb = equal_digits (swap a b c) c (λ i. case i (dec_lt i 6))
    where
      case : (i : ℕ) → Dec (i < 6) → on (swap a b c) i ≡ on c i
      case i (yes l) = swap-kept a b c i l na nb
      case i (no l) = on_above 6 (swap a b c) i (swap-small a b c h) (omega arith) ∙ sym (on_above 6 c i h (omega arith))

  -- a becomes b
  pub swap_first : (a b : ℕ) → bit_and (swap a b a) g ≡ bit_and b g
  swap_first a b = swap-value a b a ∙ other_a (bit_and a g) (bit_and b g) (bit_and a g) refl

  -- outside of the group nothing changes
  pub swap-outside : (a b c i : ℕ) → i < 6 → on g i ≡ false → on (swap a b c) i ≡ on c i
  swap-outside a b c i l e = renamed_out (other (bit_and a g) (bit_and b g) (bit_and c g)) c i l e

-- ======== solutions with the same blocks
pub solves_alike : (cl base ms caps spots : List ℕ) (v j : ℕ) (g h : ℕ → ℕ) → SameBlocks ms v j g h
    → ((x : ℕ) → x < v → h x < 64) → Solves cl base ms caps spots v j g → Solves cl base ms caps spots v j h
solves_alike cl base ms caps spots v j g h s small f = record {
  fits = record { crowd = crowd; places = places; needs = needs_of };
  small = small;
}
  where
    crowd : (o t b : ℕ) (xs : List ℕ) → o < j → All (λ (x : ℕ). (x < v) × (part_of cl o x ≡ t) × (block (item ms) h o x ≡ b)) xs → Pairs (λ (x y : ℕ). label_at cl o x ≢ label_at cl o y) xs
        → length xs ≤ item caps o
    crowd o t b [] k a p = omega arith
    crowd o t b (x ∷ xs) k a p = f.fits.crowd o t (block (item ms) g o x) (x ∷ xs) k (
      (a.0.0, a.0.1, refl),
      all_map (λ (x : ℕ). (x < v) × (part_of cl o x ≡ t) × (block (item ms) h o x ≡ b))
          (λ (y : ℕ). (y < v) × (part_of cl o y ≡ t) × (block (item ms) g o y ≡ block (item ms) g o x)) xs (λ y q. (q.0, q.1, s.back o y x k q.0 a.0.0 (q.2 ∙ sym a.0.2))) a.1,
    )
        p

    places : (o t : ℕ) (xs : List ℕ) → o < j → All (λ (x : ℕ). (x < v) × (part_of cl o x ≡ t)) xs
        → Pairs (λ (x y : ℕ). label_at cl o x ≡ label_at cl o y → block (item ms) h o x ≢ block (item ms) h o y) xs → length xs ≤ item spots o
    places o t xs k a p = f.fits.places o t xs k a (pairs_map (λ (x : ℕ). (x < v) × (part_of cl o x ≡ t))
        (λ (x y : ℕ). label_at cl o x ≡ label_at cl o y → block (item ms) h o x ≢ block (item ms) h o y)
        (λ (x y : ℕ). label_at cl o x ≡ label_at cl o y → block (item ms) g o x ≢ block (item ms) g o y) xs (λ x y q r d e b. d e (s.there o x y k q.0 r.0 b)) a p)

    needs_of : (o l : ℕ) → o < j → l < 32
        → (xs : List ℕ) × All (λ (x : ℕ). (x < v) × (label_at cl o x ≡ l)) xs × Pairs (λ (x y : ℕ). block (item ms) h o x ≢ block (item ms) h o y) xs × (label_at base o l ≤ length xs)
    needs_of o l k i =
        let r = f.fits.needs o l k i in (
          r.0,
          r.1,
          pairs_map (λ (x : ℕ). (x < v) × (label_at cl o x ≡ l)) (λ (x y : ℕ). block (item ms) g o x ≢ block (item ms) g o y)
              (λ (x y : ℕ). block (item ms) h o x ≢ block (item ms) h o y) r.0 (λ x y q t d e. d (s.back o x y k q.0 t.0 e)) r.1 r.2,
          r.3,
        )
