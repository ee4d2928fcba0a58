-- The numbers of a mask, one more number at a time, and how many there are; maps over them; the same numbers from the first
-- on. A mask below 2 ^ i has only numbers below i, and 2 ^ i added to it is number i. Assumes nothing.
use Rattle.std.specs.Prelude.{◌≡◌, Bool, true, false, List, [], ◌∷◌, ◌++◌, map, ℕ, zero, suc, ◌+◌, ◌-◌, ◌*◌, ◌/◌, ◌%◌, ◌^◌, ◌≤◌, ◌<◌, length}
use Rattle.std.proofs.Math.Path.{refl, ap}
use Rattle.std.proofs.Common.{sym, ap₂, ◌∙◌, append-nil, append_assoc, arith, mod-eq_of_lt, one-mul, pow-suc, add-zero, zero-add, add-suc, suc-add, add-one, length-append, pow_mono}
use Rattle.std.proofs.lemmas.List.{map-append, length-map}
use Rattle.std.proofs.Math.Dec.{eqb}
use Rattle.std.proofs.Math.Pow.{high, low}
use Rattle.bits.specs.Logic.{pick, bit}
use Rattle.bits.specs.Digit.{on, digit}
use Rattle.bits.specs.DigitLaws.{on_above}
use Rattle.limits.specs.Limits.{max_cells, max_codes}
use Rattle.bits.specs.ShiftLaws.{on_cut}
use Rattle.rows.specs.Row.{row_of}
use Rattle.rows.specs.RowLaws.{row_lt}
use Rattle.classes.specs.DigitLaws.{row_last}
use Rattle.network.specs.Numbers.{numbers_of}

-- ---- one number more
pub numbers-hit : (u m : ℕ) → on m u ≡ true → numbers_of (u + 1) m ≡ numbers_of u m ++ (u ∷ [])
unfolding numbers_of
numbers-hit u m e = rw (add-one u, e) refl

pub numbers_miss : (u m : ℕ) → on m u ≡ false → numbers_of (u + 1) m ≡ numbers_of u m
unfolding numbers_of
numbers_miss u m e = rw (add-one u, e) (append-nil (numbers_of u m))

pub count_none : (m : ℕ) → 0 ≡ length (numbers_of 0 m)
unfolding numbers_of
count_none m = refl

pub count-hit : (u m n : ℕ) → n ≡ length (numbers_of u m) → on m u ≡ true → n + 1 ≡ length (numbers_of (u + 1) m)
count-hit u m n h e =
    let a : length (numbers_of (u + 1) m) ≡ length (numbers_of u m) + 1
    = ap length (numbers-hit u m e) ∙ length-append (numbers_of u m) (u ∷ []) in
    omega arith

pub count_miss : (u m n : ℕ) → n ≡ length (numbers_of u m) → on m u ≡ false → n ≡ length (numbers_of (u + 1) m)
count_miss u m n h e = h ∙ ap length (sym (numbers_miss u m e))

pick-most : (b : Bool) (u : ℕ) → length (pick b (u ∷ []) []) ≤ 1
pick-most true u = omega arith
pick-most false u = omega arith

pub count_most : (u m : ℕ) → length (numbers_of u m) ≤ u
unfolding numbers_of
count_most zero m = omega arith
count_most (suc u) m =
    let a = count_most u m in
    let b = pick-most (on m u) u in
    let e = length-append (numbers_of u m) (pick (on m u) (u ∷ []) []) in
    omega arith

map-pick : (f g : ℕ → Bool) (b : Bool) (u : ℕ) → f u ≡ g u → map f (pick b (u ∷ []) []) ≡ map g (pick b (u ∷ []) [])
map-pick f g true u e = ap (λ (x : Bool). x ∷ []) e
map-pick f g false u e = refl

pub map-numbers : (f g : ℕ → Bool) (u m : ℕ) → ((i : ℕ) → i < u → f i ≡ g i) → map f (numbers_of u m) ≡ map g (numbers_of u m)
unfolding numbers_of
map-numbers f g zero m h = refl
map-numbers f g (suc u) m h =
    map-append f (numbers_of u m) (pick (on m u) (u ∷ []) [])
    ∙ ap₂ (λ (k l : List Bool). k ++ l) (map-numbers f g u m (λ i l. h i (omega arith))) (map-pick f g (on m u) u (h u (omega arith)))
    ∙ sym (map-append g (numbers_of u m) (pick (on m u) (u ∷ []) []))

-- ---- the code of a vertex in the tables of a mask: f has the value of each table there, the lowest is the highest digit
module _ (f : ℕ → Bool) (m : ℕ) where
  pub code_none : 0 ≡ row_of (map f (numbers_of 0 m))
  unfolding numbers_of row_of
  code_none = refl

  pub code_hit : (u c v : ℕ) → c ≡ row_of (map f (numbers_of u m)) → on m u ≡ true → v ≡ bit (f u) → 2 * c + v ≡ row_of (map f (numbers_of (u + 1) m))
  code_hit u c v h e g =
      let a : row_of (map f (numbers_of (u + 1) m)) ≡ 2 * row_of (map f (numbers_of u m)) + bit (f u)
      = ap row_of (ap (map f) (numbers-hit u m e) ∙ map-append f (numbers_of u m) (u ∷ [])) ∙ row_last (map f (numbers_of u m)) (f u) in
      omega arith

  pub code_miss : (u c : ℕ) → c ≡ row_of (map f (numbers_of u m)) → on m u ≡ false → c ≡ row_of (map f (numbers_of (u + 1) m))
  code_miss u c h e = h ∙ ap (λ (is : List ℕ). row_of (map f is)) (sym (numbers_miss u m e))

  pub code_small : (u : ℕ) → u ≤ max_cells → row_of (map f (numbers_of u m)) < max_codes
  code_small u h =
      let l : List Bool = map f (numbers_of u m) in
      let e : length l ≡ length (numbers_of u m) = length-map (numbers_of u m) f in
      let p : 2 ^ length l ≤ max_codes = pow_mono {i = length l} {j = max_cells} (omega (arith, count_most u m)) in
      omega (arith, row_lt l)

-- ---- the numbers among the k from i on: for proofs that begin with the lowest
unfoldable pub numbers_from : ℕ → ℕ → ℕ → List ℕ
numbers_from zero i m = []
numbers_from (suc k) i m =
    let later = numbers_from k (suc i) m in
    pick (on m i) (i ∷ later) later

pick-front : (b : Bool) (i : ℕ) (l : List ℕ) → pick b (i ∷ []) [] ++ l ≡ pick b (i ∷ l) l
pick-front true i l = refl
pick-front false i l = refl

from_upto : (k i m : ℕ) → numbers_of (i + k) m ≡ numbers_of i m ++ numbers_from k i m
unfolding numbers_of numbers_from
from_upto zero i m = rw add-zero (sym (append-nil (numbers_of i m)))
from_upto (suc k) i m =
    ap (λ (u : ℕ). numbers_of u m) (add-suc i k ∙ sym (suc-add i k)) ∙ from_upto k (suc i) m
    ∙ append_assoc (numbers_of i m) (pick (on m i) (i ∷ []) []) (numbers_from k (suc i) m)
    ∙ ap (λ (l : List ℕ). numbers_of i m ++ l) (pick-front (on m i) i (numbers_from k (suc i) m))

pub numbers-from : (u m : ℕ) → numbers_of u m ≡ numbers_from u 0 m
unfolding numbers_of
numbers-from u m = ap (λ (k : ℕ). numbers_of k m) (sym (zero-add u)) ∙ from_upto u 0 m

-- ---- a number added to a mask
numbers_by_digits : (u m n : ℕ) → ((k : ℕ) → k < u → on m k ≡ on n k) → numbers_of u m ≡ numbers_of u n
unfolding numbers_of
numbers_by_digits zero m n h = refl
numbers_by_digits (suc u) m n h =
    ap₂ (λ (is : List ℕ) (b : Bool). is ++ pick b (u ∷ []) []) (numbers_by_digits u m n (λ k l. h k (omega arith))) (h u (omega arith))

module _ (i m : ℕ) (small : m < 2 ^ i) where
  turned : m + 2 ^ i ≡ 1 * 2 ^ i + m
  turned = let e = one-mul (2 ^ i) in omega arith

  -- its digits below i are those of m, and digit i is 1
  with_low : (k : ℕ) → k < i → on (m + 2 ^ i) k ≡ on m k
  with_low k h =
      sym (on_cut i (m + 2 ^ i) k h) ∙ ap (λ (x : ℕ). on x k) (ap (λ (x : ℕ). x % 2 ^ i) turned ∙ low 1 i small)

  with_top : on (m + 2 ^ i) i ≡ true
  unfolding on digit
  with_top = ap (λ (x : ℕ). eqb (x % 2) 1) (ap (λ (x : ℕ). x / 2 ^ i) turned ∙ high 1 i small)

  pub numbers_with : numbers_of (i + 1) (m + 2 ^ i) ≡ numbers_of i m ++ (i ∷ [])
  numbers_with = numbers-hit i (m + 2 ^ i) with_top ∙ ap (λ (is : List ℕ). is ++ (i ∷ [])) (numbers_by_digits i (m + 2 ^ i) m with_low)

  pub numbers-without : numbers_of (i + 1) m ≡ numbers_of i m
  numbers-without = numbers_miss i m (on_above i m i small (omega arith))

  pub mask_with : m + 2 ^ i < 2 ^ (i + 1)
  mask_with =
      let e : 2 ^ (i + 1) ≡ 2 ^ i * 2 = ap (λ (k : ℕ). 2 ^ k) (add-one i) ∙ pow-suc 2 i in
      omega arith

  pub mask-without : m < 2 ^ (i + 1)
  mask-without = let e = mask_with in omega arith

  pub count_with : length (numbers_of (i + 1) (m + 2 ^ i)) ≡ length (numbers_of i m) + 1
  count_with = ap length numbers_with ∙ length-append (numbers_of i m) (i ∷ [])

-- the power as the code shifts it, in eight bits
pub shifted_byte : (i : ℕ) → i < 8 → (1 * 2 ^ i) % 256 ≡ 2 ^ i
shifted_byte i h =
    let a : 2 ^ i ≤ 2 ^ 7 = pow_mono {j = 7} (omega arith) in
    ap (λ (x : ℕ). x % 256) (one-mul (2 ^ i)) ∙ mod-eq_of_lt (omega arith)

-- a mask of the numbers of shared tables stays one in eight bits
pub mask_fits : (i m : ℕ) → i < max_cells → m < 2 ^ i → m + 2 ^ i < max_codes
mask_fits i m h small =
    let a : 2 ^ i ≤ 2 ^ (max_cells - 1) = pow_mono {j = max_cells - 1} (omega arith) in
    omega arith
