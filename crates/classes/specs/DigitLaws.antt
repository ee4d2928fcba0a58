-- Digits of a vertex and a free row joined in one number, and rows gathered by the inputs' digits: the row that joins a
-- vertex and a free row is gathered from the number that joins them. Assumes nothing.
use Rattle.std.specs.Prelude.{◌≡◌, Bool, true, false, List, [], ◌∷◌, ◌++◌, map, length}
use Rattle.std.proofs.Math.Path.{sym, ap}
use Rattle.std.proofs.Common.{subst, ◌∙◌, ⊎_elim, arith, mul_assoc, pow-suc, add-one, length-append}
use Rattle.std.proofs.lemmas.List.{map-append, length-map}
use Rattle.std.proofs.lemmas.Simd.{map-map}
use Prim.Native.Nat.{ℕ, suc, ◌+◌, ◌-◌, ◌*◌, ◌^◌, ◌<◌}
use Rattle.std.proofs.Math.Decide.{dec_lt}
use Rattle.std.proofs.Math.Pow.{high, low}
use Rattle.bits.specs.LogicLaws.{true_false, either}
use Rattle.bits.specs.Digit.{on}
use Rattle.bits.specs.DigitLaws.{on_above}
use Rattle.bits.specs.Logic.{bit}
use Rattle.bits.specs.ShiftLaws.{on_cut, on_shifted, on_below_shifted}
use Rattle.names.specs.Name.{Name, same_name, among}
use Rattle.rows.specs.Row.{row_of}
use Rattle.rows.specs.RowLaws.{row_lt}
use Rattle.rows.specs.PartLaws.{on_high}
use Rattle.formula.specs.Value.{on_row}
use Rattle.classes.specs.Columns.{free, on_parts, join_row, vertex_count}
use Rattle.classes.specs.Seen.{from_last, digit_of, gathered}
use Rattle.classes.specs.FreeLaws.{map_agree, unbound_free}
use Rattle.classes.specs.JoinLaws.{on-bound, on_free, rows_add}

-- ---- a number made of x below 2 ^ b and of y above
module _ (b x y : ℕ) (l : x < 2 ^ b) where
  on-lower : (p : ℕ) → p < b → on (y * 2 ^ b + x) p ≡ on x p
  on-lower p h = sym (on_cut b (y * 2 ^ b + x) p h) ∙ ap (λ (z : ℕ). on z p) (low y b l)

  on_upper : (p : ℕ) → on (y * 2 ^ b + x) (b + p) ≡ on y p
  on_upper p = sym (on_high b (y * 2 ^ b + x) p) ∙ ap (λ (z : ℕ). on z p) (high y b l)

-- each digit is a digit of one of the two
on-add : (b x y p : ℕ) → x < 2 ^ b → bit (on (y * 2 ^ b + x) p) ≡ bit (on x p) + bit (on (y * 2 ^ b) p)
on-add b x y p l =
    elim (dec_lt p b) as (λ _. bit (on (y * 2 ^ b + x) p) ≡ bit (on x p) + bit (on (y * 2 ^ b) p)) [
      | yes h ↦ rw (on-lower b x y l p h, on_below_shifted y b p h) (omega arith)
      | no g ↦ (let e : p ≡ b + (p - b) = omega arith in
          let none : on x p ≡ false = on_above b x p l (omega arith) in
          let both : on (y * 2 ^ b + x) p ≡ on y (p - b) = ap (on (y * 2 ^ b + x)) e ∙ on_upper b x y l (p - b) in
          let upper : on (y * 2 ^ b) p ≡ on y (p - b) = ap (on (y * 2 ^ b)) e ∙ on_shifted y b (p - b) in
          rw (both, upper, none) (omega arith))
    ]

-- ---- gathered rows
pub gathered-add : (l : List ℕ) (b x y : ℕ) → x < 2 ^ b → gathered l x + gathered l (y * 2 ^ b) ≡ gathered l (y * 2 ^ b + x)
unfolding gathered
gathered-add l b x y h = sym (rows_add (on x) (on (y * 2 ^ b)) (on (y * 2 ^ b + x)) (λ p. on-add b x y p h) l)

pub gathered-lt : (l : List ℕ) (z : ℕ) → gathered l z < 2 ^ length l
unfolding gathered
gathered-lt l z = subst (λ (j : ℕ). row_of (map (on z) l) < 2 ^ j) (length-map l (on z)) (row_lt (map (on z) l))

-- one value more, at the end
pub row_last : (l : List Bool) (b : Bool) → row_of (l ++ (b ∷ [])) ≡ 2 * row_of l + bit b
unfolding row_of
row_last [] b = omega arith
row_last (a ∷ l) b =
    let later : row_of (l ++ (b ∷ [])) ≡ 2 * row_of l + bit b = row_last l b in
    let long : length (l ++ (b ∷ [])) ≡ suc (length l) = length-append l (b ∷ []) ∙ add-one (length l) in
    let twice : bit a * 2 ^ suc (length l) ≡ bit a * 2 ^ length l * 2
    = ap (λ (k : ℕ). bit a * k) (pow-suc 2 (length l)) ∙ sym (mul_assoc (bit a) (2 ^ length l) 2) in
    rw (long, later) (omega arith)

pub gathered-last : (l : List ℕ) (p z : ℕ) → gathered (l ++ (p ∷ [])) z ≡ 2 * gathered l z + bit (on z p)
unfolding gathered
gathered-last l p z = ap row_of (map-append (on z) l (p ∷ [])) ∙ row_last (map (on z) l) (on z p)

-- ---- digits of inputs
pub from_last_lt : (ms : List Name) (n : Name) → among n ms ≡ true → from_last ms n < length ms
unfolding from_last among
from_last_lt [] n e = absurd (true_false (sym e))
from_last_lt (m ∷ ms) n e =
    ⊎_elim
    (λ s. rw s (omega arith))
    (λ s. let later : from_last ms n < length ms = from_last_lt ms n (rw s at e) in rw s (omega arith))
    (either (same_name m n))

pub from_last_row : (ms : List Name) (n : Name) (r : ℕ) → among n ms ≡ true → on_row ms r n ≡ on r (from_last ms n)
unfolding from_last among on_row
from_last_row [] n r e = absurd (true_false (sym e))
from_last_row (m ∷ ms) n r e =
    ⊎_elim
    (λ s. rw s)
    (λ s. let later : on_row ms r n ≡ on r (from_last ms n) = from_last_row ms n r (rw s at e) in rw s later)
    (either (same_name m n))

pub digit_if_bound : (bs fs : List Name) (n : Name) → among n bs ≡ true → digit_of bs fs n ≡ from_last bs n
unfolding digit_of
digit_if_bound bs fs n e = rw e

pub digit_if_free : (bs fs : List Name) (n : Name) → among n bs ≡ false → digit_of bs fs n ≡ length bs + from_last fs n
unfolding digit_of
digit_if_free bs fs n e = rw e

module _ (ns bs : List Name) (x y : ℕ) (l : x < vertex_count bs) where
  on-digit : (n : Name) → among n ns ≡ true
      → on_parts bs (free ns bs) x y n ≡ on (y * vertex_count bs + x) (digit_of bs (free ns bs) n)
  on-digit n h =
      let b = length bs in
      let fs : List Name = free ns bs in
      ⊎_elim
      (λ e.
      on-bound bs fs x y n e ∙ from_last_row bs n x e ∙ sym (on-lower b x y l (from_last bs n) (from_last_lt bs n e))
      ∙ ap (on (y * 2 ^ b + x)) (sym (digit_if_bound bs fs n e)))
      (λ e.
      on_free bs fs x y n e ∙ from_last_row fs n y (unbound_free ns bs n h e) ∙ sym (on_upper b x y l (from_last fs n))
      ∙ ap (on (y * 2 ^ b + x)) (sym (digit_if_free bs fs n e)))
      (either (among n bs))

  -- the row that joins a vertex and a free row
  pub join-gathered : join_row ns bs x y ≡ gathered (map (digit_of bs (free ns bs)) ns) (y * vertex_count bs + x)
  unfolding join_row gathered
  join-gathered =
      let z : ℕ = y * vertex_count bs + x in
      ap row_of
      (map_agree (on_parts bs (free ns bs) x y) (λ n. on z (digit_of bs (free ns bs) n)) ns on-digit
      ∙ sym (map-map (on z) (digit_of bs (free ns bs)) ns))
