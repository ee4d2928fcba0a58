-- Both ways between lists of cells and numbers. A list of cells is a number for each output and each vertex, digit by digit; and numbers
-- give a list of cells that serves where the numbers tell apart and no row has more digits than the output's budget: a cell that tells
-- two vertices apart is a digit that the output reads and in which the two codes differ. Assumes nothing.
use Rattle.std.specs.Prelude.{◌≡◌, refl, Bool, true, false, List, [], ◌∷◌, ◌⊎◌, ℕ, zero, suc, ◌+◌, ◌*◌, ◌/◌, ◌%◌, ◌^◌, ◌≤◌, ◌<◌, length}
use Rattle.std.proofs.Common.{sym, ap, ap₂, ◌∙◌, subst, inl, inr, ⊎_elim, arith, pow-suc}
use Rattle.bits.specs.LogicLaws.{true_false, never_both, bit_le}
use Rattle.bits.specs.Digit.{digit, on}
use Rattle.bits.specs.DigitLaws.{on_zero}
use Rattle.bits.specs.Count.{count}
use Rattle.bits.specs.CountLaws.{less_or_equal, count-alike, count_shift}
use Rattle.bits.specs.Logic.{bit}
use Rattle.bits.specs.ShiftLaws.{on_half}
use Rattle.cells.specs.PigeonLaws.{agree_and}
use Rattle.cells.specs.Core.{Cell, Apart, reading, Serves, ZeroFirst, cells_from, core_of}
use Rattle.cells.specs.Codes.{Coded, number_of, row_of, code_of, digits_of}

-- ======== digits
pub on-low : (b : Bool) (n : ℕ) → on (bit b + 2 * n) 0 ≡ b
unfolding on digit
on-low true n = let e : (1 + 2 * n) / 1 % 2 ≡ 1 = omega arith in rw e refl
on-low false n = let e : (0 + 2 * n) / 1 % 2 ≡ 0 = omega arith in rw e refl

pub on_high : (b : Bool) (n i : ℕ) → on (bit b + 2 * n) (suc i) ≡ on n i
on_high b n i = on_half (bit b + 2 * n) i ∙ ap (λ (z : ℕ). on z i) (let h = bit_le b in let e : (bit b + 2 * n) / 2 ≡ n = omega arith in e)

pub on_digits : (p : ℕ → Bool) (n i : ℕ) → i < n → on (digits_of p n) i ≡ p i
unfolding digits_of
on_digits p zero i h = absurd (omega arith)
on_digits p (suc n) zero h = on-low (p 0) (digits_of (λ (i : ℕ). p (suc i)) n)
on_digits p (suc n) (suc i) h = on_high (p 0) (digits_of (λ (i : ℕ). p (suc i)) n) i ∙ on_digits (λ (i : ℕ). p (suc i)) n i (omega arith)

pub digits_none : (p : ℕ → Bool) (n : ℕ) → ((i : ℕ) → p i ≡ false) → digits_of p n ≡ 0
unfolding digits_of
digits_none p zero h = refl
digits_none p (suc n) h = ap₂ (λ (a b : ℕ). a + 2 * b) (ap bit (h 0)) (digits_none (λ (i : ℕ). p (suc i)) n (λ i. h (suc i)))

-- ======== from cells to numbers
pub number_lt : (p : Cell → Bool) (l : List Cell) → number_of p l < 2 ^ length l
unfolding number_of
number_lt p [] = omega arith
number_lt p (c ∷ l) =
    let h = number_lt p l in
    let b = bit_le (p c) in
    let e : 2 ^ suc (length l) ≡ 2 ^ length l * 2 = pow-suc 2 (length l) in
    omega arith

pub number-reading : (o : ℕ) (l : List Cell) → count (on (row_of l o)) (length l) ≡ reading o l
unfolding number_of reading count
number-reading o [] = refl
number-reading o (c ∷ l) =
    count_shift (on (bit (c.readers o) + 2 * row_of l o)) (length l)
    ∙ ap₂ (λ (a b : ℕ). a + b) (ap bit (on-low (c.readers o) (row_of l o)))
    (count-alike (λ (i : ℕ). on (bit (c.readers o) + 2 * row_of l o) (suc i)) (on (row_of l o)) (length l) (λ i h. on_high (c.readers o) (row_of l o) i)
    ∙ number-reading o l)

pub number-apart : (o x y : ℕ) (l : List Cell) → Apart o x y l → ((i : ℕ) → on (row_of l o) i ≡ true → on (code_of l x) i ≡ on (code_of l y) i) → ⊥
unfolding number_of
number-apart o x y [] a h = a
number-apart o x y (c ∷ l) a h = ⊎_elim
    (λ p. p.1 (sym (on-low (c.table x) (code_of l x)) ∙ h 0 (on-low (c.readers o) (row_of l o) ∙ p.0) ∙ on-low (c.table y) (code_of l y)))
    (λ r. number-apart o x y l r (λ i e. sym (on_high (c.table x) (code_of l x) i) ∙ h (suc i) (on_high (c.readers o) (row_of l o) i ∙ e) ∙ on_high (c.table y) (code_of l y) i))
    a

-- ======== from numbers to cells
pub cells-length : (n i : ℕ) (rows codes : ℕ → ℕ) → length (cells_from n i rows codes) ≡ n
unfolding cells_from
cells-length zero i rows codes = refl
cells-length (suc n) i rows codes = ap suc (cells-length n (suc i) rows codes)

pub cells_zero : (n i : ℕ) (rows codes : ℕ → ℕ) → codes 0 ≡ 0 → ZeroFirst (cells_from n i rows codes)
unfolding cells_from
cells_zero zero i rows codes e = tt
cells_zero (suc n) i rows codes e = (ap (λ (z : ℕ). on z i) e ∙ on_zero i, cells_zero n (suc i) rows codes e)

cells-reading : (o n i : ℕ) (rows codes : ℕ → ℕ) → reading o (cells_from n i rows codes) ≡ count (λ (k : ℕ). on (rows o) (i + k)) n
unfolding cells_from reading count
cells-reading o zero i rows codes = refl
cells-reading o (suc n) i rows codes =
    ap₂ (λ (a : Bool) (b : ℕ). bit a + b) (ap (on (rows o)) (let e : i ≡ i + 0 = omega arith in e))
    (cells-reading o n (suc i) rows codes ∙ count-alike (λ (k : ℕ). on (rows o) (suc i + k)) (λ (k : ℕ). on (rows o) (i + suc k)) n
    (λ k h. ap (on (rows o)) (let e : suc i + k ≡ i + suc k = omega arith in e)))
    ∙ sym (count_shift (λ (k : ℕ). on (rows o) (i + k)) n)

-- either a cell tells x from y, or the codes agree in what o reads
cells-apart : (o x y n i : ℕ) (rows codes : ℕ → ℕ) → Apart o x y (cells_from n i rows codes) ⊎ ((k : ℕ) → i ≤ k → k < i + n → on (rows o) k ≡ true → on (codes x) k ≡ on (codes y) k)
unfolding cells_from
cells-apart o x y zero i rows codes = inr (λ k a b. absurd (omega arith))
cells-apart o x y (suc n) i rows codes = go (on (rows o) i) refl (on (codes x) i) refl (on (codes y) i) refl (cells-apart o x y n (suc i) rows codes)
  where
    Rest : Type 0
    Rest = Apart o x y (cells_from n (suc i) rows codes) ⊎ ((k : ℕ) → suc i ≤ k → k < suc i + n → on (rows o) k ≡ true → on (codes x) k ≡ on (codes y) k)

    Goal : Type 0
    Goal = (((on (rows o) i ≡ true) × (on (codes x) i ≡ on (codes y) i → ⊥)) ⊎ Apart o x y (cells_from n (suc i) rows codes)) ⊎
        ((k : ℕ) → i ≤ k → k < i + suc n → on (rows o) k ≡ true → on (codes x) k ≡ on (codes y) k)

    alike : (on (rows o) i ≡ true → on (codes x) i ≡ on (codes y) i) → Rest → Goal
    alike e = ⊎_elim (λ a. inl (inr a)) (λ h. inr (λ k a b r. ⊎_elim
        (λ l. h k (omega arith) (omega arith) r)
        (λ q. subst (λ (z : ℕ). on (codes x) z ≡ on (codes y) z) q (e (subst (λ (z : ℕ). on (rows o) z ≡ true) (sym q) r)))
        (less_or_equal i k (omega arith))))

    go : (r : Bool) → on (rows o) i ≡ r → (a : Bool) → on (codes x) i ≡ a → (b : Bool) → on (codes y) i ≡ b → Rest → Goal
    go false er a ea b eb = alike (λ t. absurd (never_both t er))
    go true er true ea true eb = alike (λ t. ea ∙ sym eb)
    go true er false ea false eb = alike (λ t. ea ∙ sym eb)
    go true er true ea false eb = λ h. inl (inl (er, λ e. true_false (sym ea ∙ e ∙ eb)))
    go true er false ea true eb = λ h. inl (inl (er, λ e. true_false (sym eb ∙ sym e ∙ ea)))

pub core_serves : (u v m : ℕ) (Conflict : ℕ → ℕ → ℕ → Type 0) (budget rows codes : ℕ → ℕ)
    → Coded v m Conflict rows codes → ((o : ℕ) → o < m → rows o < 2 ^ u)
    → ((o : ℕ) → o < m → count (on (rows o)) u ≤ budget o) → Serves v m Conflict budget (core_of u rows codes)
core_serves u v m Conflict budget rows codes c short within = record {
  tells = λ o x y i p q k. ⊎_elim (λ a. a) (λ h. absurd (c.tells o x y i p q k (agree_and u (rows o) (codes x) (codes y) (short o i) (λ k l r. h k (omega arith) (omega arith) r))))
      (cells-apart o x y u 0 rows codes);
  within = λ o i. subst (λ (n : ℕ). n ≤ budget o) (sym (cells-reading o u 0 rows codes ∙ count-alike (λ (k : ℕ). on (rows o) (0 + k)) (on (rows o)) u
      (λ k h. ap (on (rows o)) (let e : 0 + k ≡ k = omega arith in e)))) (within o i);
}
