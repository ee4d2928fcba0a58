-- Digits put down one after the other, and what a digit of a composition table is. Assumes nothing.
use Rattle.std.specs.Prelude.{◌≡◌, Bool, true, false, List, [], ◌∷◌, ◌++◌, map, ℕ, zero, suc, ◌+◌, ◌*◌, ◌/◌, ◌%◌, ◌^◌, ◌≤◌, ◌<◌, eqb, length, get_or, Option, Some, None}
use Rattle.std.proofs.Common.{refl, sym, ap, ap₂, ◌∙◌, append-nil, append_assoc, arith, div-lt_iff_lt-mul, mul-le-mul}
use Rattle.std.proofs.Common.{zero-mul, suc-mul, mul-suc, mul_comm, add-zero, add-suc, add-one, pow_mono, lt-ltb, le-ltb}
use Rattle.std.proofs.lemmas.List.{map-append}
use Rattle.std.proofs.Math.Option.{some, none}
use Rattle.std.proofs.Math.Option as math
use Rattle.std.proofs.Math.Arith.{digits_div, digits_mod}
use Rattle.limits.specs.Limits.{max_cells, max_free_rows, max_codes}
use Rattle.bits.specs.Logic.{pick}
use Rattle.rows.specs.Digits.{digit}
use Rattle.rows.specs.Words.{row_on}
use Rattle.bits.specs.Values.{values_upto}
use Rattle.bits.specs.ValuesLaws.{values_same}
use Rattle.classes.specs.Seen.{seen}
use Rattle.limits.specs.declared.Vertex.{Vertex}
use Rattle.network.specs.Printer.{print_digits}
use Rattle.network.specs.Check.{first_of}
use Rattle.serving.specs.Build.{code_in}
use Rattle.emit.specs.Written.{Written}
use Rattle.emit.specs.PutLaws.{put_none, put_next, put_same}
use Rattle.emit.specs.Upto.{texts_upto}
use Rattle.netnames.specs.Listed.{vertex_at, FirstIs, Firsts}
use Rattle.netlines.specs.Room.{entries_room}
use Rattle.netlines.specs.Lines.{chosen, entry_by, cell_on, cell_by}

-- ---- one digit after the other
digits_more : (f : ℕ → Bool) (i : ℕ) → print_digits (values_upto f i) ++ (digit (f i) ∷ []) ≡ print_digits (values_upto f (i + 1))
unfolding print_digits values_upto
digits_more f i =
    sym (map-append digit (values_upto f i) (f i ∷ [])) ∙ ap (λ (k : ℕ). map digit (values_upto f k)) (sym (add-one i))

-- the first i of n digits are put down
pub record Digits (f : ℕ → Bool) (n : ℕ) (a b : List ℕ) (at p i : ℕ) : Type 0 where
  pub within : i ≤ n
  pub so_far : Written i a b at p (print_digits (values_upto f i))

pub digits_none : (f : ℕ → Bool) (n : ℕ) (a : List ℕ) (at : ℕ) → Digits f n a a at at 0
unfolding print_digits values_upto
digits_none f n a at = record { within = omega arith; so_far = put_none a at }

pub digits_put : {f : ℕ → Bool} {n : ℕ} {a b e : List ℕ} {at p q i : ℕ} {v : Bool} → Digits f n a b at p i → i < n
    → Written 1 b e p q (digit v ∷ []) → v ≡ f i → Digits f n a e at q (i + 1)
digits_put {f} {i = i} {v = v} g l w s =
    record {
      within = omega arith;
      so_far = put_next g.so_far w (ap (λ (x : Bool). print_digits (values_upto f i) ++ (digit x ∷ [])) s ∙ digits_more f i) (omega arith);
    }

pub digits_all : {f : ℕ → Bool} {n : ℕ} {a b : List ℕ} {at p i : ℕ} → Digits f n a b at p i → n ≤ i
    → Written n a b at p (print_digits (values_upto f n))
digits_all {f} {n} {i = i} g l =
    let w : i ≤ n = g.within in
    let e : i ≡ n = omega arith in
    put_same g.so_far (ap (λ (k : ℕ). print_digits (values_upto f k)) e) (omega arith)

-- ---- codes and free rows of a number
code_below : (j n m : ℕ) → j < n → n ≤ max_codes * m → j / m < max_codes
code_below j n m l h = let some_free : 0 < m = omega arith in (div-lt_iff_lt-mul some_free).1 (omega arith)

pub codes_few : (n c : ℕ) → c ≡ 2 ^ n → n ≤ max_cells → c ≤ max_codes
codes_few n c e h = let a : 2 ^ n ≤ max_codes = pow_mono h in omega arith

pub entries_few : (p m : ℕ) → p ≤ max_codes → m ≤ max_free_rows → p * m ≤ entries_room
entries_few p m h g = mul-le-mul h g

pub entries_within : (p m : ℕ) → p ≤ max_codes → p * m ≤ max_codes * m
entries_within p m h = mul-le-mul h (omega arith)

-- ---- the entry of a code is that of the vertex that the array has
abbrev Within : ℕ → math.Option ℕ → Type 0
Within n (some x) = x < n
Within n none = Unit {0}

either_within : (n : ℕ) (b : Bool) (i : ℕ) (q : math.Option ℕ) → i < n → Within n q → Within n (pick b (some i) q)
either_within n true i q l w = l
either_within n false i q l w = w

first_within : (f : ℕ → Bool) (k i n : ℕ) → i + k ≡ n → Within n (first_of f k i)
unfolding first_of
first_within f zero i n e = tt
first_within f (suc k) i n e =
    either_within n (f i) i (first_of f k (suc i)) (omega arith) (first_within f k (suc i) n (omega arith))

module _ (t vertex free : List ℕ) (z : ℕ) where
  chosen_at : (q : math.Option ℕ) (v : Option Vertex) → FirstIs q v → Within (length vertex) q → cell_on t vertex free v z ≡ chosen (λ x. seen t vertex free x z) q
  unfolding cell_on
  chosen_at (some x) v e h =
      ap (λ (w : Option Vertex). cell_on t vertex free w z) e
      ∙ ap (λ (b : Bool). pick b (seen t vertex free x z) false) (lt-ltb x (length vertex) h)
  chosen_at none v e h = ap (λ (w : Option Vertex). cell_on t vertex free w z) e

pub cells_are : (t vertex free : List ℕ) (l : List (Option Vertex)) (codes : ℕ → ℕ) (is : List ℕ) (n : ℕ) → Firsts (λ x. code_in is (codes x)) (length vertex) 0 l
    → n ≤ max_codes * length free → values_upto (cell_by t vertex free l) n ≡ values_upto (entry_by t vertex free codes is) n
unfolding cell_by entry_by
cells_are t vertex free l codes is n g h =
    values_same (cell_by t vertex free l) (entry_by t vertex free codes is) n
    (λ j lt.
    let m : ℕ = length free in
    let f : ℕ → Bool = λ x. eqb (code_in is (codes x)) (j / m) in
    chosen_at t vertex free (j % m)
    (first_of f (length vertex) 0) (vertex_at l (j / m))
    (g.each (j / m) (code_below j n m lt h))
    (first_within f (length vertex) 0 (length vertex) (omega arith)))

-- ---- one cell
-- no vertex, or a number that no vertex has
abbrev pub NoVertex : List ℕ → Option Vertex → Type 0
NoVertex vertex (Some x) = length vertex ≤ x.0
NoVertex vertex None = Unit {0}

pub cell_past : (t vertex free : List ℕ) (x : Option Vertex) (z : ℕ) → NoVertex vertex x → false ≡ cell_on t vertex free x z
unfolding cell_on
cell_past t vertex free (Some x) z l = sym (ap (λ (b : Bool). pick b (seen t vertex free x.0 z) false) (le-ltb x.0 (length vertex) l))
cell_past t vertex free None z l = refl

pub cell_there : (t vertex free : List ℕ) (x : Vertex) (z : ℕ) → x.0 < length vertex
    → row_on t (get_or vertex x.0 0 + get_or free z 0) ≡ cell_on t vertex free (Some x) z
unfolding cell_on seen
cell_there t vertex free x z l = sym (ap (λ (b : Bool). pick b (seen t vertex free x.0 z) false) (lt-ltb x.0 (length vertex) l))

-- ---- the entries code by code
values_append : (f : ℕ → Bool) (k m : ℕ) → values_upto f (k + m) ≡ values_upto f k ++ values_upto (λ z. f (k + z)) m
unfolding values_upto
values_append f k zero = ap (values_upto f) (add-zero k) ∙ sym (append-nil (values_upto f k))
values_append f k (suc m) =
    ap (values_upto f) (add-suc k m) ∙ ap (λ (l : List Bool). l ++ (f (k + m) ∷ [])) (values_append f k m)
    ∙ append_assoc (values_upto f k) (values_upto (λ z. f (k + z)) m) (f (k + m) ∷ [])

-- m values for each of k codes, put down code by code
codes_digits : (f : ℕ → ℕ → Bool) (m k : ℕ)
    → texts_upto (λ c. print_digits (values_upto (f c) m)) k ≡ print_digits (values_upto (λ j. f (j / m) (j % m)) (k * m))
unfolding texts_upto print_digits values_upto
codes_digits f m zero = sym (ap (λ (n : ℕ). map digit (values_upto (λ j. f (j / m) (j % m)) n)) (zero-mul m))
codes_digits f m (suc k) =
    let g : ℕ → Bool = λ j. f (j / m) (j % m) in
    let own : values_upto (λ z. g (k * m + z)) m ≡ values_upto (f k) m
    = values_same (λ z. g (k * m + z)) (f k) m (λ z l. ap₂ f (digits_div k l) (digits_mod k l)) in
    ap (λ (l : List ℕ). l ++ map digit (values_upto (f k) m)) (codes_digits f m k)
    ∙ sym (map-append digit (values_upto g (k * m)) (values_upto (f k) m))
    ∙ ap (λ (l : List Bool). map digit (values_upto g (k * m) ++ l)) (sym own)
    ∙ ap (map digit) (sym (values_append g (k * m) m))
    ∙ ap (λ (n : ℕ). map digit (values_upto g n)) (sym (suc-mul k m))

pub cells_by_codes : (t vertex free : List ℕ) (firsts : List (Option Vertex)) (k : ℕ)
    → texts_upto (λ c. print_digits (values_upto (cell_on t vertex free (vertex_at firsts c)) (length free))) k
    ≡ print_digits (values_upto (cell_by t vertex free firsts) (k * length free))
unfolding cell_by
cells_by_codes t vertex free firsts k = codes_digits (λ c. cell_on t vertex free (vertex_at firsts c)) (length free) k

-- room for one code more
pub code_room : (m c k : ℕ) → c < k → m * c + m ≤ k * m
code_room m c k h =
    let e : m * suc c ≡ m * c + m = mul-suc m c in
    let l : suc c * m ≤ k * m = mul-le-mul h (omega arith) in
    let q : suc c * m ≡ m * suc c = mul_comm (suc c) m in
    omega arith
