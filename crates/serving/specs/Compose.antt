-- A core that serves can be completed to a network with the design's value on every row: vertices with one code in the
-- tables that an output reads have no conflict, so the first of them gives the composition entry (and proofs/Computes.antt the values). Assumes nothing.
use Rattle.std.specs.Prelude.{◌≡◌, refl, Bool, true, false, ◌⊎◌}
use Rattle.std.proofs.Common.{sym, ◌∙◌, ⊎_elim, arith, add-zero, add-mul, add_assoc, mul_assoc, zero-mul, zero-add, pow-add, eq-eqb, eqb-true}
use Rattle.std.proofs.Math.Path.{ap, ap₂}
use mathlib.Core.List.{List, [], ◌∷◌, ◌++◌, map}
use Rattle.std.proofs.Math.Option.{Option, some}
use Prim.Native.Nat.{ℕ, zero, suc, ◌+◌, ◌*◌, ◌/◌, ◌%◌, ◌^◌, ◌≤◌, ◌<◌}
use Rattle.std.proofs.Math.Dec.{eqb}
use Rattle.std.proofs.Math.ListN.{length, get_or, length-append}
use Rattle.std.proofs.lemmas.List.{length-map}
use Rattle.std.proofs.Math.Pow.{high, low}
use Rattle.bits.specs.Logic.{pick, bit}
use Rattle.bits.specs.LogicLaws.{true_false}
use Rattle.bits.specs.Digit.{on}
use Rattle.rows.specs.Row.{row_of, values_of}
use Rattle.rows.specs.RowLaws.{values_row}
use Rattle.sheet.specs.Examine.{Design}
use Rattle.classes.specs.Columns.{free, vertex_count, free_count, value_at}
use Rattle.bits.specs.ValuesLaws.{values_at}
use Rattle.network.specs.Check.{first_of}
use Rattle.network.specs.Numbers.{numbers_of}
use Rattle.network.specs.NumbersLaws.{map-numbers, numbers_from, numbers-from}
use Rattle.cells.specs.Core.{Apart, core_of, cells_from}
use Rattle.serving.specs.NetworkCore.{node_of, ServesDesign}
use Rattle.network.specs.Value.{lut_at}
use Rattle.serving.specs.Parts.{Parts, Columns}
use Rattle.serving.specs.Build.{code_in, entry_at, entry, node_built, luts_built, nodes_built, built}

-- ---- rows of two lists of values
pub row-append : (a b : List Bool) → row_of (a ++ b) ≡ row_of a * 2 ^ length b + row_of b
unfolding row_of
row-append [] b = sym (ap (λ (n : ℕ). n + row_of b) (zero-mul (2 ^ length b)) ∙ zero-add (row_of b))
row-append (v ∷ a) b =
    ap₂ (λ (m n : ℕ). bit v * m + n) (ap (λ (k : ℕ). 2 ^ k) (length-append a b) ∙ pow-add 2 (length a) (length b)) (row-append a b)
    ∙ regroup (bit v) (2 ^ length a) (2 ^ length b) (row_of a) (row_of b)
  where
    regroup : (v p q r s : ℕ) → v * (p * q) + (r * q + s) ≡ (v * p + r) * q + s
    regroup v p q r s = sym (ap (λ (n : ℕ). n + s) (add-mul (v * p) r q ∙ ap (λ (n : ℕ). n + r * q) (mul_assoc v p q)) ∙ add_assoc (v * (p * q)) (r * q) s)

-- ---- the first number that passes a test
record First (f : ℕ → Bool) (k i : ℕ) : Type 0 where
  at : ℕ
  is : first_of f k i ≡ some at
  passes : f at ≡ true
  below : at < i + k

first_step : (f : ℕ → Bool) (k i : ℕ) (t : Bool) → f i ≡ t → (t ≡ false → First f k (suc i)) → First f (suc k) i
unfolding first_of
first_step f k i true e r = record { at = i; is = ap (λ (b : Bool). pick b (some i) (first_of f k (suc i))) e; passes = e; below = omega arith }
first_step f k i false e r =
    let q = r refl in
    let h = q.below in
    record {
      at = q.at;
      is = ap (λ (b : Bool). pick b (some i) (first_of f k (suc i))) e ∙ q.is;
      passes = q.passes;
      below = omega arith;
    }

first_found : (f : ℕ → Bool) (k i x : ℕ) → i ≤ x → x < i + k → f x ≡ true → First f k i
first_found f zero i x a b e = absurd (omega arith)
first_found f (suc k) i x a b e =
    first_step f k i (f i) refl
    (λ n. first_found f k (suc i) x (after i x a (λ q. true_false (sym e ∙ ap f (sym q) ∙ n))) (omega arith) e)
  where
    after : (i x : ℕ) → i ≤ x → (i ≡ x → ⊥) → suc i ≤ x
    after i x a n = omega arith

-- ---- the parts of the built network
pub one_on : (i k : ℕ) → suc i + k ≡ i + suc k
one_on i k = omega arith

pub lut_built : (d : Design) (codes : ℕ → ℕ) (k j i x : ℕ) → i < k → x < vertex_count d.bound → get_or (get_or (luts_built d codes k j) i []) x false ≡ on (codes x) (j + i)
unfolding luts_built
lut_built d codes zero j i x h a = absurd (omega arith)
lut_built d codes (suc k) j zero x h a = values_at (λ y. on (codes y) j) (vertex_count d.bound) x a ∙ ap (on (codes x)) (sym (add-zero j))
lut_built d codes (suc k) j (suc i) x h a =
    lut_built d codes k (suc j) i x (omega arith) a ∙ ap (on (codes x)) (one_on j i)

pub luts-length : (d : Design) (codes : ℕ → ℕ) (k j : ℕ) → length (luts_built d codes k j) ≡ k
unfolding luts_built
luts-length d codes zero j = refl
luts-length d codes (suc k) j = ap suc (luts-length d codes k (suc j))

pub node-built : (d : Design) (u : ℕ) (rows codes : ℕ → ℕ) (k j o : ℕ) → o < k → get_or (nodes_built d u rows codes k j) o (record { reads = []; digits = [] }) ≡ node_built d codes (j + o)
    (numbers_of u (rows (j + o)))
unfolding nodes_built
node-built d u rows codes zero j o h = absurd (omega arith)
node-built d u rows codes (suc k) j zero h = ap (λ (n : ℕ). node_built d codes n (numbers_of u (rows n))) (sym (add-zero j))
node-built d u rows codes (suc k) j (suc o) h =
    node-built d u rows codes k (suc j) o (omega arith) ∙ ap (λ (n : ℕ). node_built d codes n (numbers_of u (rows n))) (one_on j o)

-- ---- one code: no table that the output reads tells the vertices apart
pub head_same : (a b : Bool) (l m : List Bool) → a ∷ l ≡ b ∷ m → a ≡ b
head_same a b l m e = ap (λ (x : List Bool). get_or x 0 false) e

pub tail_same : (a b : Bool) (l m : List Bool) → a ∷ l ≡ b ∷ m → l ≡ m
tail_same a b l m e = cc

apart-here : (A : Type 0) (v w : ℕ → Bool) (i : ℕ) (is : List ℕ) (r : Bool) → map v (pick r (i ∷ is) is) ≡ map w (pick r (i ∷ is) is)
    → (map v is ≡ map w is → A → ⊥) → ((r ≡ true) × (v i ≡ w i → ⊥)) ⊎ A → ⊥
apart-here A v w i is true e ih a =
    ⊎_elim (λ p. p.1 (head_same (v i) (w i) (map v is) (map w is) e)) (ih (tail_same (v i) (w i) (map v is) (map w is) e)) a
apart-here A v w i is false e ih a = ⊎_elim (λ p. true_false (sym p.0)) (ih e) a

not-apart : (o x y : ℕ) (rows codes : ℕ → ℕ) (k i : ℕ) → map (on (codes x)) (numbers_from k i (rows o)) ≡ map (on (codes y)) (numbers_from k i (rows o))
    → Apart o x y (cells_from k i rows codes) → ⊥
unfolding numbers_from cells_from
not-apart o x y rows codes zero i e a = a
not-apart o x y rows codes (suc k) i e a =
    apart-here (Apart o x y (cells_from k (suc i) rows codes)) (on (codes x)) (on (codes y)) i (numbers_from k (suc i) (rows o)) (on (rows o) i) e
    (not-apart o x y rows codes k (suc i)) a

code_values : (is : List ℕ) (m n : ℕ) → code_in is m ≡ code_in is n → map (on m) is ≡ map (on n) is
unfolding code_in
code_values is m n e =
    sym (values_row (map (on m) is))
    ∙ ap₂ values_of (length-map is (on m) ∙ sym (length-map is (on n))) e
    ∙ values_row (map (on n) is)

-- ---- Theorem A, the other way
module _ (d : Design) (u : ℕ) (rows codes : ℕ → ℕ) (p : Parts d.inputs d.bound) (q : Columns d)
    (serves : ServesDesign d (core_of u rows codes)) where
  -- vertices with one code in the tables that o reads have one column
  one_code : (o x y : ℕ) → o < length d.outputs → x < vertex_count d.bound → y < vertex_count d.bound
      → code_in (numbers_of u (rows o)) (codes x) ≡ code_in (numbers_of u (rows o)) (codes y) → (z : ℕ)
      → z < free_count d.inputs d.bound → value_at d d.bound o x z ≡ value_at d d.bound o y z
  one_code o x y h a b e z c =
      let values = code_values (numbers_of u (rows o)) (codes x) (codes y) e in
      q.agree_at o x y (λ f. not-apart o x y rows codes u 0 (rw (numbers-from u (rows o)) at values) (serves.tells o x y h a b f)) z c

  -- the entry at a vertex's code and a free row is the vertex's value there
  pub entry_right : (o x z j : ℕ) → o < length d.outputs → x < vertex_count d.bound
      → z < free_count d.inputs d.bound
      → j ≡ code_in (numbers_of u (rows o)) (codes x) * free_count d.inputs d.bound + z
      → entry d codes o (numbers_of u (rows o)) j ≡ value_at d d.bound o x z
  unfolding entry
  entry_right o x z j h a c e =
      let is = numbers_of u (rows o) in
      let fl = length (free d.inputs d.bound) in
      let hi : j / free_count d.inputs d.bound ≡ code_in is (codes x) = ap (λ (n : ℕ). n / free_count d.inputs d.bound) e ∙ high (code_in is (codes x)) fl c in
      let lo : j % free_count d.inputs d.bound ≡ z = ap (λ (n : ℕ). n % free_count d.inputs d.bound) e ∙ low (code_in is (codes x)) fl c in
      let f = first_found (λ y. eqb (code_in is (codes y)) (j / free_count d.inputs d.bound)) (vertex_count d.bound) 0 x (omega arith) (omega arith)
      (eq-eqb (code_in is (codes x)) (j / free_count d.inputs d.bound) (sym hi)) in
      ap₂ (λ (r : ℕ) (t : Option ℕ). entry_at d o r t) lo f.is
      ∙ one_code o f.at x h (omega (arith, f.below)) a (eqb-true (code_in is (codes f.at)) (j / free_count d.inputs d.bound) f.passes ∙ hi) z c

  pub tables_at : (o x : ℕ) → x < vertex_count d.bound → map (λ i. lut_at (built d u rows codes) i x) (numbers_of u (rows o)) ≡ map (on (codes x)) (numbers_of u (rows o))
  unfolding built
  tables_at o x a =
      map-numbers (λ i. lut_at (built d u rows codes) i x) (on (codes x)) u (rows o)
      (λ i h. lut_built d codes u 0 i x h a ∙ ap (on (codes x)) (zero-add i))

  pub node_is : (o : ℕ) → o < length d.outputs → node_of (built d u rows codes) o ≡ node_built d codes o (numbers_of u (rows o))
  unfolding built
  node_is o h = node-built d u rows codes (length d.outputs) 0 o h ∙ ap (λ (n : ℕ). node_built d codes n (numbers_of u (rows n))) (zero-add o)
