-- A network that has a design's value on every row tells conflicting vertices apart: two vertices with equal values in all
-- the tables that an output reads give that output one column. So its core serves (proofs/Serves.antt). Assumes nothing.
use Rattle.std.specs.Prelude.{◌≡◌, refl, Bool, true, false, ◌||◌, ◌⊎◌, ℕ, zero, suc, ◌+◌, ◌^◌, ◌≤◌, ◌<◌, eqb, length}
use Rattle.std.proofs.Math.Path.{sym, ap, ap₂}
use Rattle.std.proofs.Common.{◌∙◌, subst, inl, inr, eq-eqb, ne_eqb}
use mathlib.Core.List.{List, [], ◌∷◌, ◌++◌, map}
use Rattle.std.proofs.Math.Logic.{⊎_elim}
use native.Mathlib.Omega.{arith}
use Rattle.std.proofs.Math.Decide.{ℕ_discrete}
use Rattle.std.proofs.Math.ListN.{get_or}
use Rattle.std.proofs.lemmas.List.{length-map}
use Rattle.bits.specs.LogicLaws.{bit_le, same_or_not}
use Rattle.bits.specs.Logic.{bit}
use Rattle.rows.specs.Row.{row_of, values_of}
use Rattle.rows.specs.RowLaws.{values_row}
use Rattle.formula.specs.Value.{on_row}
use Rattle.sheet.specs.Examine.{Design}
use Rattle.sheet.specs.Value.{output_on}
use Rattle.cells.specs.Core.{Apart, reading}
use Rattle.classes.specs.Columns.{free, join_row, vertex_of, free_row_of, vertex_count, free_count, value_at}
use Rattle.network.specs.Network.{Network}
use Rattle.network.specs.Value.{lut_on, node_row, network_on}
use Rattle.serving.specs.NetworkCore.{node_of, has, cells_of, network_core}
use Rattle.network.specs.Value.{lut_at}
use Rattle.serving.specs.Parts.{Parts}

-- ---- a number in a list
-- ---- two vertices with equal values in the tables of a list, or a table where they differ
has_first : (i : ℕ) (is : List ℕ) → has i (i ∷ is) ≡ true
unfolding has
has_first i is = rw (eq-eqb i i refl) refl

has-later : (i j : ℕ) (is : List ℕ) → has i is ≡ true → has i (j ∷ is) ≡ true
unfolding has
has-later i j is e = go (eqb j i)
  where
    go : (b : Bool) → (b || has i is) ≡ true
    go true = refl
    go false = e

pub codes_or_apart : (w : Network) (is : List ℕ) (x y : ℕ) → (map (λ i. lut_at w i x) is ≡ map (λ i. lut_at w i y) is) ⊎ ((i : ℕ) × (has i is ≡ true) × (lut_at w i x ≡ lut_at w i y → ⊥))
codes_or_apart w [] x y = inl refl
codes_or_apart w (i ∷ is) x y =
    ⊎_elim
    (λ e. ⊎_elim
    (λ f. inl (ap₂ (λ (b : Bool) (l : List Bool). b ∷ l) e f))
    (λ p. inr (p.0, has-later p.0 i is p.1, p.2))
    (codes_or_apart w is x y))
    (λ n. inr (i, has_first i is, n))
    (same_or_not (lut_at w i x) (lut_at w i y))

-- ---- a table that o reads and that differs is a cell of the core
pub apart_cell : (w : Network) (o x y k j i : ℕ) → j ≤ i → i < j + k → has i (node_of w o).reads ≡ true → (lut_at w i x ≡ lut_at w i y → ⊥) → Apart o x y (cells_of w k j)
unfolding cells_of
apart_cell w o x y zero j i a b h n = absurd (omega arith)
apart_cell w o x y (suc k) j i a b h n =
    elim (ℕ_discrete j i) as (λ _. Apart o x y (cells_of w (suc k) j)) [
      | yes e ↦ inl (subst (λ (q : ℕ). has q (node_of w o).reads ≡ true) (sym e) h, subst (λ (q : ℕ). lut_at w q x ≡ lut_at w q y → ⊥) (sym e) n)
      | no f ↦ inr (apart_cell w o x y k (suc j) i (lt_of j i a f) (omega arith) h n)
    ]
  where
    lt_of : (j i : ℕ) → j ≤ i → (j ≡ i → ⊥) → suc j ≤ i
    lt_of j i a f = omega arith

-- ---- a node's value at a vertex and a free row
map_same : (f g : ℕ → Bool) (is : List ℕ) → ((i : ℕ) → f i ≡ g i) → map f is ≡ map g is
map_same f g [] h = refl
map_same f g (i ∷ is) h = ap₂ (λ (b : Bool) (l : List Bool). b ∷ l) (h i) (map_same f g is h)

module _ (d : Design) (w : Network) (p : Parts d.inputs d.bound) where
  -- the free inputs' values on a row do not depend on its vertex
  free_values : (x z : ℕ) → x < vertex_count d.bound → z < free_count d.inputs d.bound
      → map (on_row d.inputs (join_row d.inputs d.bound x z)) (free d.inputs d.bound) ≡ values_of (length (free d.inputs d.bound)) z
  unfolding free_row_of
  free_values x z a b =
      let l = map (on_row d.inputs (join_row d.inputs d.bound x z)) (free d.inputs d.bound) in
      sym (values_row l) ∙ ap₂ values_of (length-map (free d.inputs d.bound) (on_row d.inputs (join_row d.inputs d.bound x z))) (p.free_of x z a b)

  pub node_at_lem : (o x z : ℕ) → x < vertex_count d.bound → z < free_count d.inputs d.bound
      → network_on d w o (join_row d.inputs d.bound x z) ≡ get_or (node_of w o).digits (row_of (map (λ i. lut_at w i x) (node_of w o).reads ++ values_of (length (free d.inputs d.bound)) z))
      false
  unfolding network_on node_row lut_on
  node_at_lem o x z a b =
      ap₂ (λ (u v : List Bool). get_or (node_of w o).digits (row_of (u ++ v)) false)
      (map_same (λ i. get_or (get_or w.luts i []) (vertex_of d.inputs d.bound (join_row d.inputs d.bound x z)) false) (λ i. lut_at w i x) (node_of w o).reads
      (λ i. ap (λ (v : ℕ). get_or (get_or w.luts i []) v false) (p.vertex_of_lem x z a b)))
      (free_values x z a b)

-- ---- every value right: one code, one column
module _ (d : Design) (w : Network) (p : Parts d.inputs d.bound)
    (right : (o r : ℕ) → o < length d.outputs → r < 2 ^ length d.inputs → network_on d w o r ≡ output_on d o r) where
  value_right : (o x z : ℕ) → o < length d.outputs → value_at d d.bound o x z ≡ network_on d w o (join_row d.inputs d.bound x z)
  unfolding value_at
  value_right o x z h = sym (right o (join_row d.inputs d.bound x z) h (p.inside x z))

  pub one-column : (o x y : ℕ) → o < length d.outputs → x < vertex_count d.bound → y < vertex_count d.bound
      → map (λ i. lut_at w i x) (node_of w o).reads ≡ map (λ i. lut_at w i y) (node_of w o).reads → (z : ℕ)
      → z < free_count d.inputs d.bound → value_at d d.bound o x z ≡ value_at d d.bound o y z
  one-column o x y h a b e z c =
      value_right o x z h ∙ node_at_lem d w p o x z a c
      ∙ ap (λ (l : List Bool). get_or (node_of w o).digits (row_of (l ++ values_of (length (free d.inputs d.bound)) z)) false) e
      ∙ sym (node_at_lem d w p o y z b c) ∙ sym (value_right o y z h)

-- ---- how many cells an output reads
count_or : (a b : Bool) → bit (a || b) ≤ bit a + bit b
count_or true b = omega arith
count_or false b = omega arith

-- how many of the k numbers from j on pass a test
pub tally : (ℕ → Bool) → ℕ → ℕ → ℕ
tally f zero j = 0
tally f (suc k) j = bit (f j) + tally f k (suc j)

tally_or : (f g : ℕ → Bool) (k j : ℕ) → tally (λ i. f i || g i) k j ≤ tally f k j + tally g k j
unfolding tally
tally_or f g zero j = omega arith
tally_or f g (suc k) j =
    let a = count_or (f j) (g j) in
    let b = tally_or f g k (suc j) in
    omega arith

tally_past : (a k j : ℕ) → a < j → tally (λ i. eqb a i) k j ≡ 0
unfolding tally
tally_past a zero j h = refl
tally_past a (suc k) j h =
    let b = tally_past a k (suc j) (omega arith) in
    let c : bit (eqb a j) ≡ 0 = ap bit (ne_eqb a j (λ e. let z : a ≡ j = e in omega arith)) in
    omega arith

tally_one : (a k j : ℕ) → tally (λ i. eqb a i) k j ≤ 1
unfolding tally
tally_one a zero j = omega arith
tally_one a (suc k) j =
    elim (ℕ_discrete a j) as (λ _. bit (eqb a j) + tally (λ i. eqb a i) k (suc j) ≤ 1) [
      | yes e ↦ (let b : tally (λ i. eqb a i) k (suc j) ≡ 0 = tally_past a k (suc j) (le-suc a j e) in let c = bit_le (eqb a j) in omega arith)
      | no f ↦ (let b = tally_one a k (suc j) in let c : bit (eqb a j) ≡ 0 = ap bit (ne_eqb a j f) in omega arith)
    ]
  where
    le-suc : (a j : ℕ) → a ≡ j → a < suc j
    le-suc a j e = omega arith

tally_none : (k j : ℕ) → tally (λ i. false) k j ≡ 0
unfolding tally
tally_none zero j = refl
tally_none (suc k) j = let a = tally_none k (suc j) in omega arith

pub tally_has : (is : List ℕ) (k j : ℕ) → tally (λ i. has i is) k j ≤ length is
unfolding has
tally_has [] k j = let a = tally_none k j in omega arith
tally_has (i ∷ is) k j =
    let a = tally_or (λ n. eqb i n) (λ n. has n is) k j in
    let b = tally_one i k j in
    let c = tally_has is k j in
    omega arith

pub reading_tally : (w : Network) (o k j : ℕ) → reading o (cells_of w k j) ≡ tally (λ i. has i (node_of w o).reads) k j
unfolding reading cells_of tally
reading_tally w o zero j = refl
reading_tally w o (suc k) j = ap (λ (n : ℕ). bit (has j (node_of w o).reads) + n) (reading_tally w o k (suc j))

cells_count : (w : Network) (k j : ℕ) → length (cells_of w k j) ≡ k
unfolding cells_of
cells_count w zero j = refl
cells_count w (suc k) j = ap suc (cells_count w k (suc j))

pub core-length : (w : Network) → length (network_core w) ≡ length w.luts
unfolding network_core
core-length w = cells_count w (length w.luts) 0
