-- Rows and their parts, for every number of inputs together: a row is its vertex and its free row joined, and each vertex
-- and free row come back out of the row that joins them. Assumes nothing.
use Rattle.std.specs.Prelude.{◌≡◌, refl, false, get_or}
use Rattle.std.proofs.Common.{sym, ap₂, ◌∙◌, pow_mono}
use Rattle.std.proofs.Math.Path.{ap, subst}
use Rattle.std.proofs.Math.Logic.{⊎_elim}
use Rattle.std.proofs.Math.Bool.{Bool, true}
use mathlib.Core.List.{List, [], ◌∷◌, map}
use Prim.Native.Nat.{ℕ, ◌+◌, ◌*◌, ◌%◌, ◌^◌, ◌≤◌, ◌<◌}
use native.Mathlib.Omega.{arith}
use Rattle.std.proofs.Math.Nat.{add-mul}
use Rattle.std.proofs.Math.ListN.{length, length-map}
use Rattle.std.proofs.Math.Pow.{low}
use Rattle.limits.specs.Limits.{max_inputs, max_rows}
use Rattle.bits.specs.Logic.{pick, bit}
use Rattle.bits.specs.LogicLaws.{true_false, either}
use Rattle.bits.specs.Digit.{on}
use Rattle.bits.specs.DigitLaws.{on_zero}
use Rattle.bits.specs.ShiftLaws.{on_cut}
use Rattle.names.specs.Name.{Name, same_name, among, distinct}
use Rattle.names.specs.SameLaws.{same_name_self}
use Rattle.rows.specs.Row.{row_of, values_of}
use Rattle.rows.specs.RowLaws.{row_lt, row_values, values_row}
use Rattle.formula.specs.Value.{on_row}
use Rattle.classes.specs.Columns.{free, on_parts, join_row, vertex_of, free_row_of, vertex_count, free_count}
use Rattle.classes.specs.Proper.{Parted}
use Rattle.classes.specs.FreeLaws.{map_agree, distinct-later, first_another, bound_input, free_input, free_not_bound, unbound_free, free-distinct}
use Rattle.classes.specs.SameNameLaws.{Respects, row_same, parts_same}

-- ---- names on a row
top_value : (b : Bool) (l : List Bool) (n : ℕ) → length l ≡ n → on (bit b * 2 ^ n + row_of l) n ≡ b
unfolding row_of values_of
top_value b l n e = rw (← e) (ap (λ (k : List Bool). get_or k 0 false) (values_row (b ∷ l)))

-- the digits above those of the names do not matter
row_low : (ms : List Name) (n : Name) (k r : ℕ) → length ms ≤ k → on_row ms (r % 2 ^ k) n ≡ on_row ms r n
unfolding on_row
row_low [] n k r l = refl
row_low (m ∷ ms) n k r l =
    ap₂ (λ (a b : Bool). pick (same_name m n) a b) (on_cut k r (length ms) (omega arith)) (row_low ms n k r (omega arith))

module _ (v : Name → Bool) (respects : Respects v) where
  -- a name's value comes back out of the row of all values
  pub read_back : (ms : List Name) (n : Name) → among n ms ≡ true → on_row ms (row_of (map v ms)) n ≡ v n
  unfolding on_row row_of among
  read_back [] n e = absurd (true_false (sym e))
  read_back (m ∷ ms) n e =
      let k : length (map v ms) ≡ length ms = length-map ms v in
      let lt : row_of (map v ms) < 2 ^ length ms = subst (λ (j : ℕ). row_of (map v ms) < 2 ^ j) k (row_lt (map v ms)) in
      let row : ℕ = bit (v m) * 2 ^ length ms + row_of (map v ms) in
      rw k
      (⊎_elim
      (λ s. rw s (top_value (v m) (map v ms) (length ms) k ∙ respects m n s))
      (λ s.
      let later : among n ms ≡ true = rw s at e in
      rw s
      (sym (row_low ms n (length ms) row (omega arith)) ∙ ap (λ (r : ℕ). on_row ms r n) (low (bit (v m)) (length ms) lt)
      ∙ read_back ms n later))
      (either (same_name m n)))

-- on a row, distinct names have the row's values
own_values : (ms : List Name) (r : ℕ) → distinct ms ≡ true → map (on_row ms r) ms ≡ values_of (length ms) r
unfolding on_row values_of
own_values [] r e = refl
own_values (m ∷ ms) r e =
    ap₂ (λ (b : Bool) (l : List Bool). b ∷ l)
    (rw (same_name_self m))
    (map_agree (on_row (m ∷ ms) r) (on_row ms r) ms (λ n h. rw (first_another m n ms e h)) ∙ own_values ms r (distinct-later m ms e))

pub own_row : (ms : List Name) (r : ℕ) → distinct ms ≡ true → r < 2 ^ length ms → row_of (map (on_row ms r) ms) ≡ r
own_row ms r e l = ap row_of (own_values ms r e) ∙ row_values (length ms) r l

row_map_lt : (v : Name → Bool) (ms : List Name) → row_of (map v ms) < 2 ^ length ms
row_map_lt v ms = subst (λ (j : ℕ). row_of (map v ms) < 2 ^ j) (length-map ms v) (row_lt (map v ms))

-- ---- bounds
module _ (ns bs : List Name) where
  pub join-lt : (x y : ℕ) → join_row ns bs x y < 2 ^ length ns
  unfolding join_row
  join-lt x y = row_map_lt (on_parts bs (free ns bs) x y) ns

  -- of as many inputs as there may be
  pub join-small : (x y : ℕ) → length ns ≤ max_inputs → join_row ns bs x y < max_rows
  join-small x y few =
      let l : join_row ns bs x y < 2 ^ length ns = join-lt x y in
      let m : 2 ^ length ns ≤ max_rows = pow_mono few in
      omega arith

  pub vertex-lt : (r : ℕ) → vertex_of ns bs r < vertex_count bs
  unfolding vertex_of
  vertex-lt r = row_map_lt (on_row ns r) bs

  pub free_row_lt : (r : ℕ) → free_row_of ns bs r < free_count ns bs
  unfolding free_row_of
  free_row_lt r = row_map_lt (on_row ns r) (free ns bs)

-- ---- a row and its parts
pub on-bound : (bs fs : List Name) (x y : ℕ) (n : Name) → among n bs ≡ true → on_parts bs fs x y n ≡ on_row bs x n
unfolding on_parts
on-bound bs fs x y n e = rw e

pub on_free : (bs fs : List Name) (x y : ℕ) (n : Name) → among n bs ≡ false → on_parts bs fs x y n ≡ on_row fs y n
unfolding on_parts
on_free bs fs x y n e = rw e

module _ (ns bs : List Name) (p : Parted ns bs) where
  parts_back : (r : ℕ) (n : Name) → among n ns ≡ true
      → on_parts bs (free ns bs) (vertex_of ns bs r) (free_row_of ns bs r) n ≡ on_row ns r n
  unfolding vertex_of free_row_of
  parts_back r n h =
      ⊎_elim
      (λ e.
      on-bound bs (free ns bs) (row_of (map (on_row ns r) bs)) (row_of (map (on_row ns r) (free ns bs))) n e
      ∙ read_back (on_row ns r) (row_same ns r) bs n e)
      (λ e.
      on_free bs (free ns bs) (row_of (map (on_row ns r) bs)) (row_of (map (on_row ns r) (free ns bs))) n e
      ∙ read_back (on_row ns r) (row_same ns r) (free ns bs) n (unbound_free ns bs n h e))
      (either (among n bs))

  pub join_parts : (r : ℕ) → r < 2 ^ length ns → join_row ns bs (vertex_of ns bs r) (free_row_of ns bs r) ≡ r
  unfolding join_row
  join_parts r l =
      ap row_of
      (map_agree (on_parts bs (free ns bs) (vertex_of ns bs r) (free_row_of ns bs r)) (on_row ns r) ns (parts_back r))
      ∙ own_row ns r p.inputs_distinct l

  pub vertex_of_join : (x y : ℕ) → x < vertex_count bs → vertex_of ns bs (join_row ns bs x y) ≡ x
  unfolding join_row vertex_of
  vertex_of_join x y l =
      let v : Name → Bool = on_parts bs (free ns bs) x y in
      ap row_of
      (map_agree (on_row ns (row_of (map v ns))) (on_row bs x) bs
      (λ n e.
      read_back v (parts_same bs (free ns bs) x y) ns n (bound_input ns bs p n e) ∙ on-bound bs (free ns bs) x y n e))
      ∙ own_row bs x p.bound-distinct l

  pub free_row_of_join : (x y : ℕ) → y < free_count ns bs → free_row_of ns bs (join_row ns bs x y) ≡ y
  unfolding join_row free_row_of
  free_row_of_join x y l =
      let v : Name → Bool = on_parts bs (free ns bs) x y in
      ap row_of
      (map_agree (on_row ns (row_of (map v ns))) (on_row (free ns bs) y) (free ns bs)
      (λ n e.
      read_back v (parts_same bs (free ns bs) x y) ns n (free_input ns bs n e)
      ∙ on_free bs (free ns bs) x y n (free_not_bound ns bs n e)))
      ∙ own_row (free ns bs) y (free-distinct ns bs p.inputs_distinct) l

-- ---- the row of a vertex and the row of a free row add up
pick_same : (b : Bool) → pick b false false ≡ false
pick_same true = refl
pick_same false = refl

pub row_zero : (ms : List Name) (n : Name) → on_row ms 0 n ≡ false
unfolding on_row
row_zero [] n = refl
row_zero (m ∷ ms) n =
    ap₂ (λ (a b : Bool). pick (same_name m n) a b) (on_zero (length ms)) (row_zero ms n) ∙ pick_same (same_name m n)

module _ {A : Type 0} (u v w : A → Bool) (h : (a : A) → bit (w a) ≡ bit (u a) + bit (v a)) where
  pub rows_add : (l : List A) → row_of (map w l) ≡ row_of (map u l) + row_of (map v l)
  unfolding row_of
  rows_add [] = omega arith
  rows_add (a ∷ l) =
      let k : ℕ = 2 ^ length l in
      let e : bit (w a) * k ≡ bit (u a) * k + bit (v a) * k = ap (λ (b : ℕ). b * k) (h a) ∙ add-mul (bit (u a)) (bit (v a)) k in
      let later : row_of (map w l) ≡ row_of (map u l) + row_of (map v l) = rows_add l in
      rw (length-map l u, length-map l v, length-map l w) (omega arith)

module _ (ns bs : List Name) (x y : ℕ) where
  parts_add : (n : Name)
      → bit (on_parts bs (free ns bs) x y n) ≡ bit (on_parts bs (free ns bs) x 0 n) + bit (on_parts bs (free ns bs) 0 y n)
  parts_add n =
      let fs : List Name = free ns bs in
      ⊎_elim
      (λ e. rw (on-bound bs fs x y n e, on-bound bs fs x 0 n e, on-bound bs fs 0 y n e, row_zero bs n) (omega arith))
      (λ e. rw (on_free bs fs x y n e, on_free bs fs x 0 n e, on_free bs fs 0 y n e, row_zero fs n) (omega arith))
      (either (among n bs))

  join-add : join_row ns bs x y ≡ join_row ns bs x 0 + join_row ns bs 0 y
  unfolding join_row
  join-add =
      rows_add (on_parts bs (free ns bs) x 0) (on_parts bs (free ns bs) 0 y) (on_parts bs (free ns bs) x y) parts_add ns

  pub join-sum : {a b : ℕ} → a ≡ join_row ns bs x 0 → b ≡ join_row ns bs 0 y → a + b ≡ join_row ns bs x y
  join-sum e f = ap₂ (λ (m n : ℕ). m + n) e f ∙ sym join-add
