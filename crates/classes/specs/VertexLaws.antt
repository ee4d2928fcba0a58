-- The local and the global classes of a design's vertices, by the laws of classes: one class means no conflict, in one
-- output or in every output; class numbers are those below the number of classes; an output's width is at most the
-- number of bound inputs. Assumes nothing.
use Rattle.std.specs.Prelude.{◌≡◌, true, false, List, length}
use Rattle.std.proofs.Math.Path.{refl}
use Rattle.std.proofs.Math.Logic.{⊎_elim}
use Prim.Native.Nat.{ℕ, zero, suc, ◌≤◌, ◌<◌}
use Rattle.std.proofs.Common.{arith}
use Rattle.bits.specs.LogicLaws.{and_left, and_right, and_both}
use Rattle.bits.specs.CountLaws.{less_or_equal}
use Rattle.names.specs.Name.{Name}
use Rattle.sheet.specs.Examine.{Design}
use Rattle.classes.specs.Columns.{vertex_count, conflict, alike, alike_upto, alike_in_all}
use Rattle.classes.specs.Classes.{local_count, local_class, global_count, global_class}
use Rattle.classes.specs.Width.{width}
use Rattle.classes.specs.ClassLaws.{Taken, count_most, related_class, class_related, class_below, class_taken}
use Rattle.classes.specs.ColumnLaws.{alike_no_conflict, no_conflict_alike, alike_equivalence, upto_equivalence}
use Rattle.classes.specs.WidthLaws.{width_least}

module _ (d : Design) (bs : List Name) where
  -- ---- one output
  pub local_no_conflict : (o x y : ℕ) → local_class d bs o x ≡ local_class d bs o y → conflict d bs o x y ≡ false
  unfolding local_class
  local_no_conflict o x y e = alike_no_conflict d bs o x y (class_related (alike d bs o) (alike_equivalence d bs o) x y e)

  pub no_conflict_local : (o x y : ℕ) → conflict d bs o x y ≡ false → local_class d bs o x ≡ local_class d bs o y
  unfolding local_class
  no_conflict_local o x y e = related_class (alike d bs o) (alike_equivalence d bs o) x y (no_conflict_alike d bs o x y e)

  pub local_below : (o x : ℕ) → x < vertex_count bs → local_class d bs o x < local_count d bs o
  unfolding local_class local_count
  local_below o x l = class_below (alike d bs o) (alike_equivalence d bs o) (vertex_count bs) x l

  pub local_most : (o : ℕ) → local_count d bs o ≤ vertex_count bs
  unfolding local_count
  local_most o = count_most (alike d bs o) (vertex_count bs)

  pub local_taken : (o c : ℕ) → c < local_count d bs o → Taken (alike d bs o) (vertex_count bs) c
  unfolding local_count
  local_taken o c l = class_taken (alike d bs o) (alike_equivalence d bs o) (vertex_count bs) c l

  pub width-most : (o : ℕ) → width d bs o ≤ length bs
  unfolding width
  width-most o = width_least (local_count d bs o) (length bs) (local_most o)

  -- ---- every output
  pub upto_alike : (m x y : ℕ) → alike_upto d bs m x y ≡ true → (o : ℕ) → o < m → alike d bs o x y ≡ true
  unfolding alike_upto
  upto_alike zero x y e o l = absurd (omega arith)
  upto_alike (suc m) x y e o l =
      ⊎_elim
      (λ below. upto_alike m x y (and_left (alike_upto d bs m x y) (alike d bs m x y) e) o below)
      (λ last. rw last (and_right (alike_upto d bs m x y) (alike d bs m x y) e))
      (less_or_equal o m l)

  pub alike_upto_lem : (m x y : ℕ) → ((o : ℕ) → o < m → alike d bs o x y ≡ true) → alike_upto d bs m x y ≡ true
  unfolding alike_upto
  alike_upto_lem zero x y h = refl
  alike_upto_lem (suc m) x y h =
      and_both (alike_upto d bs m x y) (alike d bs m x y) (alike_upto_lem m x y (λ o l. h o (omega arith))) (h m (omega arith))

  global_no_conflict : (x y : ℕ) → global_class d bs x ≡ global_class d bs y
      → (o : ℕ) → o < length d.outputs → conflict d bs o x y ≡ false
  unfolding global_class
  global_no_conflict x y e o l =
      alike_no_conflict d bs o x y
      (upto_alike (length d.outputs) x y
      (class_related (alike_in_all d bs) (upto_equivalence d bs (length d.outputs)) x y e) o l)

  pub no_conflict_global : (x y : ℕ) → ((o : ℕ) → o < length d.outputs → conflict d bs o x y ≡ false)
      → global_class d bs x ≡ global_class d bs y
  unfolding global_class
  no_conflict_global x y h =
      related_class (alike_in_all d bs) (upto_equivalence d bs (length d.outputs)) x y
      (alike_upto_lem (length d.outputs) x y (λ o l. no_conflict_alike d bs o x y (h o l)))

  -- vertices of one global class are in one local class of every output
  pub global_local : (x y : ℕ) → global_class d bs x ≡ global_class d bs y
      → (o : ℕ) → o < length d.outputs → local_class d bs o x ≡ local_class d bs o y
  global_local x y e o l = no_conflict_local o x y (global_no_conflict x y e o l)

  pub global_below : (x : ℕ) → x < vertex_count bs → global_class d bs x < global_count d bs
  unfolding global_class global_count
  global_below x l = class_below (alike_in_all d bs) (upto_equivalence d bs (length d.outputs)) (vertex_count bs) x l

  pub global_most : global_count d bs ≤ vertex_count bs
  unfolding global_count
  global_most = count_most (alike_in_all d bs) (vertex_count bs)

  pub global_taken : (c : ℕ) → c < global_count d bs → Taken (alike_in_all d bs) (vertex_count bs) c
  unfolding global_count
  global_taken c l = class_taken (alike_in_all d bs) (upto_equivalence d bs (length d.outputs)) (vertex_count bs) c l

-- ---- rows
