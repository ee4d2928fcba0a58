-- The number of global classes by columns that are written down: each column is computed once, and two vertices are compared by
-- what is written. Assumes nothing.
use Rattle.std.specs.Prelude.{◌≡◌, Bool, true, ◌&&◌, List, [], ◌∷◌, length, get_or}
use Rattle.std.proofs.Math.Path.{refl, sym, ap, ap₂}
use Rattle.std.proofs.Common.{◌∙◌, arith, add-zero, zero-add, add-suc, suc-add}
use Prim.Native.Nat.{ℕ, zero, suc, ◌+◌, ◌≤◌, ◌<◌}
use Rattle.names.specs.Name.{Name}
use Rattle.sheet.specs.Examine.{Design}
use Rattle.classes.specs.Columns.{column, same_values, alike, alike_upto, alike_in_all, vertex_count}
use Rattle.classes.specs.Classes.{class_count, global_count}
use Rattle.selection.specs.CoarserLaws.{coarser_count}
use Rattle.demands.specs.Each.{Each, each_below}

-- ======== definitions
-- k columns of output o, from vertex x on
unfoldable pub columns_from : Design → List Name → ℕ → ℕ → ℕ → List (List Bool)
columns_from d bs o zero x = []
columns_from d bs o (suc k) x = column d bs o x ∷ columns_from d bs o k (suc x)

-- the column of output o at vertex x, as cs has it
abbrev pub written : List (List (List Bool)) → ℕ → ℕ → List Bool
written cs o x = get_or (get_or cs o []) x []

-- whether two vertices have equal columns in the first m outputs, as cs has them
unfoldable pub alike_written : List (List (List Bool)) → ℕ → ℕ → ℕ → Bool
alike_written cs zero x y = true
alike_written cs (suc m) x y = alike_written cs m x y && same_values (written cs m x) (written cs m y)

-- ======== laws
module _ (d : Design) (bs : List Name) where
  column_at : (o k x i : ℕ) → i < k → get_or (columns_from d bs o k x) i [] ≡ column d bs o (x + i)
  unfolding columns_from
  column_at o zero x i h = absurd (omega arith)
  column_at o (suc k) x zero h = ap (column d bs o) (sym (add-zero x))
  column_at o (suc k) x (suc i) h = column_at o k (suc x) i (omega arith) ∙ ap (column d bs o) (suc-add x i ∙ sym (add-suc x i))

  module _ (cs : List (List (List Bool))) (n : ℕ) where
    is_written : (o x : ℕ) → columns_from d bs o n 0 ≡ get_or cs o [] → x < n → column d bs o x ≡ written cs o x
    is_written o x e h =
        ap (column d bs o) (sym (zero-add x)) ∙ sym (column_at o n 0 x h) ∙ ap (λ (l : List (List Bool)). get_or l x []) e

    alike-written : (m : ℕ) → ((o : ℕ) → o < m → columns_from d bs o n 0 ≡ get_or cs o []) → (x y : ℕ) → x < n → y < n
        → alike_upto d bs m x y ≡ alike_written cs m x y
    unfolding alike_upto alike alike_written
    alike-written zero w x y h k = refl
    alike-written (suc m) w x y h k =
        let e = w m (omega arith) in
        ap₂ (λ (a b : Bool). a && b)
        (alike-written m (λ o l. w o (omega arith)) x y h k)
        (ap₂ same_values (is_written m x e h) (is_written m y e k))

-- of two tests that agree below v one makes as many classes as the other
agreeing_count : (same other : ℕ → ℕ → Bool) (v : ℕ) → ((x y : ℕ) → x < v → y < v → same x y ≡ other x y)
    → class_count same v ≡ class_count other v
agreeing_count same other v h =
    let up : class_count same v ≤ class_count other v = coarser_count other same v (λ x y a b e. h x y a b ∙ e) in
    let down : class_count other v ≤ class_count same v = coarser_count same other v (λ x y a b e. sym (h x y a b) ∙ e) in
    omega arith

pub written_count : (d : Design) (bs : List Name) (cs : List (List (List Bool)))
    → Each (length d.outputs) (λ (o : ℕ). columns_from d bs o (vertex_count bs) 0 ≡ get_or cs o [])
    → global_count d bs ≡ class_count (alike_written cs (length d.outputs)) (vertex_count bs)
unfolding global_count
written_count d bs cs w =
    let m = length d.outputs in
    agreeing_count (alike_in_all d bs) (alike_written cs m) (vertex_count bs)
    (alike-written d bs cs (vertex_count bs) m (each_below m (λ (o : ℕ). columns_from d bs o (vertex_count bs) 0 ≡ get_or cs o []) w))
