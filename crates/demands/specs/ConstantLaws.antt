-- The tables of the first network are constant on global classes. If some table had two values on one class, then a vertex of it
-- that has 1 in the first such table could take the values of one that has 0 there: the network would still be permitted, and
-- its tables would come before. Assumes nothing.
use Rattle.std.specs.Prelude.{◌≡◌, refl, Bool, true, false, List, [], ◌∷◌, length}
use Rattle.std.proofs.Math.Path.{sym, ap}
use Rattle.std.proofs.Common.{ap₂, ◌∙◌, subst, ⊎_elim, arith, add-zero, zero-add, add-suc, suc-add}
use Prim.Native.Nat.{ℕ, zero, suc, ◌+◌, ◌≤◌, ◌<◌, Ordering}
use Rattle.std.proofs.Math.Decide.{ℕ_discrete}
use Rattle.bits.specs.LogicLaws.{true_false}
use Rattle.limits.specs.Limits.{max_cells}
use Rattle.cells.specs.FreeLaws.{retabled-length, mapped_serves}
use Rattle.order.specs.Order.{then, is_less, before, tables_order}
use Rattle.sheet.specs.Examine.{Design}
use Rattle.sheet.specs.WellFormed.{WellFormed}
use Rattle.classes.specs.ProperLaws.{proper_of}
use Rattle.classes.specs.Columns.{vertex_count, conflict}
use Rattle.classes.specs.Classes.{local_class, global_class}
use Rattle.classes.specs.VertexLaws.{local_no_conflict, no_conflict_local, global_local}
use Rattle.classes.specs.Width.{budget}
use Rattle.network.specs.Network.{Network}
use Rattle.network.specs.Printer.{print_network}
use Rattle.network.specs.NamedLaws.{design-named}
use Rattle.network.specs.Value.{lut_at}
use Rattle.cells.specs.Core.{Cell, ZeroFirst}
use Rattle.cells.specs.Codes.{row_of, code_of}
use Rattle.cells.specs.Free.{retabled}
use Rattle.cells.specs.Written.{tables_of}
use Rattle.serving.specs.NetworkCore.{cells_of, network_core, Conflicts, ServesDesign}
use Rattle.serving.specs.Tells.{core-length}
use Rattle.serving.specs.Build.{built}
use Rattle.serving.specs.TheoremA.{built-luts}
use Rattle.serving.proofs.Serves.{drawn_serves}
use Rattle.lineorder.specs.CoreDigits.{network_tables, built_tables, network_zero}
use Rattle.lineorder.specs.PrintOrder.{nodes_order, print_order}
use Rattle.mapper.specs.Map.{Permitted, First}
use Rattle.mapper.specs.BuiltLaws.{built_permitted}
use Rattle.mapper.specs.CoreNumberLaws.{core-numbered}
use Rattle.demands.specs.SoonerTables.{seen_as, seen_self, seen_other, moved, Same, Sooner, same_or_sooner}

-- ---- tables 0 at vertex 0 stay so where another vertex changes
moved_zero : (x y : ℕ) (l : List Cell) → (y ≡ 0 → ⊥) → ZeroFirst l → ZeroFirst (moved x y l)
unfolding retabled
moved_zero x y [] n z = tt
moved_zero x y (c ∷ l) n z = (ap c.table (seen_other x y 0 (λ e. n (sym e))) ∙ z.0, moved_zero x y l n z.1)

-- ---- every cell of a network's core has one value at x and y, so every table has
same_at : (w : Network) (x y k i j : ℕ) → Same x y (cells_of w k i) → j < k → lut_at w (i + j) x ≡ lut_at w (i + j) y
unfolding cells_of
same_at w x y zero i j s h = absurd (omega arith)
same_at w x y (suc k) i zero s h = subst (λ (n : ℕ). lut_at w n x ≡ lut_at w n y) (sym (add-zero i)) s.0
same_at w x y (suc k) i (suc j) s h =
    subst (λ (n : ℕ). lut_at w n x ≡ lut_at w n y) (suc-add i j ∙ sym (add-suc i j)) (same_at w x y k (suc i) j s.1 (omega arith))

same_tables : (w : Network) (x y i : ℕ) → Same x y (network_core w) → i < length w.luts → lut_at w i x ≡ lut_at w i y
unfolding network_core
same_tables w x y i s h = subst (λ (n : ℕ). lut_at w n x ≡ lut_at w n y) (zero-add i) (same_at w x y (length w.luts) 0 i s h)

-- x and y are vertices of one local class in every output
record OneClass (d : Design) (x y : ℕ) : Type 0 where
  is_vertex : x < vertex_count d.bound
  is_other : y < vertex_count d.bound
  one_local : (o : ℕ) → o < length d.outputs → local_class d d.bound o x ≡ local_class d d.bound o y

turned : (d : Design) (x y : ℕ) → OneClass d x y → OneClass d y x
turned d x y c = record { is_vertex = c.is_other; is_other = c.is_vertex; one_local = λ o h. sym (c.one_local o h) }

module _ (d : Design) (f : WellFormed d) (w : Network) (p : Permitted d w) (x y : ℕ) (c : OneClass d x y) where
  abbrev l : List Cell
  l = moved x y (network_core w)

  abbrev other : Network
  other = built d (length l) (row_of l) (code_of l)

  seen_below : (z : ℕ) → z < vertex_count d.bound → seen_as x y z < vertex_count d.bound
  seen_below z h = at (ℕ_discrete z y)
    where
      at : Dec (z ≡ y) → seen_as x y z < vertex_count d.bound
      at (yes q) = subst (λ (n : ℕ). n < vertex_count d.bound) (sym (seen_self x y z q)) c.is_vertex
      at (no n) = subst (λ (n : ℕ). n < vertex_count d.bound) (sym (seen_other x y z n)) h

  seen_class : (o z : ℕ) → o < length d.outputs → local_class d d.bound o (seen_as x y z) ≡ local_class d d.bound o z
  seen_class o z h = at (ℕ_discrete z y)
    where
      at : Dec (z ≡ y) → local_class d d.bound o (seen_as x y z) ≡ local_class d d.bound o z
      at (yes q) = ap (local_class d d.bound o) (seen_self x y z q) ∙ c.one_local o h ∙ sym (ap (local_class d d.bound o) q)
      at (no n) = ap (local_class d d.bound o) (seen_other x y z n)

  seen-conflict : (o a b : ℕ) → o < length d.outputs → Conflicts d o a b → Conflicts d o (seen_as x y a) (seen_as x y b)
  seen-conflict o a b h e = at (conflict d d.bound o (seen_as x y a) (seen_as x y b)) refl
    where
      at : (k : Bool) → conflict d d.bound o (seen_as x y a) (seen_as x y b) ≡ k → Conflicts d o (seen_as x y a) (seen_as x y b)
      at true q = q
      at false q =
          absurd (true_false (sym e ∙ local_no_conflict d d.bound o a b
          (sym (seen_class o a h) ∙ no_conflict_local d d.bound o (seen_as x y a) (seen_as x y b) q ∙ seen_class o b h)))

  moved_serves : ServesDesign d l
  moved_serves =
      mapped_serves (seen_as x y) (vertex_count d.bound) (vertex_count d.bound) (length d.outputs) (Conflicts d) (Conflicts d)
      (budget d d.bound) seen_below (λ o a b h _ _ e. seen-conflict o a b h e) (network_core w)
      (drawn_serves d w (proper_of d f) p.wellformed p.within p.computes)

  moved-count : length l ≡ length w.luts
  moved-count = retabled-length (λ c z. c.table (seen_as x y z)) (network_core w) ∙ core-length w

  moved_permitted : (y ≡ 0 → ⊥) → Permitted d other
  moved_permitted n =
      built_permitted d f (length l) (row_of l) (code_of l) (subst (ServesDesign d) (sym (core-numbered l)) moved_serves)
      (subst (λ (k : ℕ). k ≤ max_cells) (sym moved-count) p.wellformed.few_luts)
      (subst (λ (k : ℕ). k ≤ d.limit) (sym moved-count) p.within.luts-within)
      (subst ZeroFirst (sym (core-numbered l)) (moved_zero x y (network_core w) n (network_zero w p.zero_first)))
      (λ v a b e. subst (λ (k : ℕ). k ≤ length v.luts) (sym moved-count) (p.fewest v a b e))

  moved_before : Sooner (vertex_count d.bound) x y (network_core w) → before (print_network d other) (print_network d w) ≡ true
  unfolding before
  moved_before s =
      let q = moved_permitted s.not_zero in
      let v = vertex_count d.bound in
      let tables : other.luts ≡ tables_of v l =
      sym (built_tables d (length l) (row_of l) (code_of l)) ∙ ap (tables_of v) (core-numbered l) in
      ap is_less
      (print_order d (design-named d f) other w q.wellformed p.wellformed (built-luts d (length l) (row_of l) (code_of l) ∙ moved-count)
      ∙ ap (λ (o : Ordering). then o (nodes_order d other.nodes w.nodes))
      (ap₂ tables_order tables (sym (network_tables d w p.wellformed)) ∙ s.less))

none_sooner : (d : Design) (w : Network) (x y : ℕ) → WellFormed d → First d w → OneClass d x y → Sooner (vertex_count d.bound) x y (network_core w) → ⊥
none_sooner d w x y f h c s =
    let p = h.permitted in
    true_false (sym (moved_before d f w p x y c s) ∙ h.none_before (other d f w p x y c) (moved_permitted d f w p x y c s.not_zero))

pub first_constant : (d : Design) (w : Network) (x y i : ℕ)
    → WellFormed d
    → First d w
    → x < vertex_count d.bound
    → y < vertex_count d.bound
    → global_class d d.bound x ≡ global_class d d.bound y
    → i < length w.luts
    → lut_at w i x ≡ lut_at w i y
first_constant d w x y i f h a b e l =
    let c : OneClass d x y = record { is_vertex = a; is_other = b; one_local = global_local d d.bound x y e } in
    ⊎_elim (λ s. same_tables w x y i s l)
    (λ r. absurd (⊎_elim (none_sooner d w x y f h c) (none_sooner d w y x f h (turned d x y c)) r))
    (same_or_sooner (vertex_count d.bound) x y (network_core w) a b (network_zero w h.permitted.zero_first))
