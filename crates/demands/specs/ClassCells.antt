-- A core that serves a design has a code for each global class: vertices whose columns differ in some output have different values
-- in some cell. So a design needs as many cells as the logarithm of its global classes, though it may need more. Assumes nothing.
use Rattle.std.specs.Prelude.{◌≡◌, Bool, true, List, [], ◌∷◌, map, length}
use Rattle.std.proofs.Math.Path.{refl}
use Rattle.std.proofs.Common.{⊎_elim, arith, pow_mono}
use Prim.Native.Nat.{ℕ, zero, suc, ◌^◌, ◌≤◌, ◌<◌}
use Rattle.std.proofs.Math.Decide.{dec_lt}
use Rattle.bits.specs.LogicLaws.{and_both, either}
use Rattle.sheet.specs.Examine.{Design}
use Rattle.cells.specs.Core.{Cell, Apart}
use Rattle.classes.specs.Cases.{not_both}
use Rattle.classes.specs.Columns.{alike, alike_upto, alike_in_all, vertex_count}
use Rattle.classes.specs.Classes.{global_count}
use Rattle.serving.specs.Compose.{head_same, tail_same}
use Rattle.serving.specs.NetworkCore.{ServesDesign}
use Rattle.serving.specs.ClassCodes.{Told, classes_told}
use Rattle.serving.specs.FullReads.{unlike_conflict}
use Rattle.demands.specs.NeededCells.{AtLeast}

abbrev table_of : Cell → ℕ → Bool
table_of c = c.table

apart-told : (o x y : ℕ) (l : List Cell) → Apart o x y l → Told table_of l x y
apart-told o x y [] a e = a
apart-told o x y (c ∷ l) a e =
    let xs = map (λ k. table_of k x) l in
    let ys = map (λ k. table_of k y) l in
    ⊎_elim
    (λ p. p.1 (head_same (c.table x) (c.table y) xs ys e))
    (λ r. apart-told o x y l r (tail_same (c.table x) (c.table y) xs ys e))
    a

module _ (d : Design) (l : List Cell) (s : ServesDesign d l) where
  -- vertices with one code have equal columns in every output
  alike_upto_lem : (x y : ℕ)
      → x < vertex_count d.bound
      → y < vertex_count d.bound
      → map (λ c. table_of c x) l ≡ map (λ c. table_of c y) l
      → (m : ℕ)
      → m ≤ length d.outputs
      → alike_upto d d.bound m x y ≡ true
  unfolding alike_upto
  alike_upto_lem x y a b e zero h = refl
  alike_upto_lem x y a b e (suc m) h =
      and_both (alike_upto d d.bound m x y) (alike d d.bound m x y)
      (alike_upto_lem x y a b e m (omega arith))
      (⊎_elim
      (λ k. k)
      (λ u. absurd (apart-told m x y l (s.tells m x y h a b (unlike_conflict d d.bound m x y u)) e))
      (either (alike d d.bound m x y)))

  globals_coded : global_count d d.bound ≤ 2 ^ length l
  unfolding global_count
  globals_coded =
      classes_told (alike_in_all d d.bound) table_of l (vertex_count d.bound)
      (λ x y a b u e. not_both (alike_in_all d d.bound x y) (alike_upto_lem x y a b e (length d.outputs) (omega arith)) u)

pub classes_needed : (d : Design) (u : ℕ) → 2 ^ u < global_count d d.bound → AtLeast (suc u) d
classes_needed d u h =
    record {
      cells = λ l s.
          elim (dec_lt u (length l)) as (λ _. suc u ≤ length l) [
            | yes k ↦ k
            | no n ↦
                let most = globals_coded d l s in
                let fewer : 2 ^ length l ≤ 2 ^ u = pow_mono (omega arith) in
                absurd (omega (arith, most, fewer, h))
          ];
    }
