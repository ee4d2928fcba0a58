-- Theorem A from cores to networks: the network of a core that serves has the design's value on every row. Assumes nothing.
use Rattle.std.specs.Prelude.{◌≡◌, Bool, false}
use Rattle.std.proofs.Common.{sym, ◌∙◌}
use Rattle.std.proofs.Math.Path.{ap, ap₂, subst}
use mathlib.Core.List.{List, ◌++◌, map}
use Prim.Native.Nat.{ℕ, ◌+◌, ◌*◌, ◌^◌, ◌<◌}
use Rattle.std.proofs.Math.ListN.{length, get_or, length-append}
use Rattle.std.proofs.lemmas.List.{length-map}
use Rattle.bits.specs.Digit.{on}
use Rattle.rows.specs.Row.{row_of, values_of}
use Rattle.rows.specs.RowLaws.{row_lt, row_values, length_values}
use Rattle.formula.specs.Value.{on_row}
use Rattle.sheet.specs.Examine.{Design}
use Rattle.sheet.specs.Value.{output_on}
use Rattle.classes.specs.Columns.{free, join_row, vertex_of, free_row_of, vertex_count, free_count, value_at}
use Rattle.bits.specs.Values.{values_upto}
use Rattle.bits.specs.ValuesLaws.{values_at}
use Rattle.network.specs.Network.{Node}
use Rattle.network.specs.Numbers.{numbers_of}
use Rattle.network.specs.Value.{network_on}
use Rattle.cells.specs.Core.{core_of}
use Rattle.serving.specs.NetworkCore.{ServesDesign}
use Rattle.network.specs.Value.{lut_at}
use Rattle.serving.specs.Parts.{Parts, Columns}
use Rattle.serving.specs.Tells.{node_at_lem}
use Rattle.serving.specs.Build.{code_in, entry, node_built, built}
use Rattle.serving.specs.Compose.{row-append, entry_right, tables_at, node_is}
use Rattle.classes.specs.Proper.{Proper}
use Rattle.network.specs.Answers.{Computes}
use Rattle.serving.specs.TheoremA.{parts_of, columns_of}

module _ (d : Design) (u : ℕ) (rows codes : ℕ → ℕ) (p : Parts d.inputs d.bound) (q : Columns d)
    (serves : ServesDesign d (core_of u rows codes)) where
  -- the network has each output's value at every vertex and free row
  at_parts : (o x z : ℕ) → o < length d.outputs → x < vertex_count d.bound → z < free_count d.inputs d.bound
      → network_on d (built d u rows codes) o (join_row d.inputs d.bound x z) ≡ value_at d d.bound o x z
  unfolding node_built code_in
  at_parts o x z h a c =
      let is = numbers_of u (rows o) in
      let fl = length (free d.inputs d.bound) in
      let vs = map (on (codes x)) is in
      let js = row_of (vs ++ values_of fl z) in
      let lv : length (vs ++ values_of fl z) ≡ length is + fl = length-append vs (values_of fl z) ∙ ap₂ ◌+◌ (length-map is (on (codes x))) (length_values fl z) in
      let js-is : js ≡ code_in is (codes x) * free_count d.inputs d.bound + z = row-append vs (values_of fl z) ∙ ap₂ (λ (m n : ℕ). row_of vs * 2 ^ m + n) (length_values fl z) (row_values fl z c) in
      node_at_lem d (built d u rows codes) p o x z a c
      ∙ ap (λ (t : Node). get_or t.digits (row_of (map (λ i. lut_at (built d u rows codes) i x) t.reads ++ values_of fl z)) false) (node_is d u rows codes p q serves o h)
      ∙ ap (λ (l : List Bool). get_or (values_upto (entry d codes o is) (2 ^ (length is + fl))) (row_of (l ++ values_of fl z)) false) (tables_at d u rows codes p q serves o x a)
      ∙ values_at (entry d codes o is) (2 ^ (length is + fl)) js (subst (λ (n : ℕ). js < 2 ^ n) lv (row_lt (vs ++ values_of fl z)))
      ∙ entry_right d u rows codes p q serves o x z js h a c js-is

  vertex_below : (r : ℕ) → vertex_of d.inputs d.bound r < vertex_count d.bound
  unfolding vertex_of
  vertex_below r = subst (λ (n : ℕ). row_of (map (on_row d.inputs r) d.bound) < 2 ^ n) (length-map d.bound (on_row d.inputs r)) (row_lt (map (on_row d.inputs r) d.bound))

  free_below : (r : ℕ) → free_row_of d.inputs d.bound r < free_count d.inputs d.bound
  unfolding free_row_of
  free_below r = subst (λ (n : ℕ). row_of (map (on_row d.inputs r) (free d.inputs d.bound)) < 2 ^ n) (length-map (free d.inputs d.bound) (on_row d.inputs r))
      (row_lt (map (on_row d.inputs r) (free d.inputs d.bound)))

  pub built_right : (o r : ℕ) → o < length d.outputs → r < 2 ^ length d.inputs → network_on d (built d u rows codes) o r ≡ output_on d o r
  unfolding value_at
  built_right o r h l =
      let x = vertex_of d.inputs d.bound r in
      let z = free_row_of d.inputs d.bound r in
      ap (network_on d (built d u rows codes) o) (sym (p.join_of r l))
      ∙ at_parts o x z h (vertex_below r) (free_below r)
      ∙ ap (output_on d o) (p.join_of r l)

module _ (d : Design) (u : ℕ) (rows codes : ℕ → ℕ) where
  pub built_computes : Proper d → ServesDesign d (core_of u rows codes) → Computes d (built d u rows codes)
  built_computes p s =
      record { agrees = built_right d u rows codes (parts_of d.inputs d.bound p.parted) (columns_of d) s }
