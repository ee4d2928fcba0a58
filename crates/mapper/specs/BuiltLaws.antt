-- A core that serves, has no more cells than every network has tables and is 0 at vertex 0 makes a permitted network: written
-- out, with 0 in every entry whose code no vertex produces. Assumes nothing.
use Rattle.std.specs.Prelude.{◌≡◌, Bool, false, map, ℕ, zero, suc, ◌+◌, ◌/◌, ◌%◌, ◌^◌, ◌≤◌, ◌<◌}
use Rattle.std.proofs.Common.{sym, ◌∙◌, pow_pos}
use Rattle.std.proofs.Math.Path.{ap, subst}
use native.Mathlib.Omega.{arith}
use Rattle.std.proofs.Math.Decide.{dec_lt}
use Rattle.std.proofs.Math.Dec.{eqb}
use Rattle.std.proofs.Math.ListN.{length, get_or, get_or-eq_default}
use borrow.Author.Tests.{ne_eqb}
use Rattle.bits.specs.Digit.{on}
use Rattle.bits.specs.Values.{values_upto}
use Rattle.bits.specs.ValuesLaws.{values_length, values_at}
use Rattle.limits.specs.Limits.{max_cells}
use Rattle.rows.specs.Row.{row_of}
use Rattle.sheet.specs.Examine.{Design}
use Rattle.sheet.specs.WellFormed.{WellFormed}
use Rattle.classes.specs.ProperLaws.{proper_of}
use Rattle.classes.specs.Columns.{free, vertex_count, free_count}
use Rattle.network.specs.Network.{Network, Node}
use Rattle.network.specs.NetworkFor.{NetworkFor, node_at}
use Rattle.network.specs.Answers.{WithinLimits, Computes}
use Rattle.network.specs.FirstOfLaws.{fails_none}
use Rattle.network.specs.Value.{lut_at, code_at}
use Rattle.cells.specs.Core.{ZeroFirst, core_of, cells_from}
use Rattle.serving.specs.NetworkCore.{ServesDesign}
use Rattle.network.specs.Numbers.{numbers_of}
use Rattle.serving.specs.Build.{code_in, entry_at, entry, node_built, built}
use Rattle.serving.specs.Compose.{lut_built, tables_at}
use Rattle.serving.specs.TheoremA.{built-luts, built-node, built_wellformed, built-within, parts_of, columns_of}
use Rattle.serving.proofs.Computes.{built_computes}
use Rattle.mapper.specs.Map.{Permitted}

-- ---- tables 0 at vertex 0
zero_at : (rows codes : ℕ → ℕ) (k j i : ℕ) → ZeroFirst (cells_from k j rows codes) → i < k → on (codes 0) (j + i) ≡ false
unfolding cells_from
zero_at rows codes zero j i z h = absurd (omega arith)
zero_at rows codes (suc k) j zero z h = ap (on (codes 0)) (plus_zero j) ∙ z.0
  where
    plus_zero : (j : ℕ) → j + 0 ≡ j
    plus_zero j = omega arith
zero_at rows codes (suc k) j (suc i) z h = ap (on (codes 0)) (shift j i) ∙ zero_at rows codes k (suc j) i z.1 (omega arith)
  where
    shift : (j i : ℕ) → j + suc i ≡ suc j + i
    shift j i = omega arith

-- ---- the network that is built of a core
module _ (d : Design) (f : WellFormed d) (u : ℕ) (rows codes : ℕ → ℕ) (served : ServesDesign d (core_of u rows codes)) where
  built_zero : ZeroFirst (core_of u rows codes) → (i : ℕ) → i < length (built d u rows codes).luts → lut_at (built d u rows codes) i 0 ≡ false
  unfolding built
  built_zero z i h =
      let k : i < u = subst (λ (n : ℕ). i < n) (built-luts d u rows codes) h in
      lut_built d codes u 0 i 0 k (pow_pos (length d.bound))
      ∙ zero_at rows codes u 0 i z k

  -- the codes of the built network are those of the vertices' numbers
  built_code : (o x : ℕ) → o < length d.outputs → x < vertex_count d.bound
      → code_at (built d u rows codes) (node_at (built d u rows codes).nodes o).reads x ≡ code_in (numbers_of u (rows o)) (codes x)
  unfolding node_built code_in
  built_code o x h l =
      ap (λ (n : Node). row_of (map (λ i. lut_at (built d u rows codes) i x) n.reads)) (built-node d u rows codes o h)
      ∙ ap row_of (tables_at d u rows codes (parts_of d.inputs d.bound (proper_of d f).parted) (columns_of d) served o x l)

  entry_none : (o j : ℕ) → o < length d.outputs
      → ((x : ℕ) → x < vertex_count d.bound → code_in (numbers_of u (rows o)) (codes x) ≡ j / free_count d.inputs d.bound → ⊥)
      → entry d codes o (numbers_of u (rows o)) j ≡ false
  unfolding entry
  entry_none o j h n =
      ap (entry_at d o (j % free_count d.inputs d.bound))
      (fails_none (λ x. eqb (code_in (numbers_of u (rows o)) (codes x)) (j / free_count d.inputs d.bound)) (vertex_count d.bound) 0
      (λ x _ l. ne_eqb (code_in (numbers_of u (rows o)) (codes x)) (j / free_count d.inputs d.bound) (n x (below x l))))
    where
      below : (x : ℕ) → x < 0 + vertex_count d.bound → x < vertex_count d.bound
      below x l = omega arith

  values_default : (p : ℕ → Bool) (n j : ℕ) → p j ≡ false → get_or (values_upto p n) j false ≡ false
  values_default p n j e =
      elim (dec_lt j n) as (λ _. get_or (values_upto p n) j false ≡ false) [
        | yes l ↦ values_at p n j l ∙ e
        | no k ↦ (let q = values_length p n in get_or-eq_default (values_upto p n) false {n = j} (past j n k q))
      ]
    where
      past : (j n : ℕ) → (j < n → ⊥) → {k : ℕ} → k ≡ n → k ≤ j
      past j n h e = omega arith

  built_unproduced : (o j : ℕ) → o < length d.outputs
      → ((x : ℕ)
      → x < vertex_count d.bound
      → code_at (built d u rows codes) (node_at (built d u rows codes).nodes o).reads x ≡ j / free_count d.inputs d.bound
      → ⊥)
      → get_or (node_at (built d u rows codes).nodes o).digits j false ≡ false
  unfolding node_built
  built_unproduced o j h n =
      ap (λ (x : Node). get_or x.digits j false) (built-node d u rows codes o h)
      ∙ values_default (entry d codes o (numbers_of u (rows o))) (2 ^ (length (numbers_of u (rows o)) + length (free d.inputs d.bound))) j
      (entry_none o j h (λ x l e. n x l (built_code o x h l ∙ e)))

  pub built_permitted : u ≤ max_cells
      → u ≤ d.limit
      → ZeroFirst (core_of u rows codes)
      → ((w : Network) → NetworkFor d w → WithinLimits d w → Computes d w → u ≤ length w.luts)
      → Permitted d (built d u rows codes)
  built_permitted few within z fewest =
      record {
        wellformed = built_wellformed d u rows codes few;
        within = built-within d u rows codes within served;
        computes = built_computes d u rows codes (proper_of d f) served;
        fewest = λ w p l c. subst (λ (n : ℕ). n ≤ length w.luts) (sym (built-luts d u rows codes)) (fewest w p l c);
        zero_first = built_zero z;
        unproduced = built_unproduced;
      }
