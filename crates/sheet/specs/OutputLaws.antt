-- One output more: with its name and its table stored after the others, the sheet holds the design with the output.
-- Assumes nothing.
use Rattle.std.specs.Prelude.{◌≡◌, ℕ, ◌+◌, ◌<◌, length, take, set}
use Rattle.std.proofs.Common.{sym, ap₂, ◌∙◌, add-one, arith, length-append, take-suc-set, get_or-set_same, get_or-set_other}
use Rattle.std.proofs.Math.Path.{ap}
use mathlib.Core.List.{List, [], ◌∷◌, ◌++◌, map, map-append}
use Rattle.std.proofs.Math.Decide.{dec_lt}
use Rattle.std.proofs.Math.ListN.{get_or-append}
use Rattle.std.proofs.lemmas.List.{get_or_at}
use Rattle.limits.specs.Limits.{max_outputs}
use Rattle.names.specs.Name.{Name}
use Rattle.names.specs.Pack.{name_of}
use Rattle.rows.specs.Words.{Rowwise}
use Rattle.rows.specs.WordLaws.{rowwise_same}
use Rattle.formula.specs.Value.{value, on_row}
use Rattle.sheet.specs.Lines.{Output}
use Rattle.sheet.specs.Examine.{Design, output_names, with_output}
use Rattle.sheet.specs.Known.{Holds, table_at}
use Rattle.sheet.specs.Value.{output_on}
use Rattle.sheet.specs.declared.Sheet.{Sheet}
use Rattle.sheet.specs.declared.Rows.{Rows}

-- the sheet with an output of the name v and the table ws
abbrev pub output_into : Sheet → ℕ → List ℕ → Sheet
output_into k v ws =
    record {
      inputs = k.inputs;
      names = k.names;
      bounds = k.bounds;
      bound = k.bound;
      limit = k.limit;
      outputs = k.outputs + 1;
      outs = set k.outs k.outputs v;
      tables = set k.tables k.outputs (record { words = ws });
    }

abbrev pub words_of : Rows → List ℕ
words_of t = t.words

module _ (d : Design) (o : Output) where
  -- the earlier outputs are as they were, and the new one is the last
  earlier_output : (i r : ℕ) → i < length d.outputs → output_on d i r ≡ output_on (with_output d o) i r
  unfolding output_on
  earlier_output i r l =
      ap (λ (x : Output). value (on_row d.inputs r) x.formula) (sym (get_or-append d.outputs (o ∷ []) _ i l))

  last-output : (i r : ℕ) → i ≡ length d.outputs
      → value (on_row d.inputs r) o.formula ≡ output_on (with_output d o) i r
  unfolding output_on
  last-output i r e =
      ap (λ (x : Output). value (on_row d.inputs r) x.formula) (sym (get_or_at d.outputs o [] _ i (sym e)))

  module _ (k : Sheet) (v : ℕ) (ws : List ℕ) (h : Holds d k) (room : k.outputs < max_outputs) where
    named_more : length k.outs ≡ max_outputs → name_of v ≡ o.name
        → map name_of (take (k.outputs + 1) (set k.outs k.outputs v)) ≡ output_names (d.outputs ++ (o ∷ []))
    named_more s e =
        let l : k.outputs < length k.outs = omega arith in
        let stored : take (k.outputs + 1) (set k.outs k.outputs v) ≡ take k.outputs k.outs ++ (v ∷ [])
        = rw add-one (take-suc-set k.outs k.outputs v l) in
        ap (map name_of) stored
        ∙ map-append name_of (take k.outputs k.outs) (v ∷ [])
        ∙ ap₂ (λ (a : List Name) (b : Name). a ++ (b ∷ [])) h.outputs_named e
        ∙ sym (map-append (λ (x : Output). x.name) d.outputs (o ∷ []))

    -- the table at i is that of the output i
    abbrev TableIs : ℕ → Type 0
    TableIs i = Rowwise (output_on (with_output d o) i) (table_at (output_into k v ws).tables i)

    module _ (s : length k.tables ≡ max_outputs) (t : Rowwise (λ (i : ℕ). value (on_row d.inputs i) o.formula) ws) where
      tabled-last : (i : ℕ) → i ≡ k.outputs → TableIs i
      tabled-last i e =
          let l : k.outputs < length k.tables = omega arith in
          let n : i ≡ length d.outputs = e ∙ h.outputs_counted in
          let w : ws ≡ table_at (output_into k v ws).tables i
          = rw e (sym (ap words_of (get_or-set_same k.tables k.outputs (record { words = ws }) _ l))) in
          rowwise_same (rw w at t) (λ r _. last-output i r n)

      tabled-before : (i : ℕ) → i < k.outputs → TableIs i
      tabled-before i l =
          let n : i < length d.outputs = omega (arith, h.outputs_counted) in
          let w : table_at k.tables i ≡ table_at (output_into k v ws).tables i
          = sym (ap words_of (get_or-set_other k.tables k.outputs i (record { words = ws }) _ (λ e. omega arith))) in
          rowwise_same (rw w at (h.tabled i l)) (λ r _. earlier_output i r n)

      tabled-more : (i : ℕ) → i < k.outputs + 1 → TableIs i
      tabled-more i l =
          elim (dec_lt i k.outputs) as (λ _. TableIs i) [
            | yes b ↦ tabled-before i b
            | no n ↦ tabled-last i (omega arith)
          ]

      pub output-added : length k.outs ≡ max_outputs → name_of v ≡ o.name → Holds (with_output d o) (output_into k v ws)
      output-added u e =
          record {
            inputs_counted = h.inputs_counted;
            inputs_few = h.inputs_few;
            inputs_named = h.inputs_named;
            bound-counted = h.bound-counted;
            bound_few = h.bound_few;
            bound_placed = h.bound_placed;
            limit_is = h.limit_is;
            limit_small = h.limit_small;
            outputs_counted = omega (arith, h.outputs_counted, length-append d.outputs (o ∷ []));
            outputs_few = omega arith;
            outputs_named = named_more u e;
            tabled = tabled-more;
          }
