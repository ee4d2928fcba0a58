-- Of two designs with the same tables one is the other with other outputs, and the same networks can be written beside both, are
-- within their limits and compute them. Assumes nothing.
use Rattle.std.specs.Prelude.{◌≡◌, List, ℕ, ◌^◌, ◌≤◌, ◌<◌, length}
use Rattle.std.proofs.Common.{sym, ap, ◌∙◌, subst}
use Rattle.names.specs.Name.{Name}
use Rattle.sheet.specs.Lines.{Output}
use Rattle.sheet.specs.Examine.{Design, output_names, with_inputs, with_bound, with_limit, with_outputs}
use Rattle.sheet.specs.Value.{output_on}
use Rattle.network.specs.Network.{Network}
use Rattle.network.specs.NetworkFor.{NetworkFor}
use Rattle.network.specs.Answers.{WithinLimits, Computes, read_count}
use Rattle.pla.specs.SameTables.{SameTables}
use Rattle.pla.specs.SameTablesLaws.{SameValues, count_same, value_same, budget_same, network_same}

-- ---- two designs that differ in their formulas alone: what is asked of a network
module _ (d : Design) (ps : List Output) (names : output_names d.outputs ≡ output_names ps) (values : SameValues d ps) where
  pub formed_same : (w : Network) → NetworkFor d w → NetworkFor (with_outputs d ps) w
  formed_same w h =
      record {
        few_luts = h.few_luts;
        lut_digits = h.lut_digits;
        node_each = h.node_each ∙ count_same d ps names values;
        node_fits = h.node_fits;
      }

  pub within_same : (w : Network) → WithinLimits d w → WithinLimits (with_outputs d ps) w
  within_same w h =
      record {
        luts-within = h.luts-within;
        reads-within = λ o k. subst (λ (n : ℕ). read_count w o ≤ n) (budget_same d ps names values d.bound o) (h.reads-within o k);
      }

  pub is_output : (o : ℕ) → o < length ps → o < length d.outputs
  is_output o k = subst (λ (n : ℕ). o < n) (sym (count_same d ps names values)) k

  pub computes_same : (w : Network) → Computes d w → Computes (with_outputs d ps) w
  computes_same w h =
      record {
        agrees = λ o r k l.
            sym (network_same d ps names values w o r) ∙ h.agrees o r (is_output o k) l ∙ value_same d ps names values o r l;
      }

  -- and the other way round
  pub values_back : SameValues (with_outputs d ps) d.outputs
  values_back o r k l = sym (value_same d ps names values o r l)

-- ---- any two designs with the same tables
module _ {d e : Design} (h : SameTables d e) where
  -- the second is the first with the second's outputs
  pub second_is : with_outputs d e.outputs ≡ e
  second_is =
      ap (with_inputs (with_outputs d e.outputs)) h.same_inputs
      ∙ ap (with_bound (with_limit e d.limit)) h.same-bound
      ∙ ap (with_limit e) h.same_limit

  pub second_values : SameValues d e.outputs
  second_values o r k l = h.same_values o r k l ∙ ap (λ (x : Design). output_on x o r) (sym second_is)

  pub counts_same : length d.outputs ≡ length e.outputs
  counts_same = count_same d e.outputs h.same_outputs second_values

  -- and the first is the second with the first's outputs
  pub tables_back : SameTables e d
  tables_back =
      record {
        same_inputs = sym h.same_inputs;
        same-bound = sym h.same-bound;
        same_limit = sym h.same_limit;
        same_outputs = sym h.same_outputs;
        same_values = λ o r k l.
            sym
            (h.same_values o r (subst (λ (n : ℕ). o < n) (sym counts_same) k)
            (subst (λ (ns : List Name). r < 2 ^ length ns) (sym h.same_inputs) l));
      }
