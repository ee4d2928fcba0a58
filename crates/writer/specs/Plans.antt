-- The lines of a plan. Assumes nothing.
use Rattle.std.specs.Prelude.{List, ◌++◌, ℕ, ◌≤◌, take}
use Rattle.limits.specs.Limits.{max_inputs, max_outputs, max_cells}
use Rattle.bits.specs.Digit.{on}
use Rattle.names.specs.Pack.{name_of}
use Rattle.sheet.specs.Known.{table_at}
use Rattle.bits.specs.Values.{values_upto}
use Rattle.network.specs.Printer.{print_lut, print_node}
use Rattle.network.specs.Numbers.{numbers_of}
use Rattle.network.specs.Shown.{max_names, shown, item}
use Rattle.netlines.specs.Lines.{head_line, lines_upto, last_lines, node_by, Fitting}
use Rattle.writer.specs.declared.Plan.{Plan}

-- as many names, outputs and tables as there may be
pub record Fit (p : Plan) : Type 0 where
  pub few_bound : p.bound.count ≤ max_names
  pub few_free : p.free.count ≤ max_inputs
  pub few_outputs : p.sheet.outputs ≤ max_outputs
  pub few_tables : p.tables ≤ max_cells
  pub fitting : Fitting p.shape

unfoldable pub lut_lines : Plan → List ℕ
lut_lines p =
    lines_upto (λ (i : ℕ). print_lut (shown p.bound) i (values_upto (λ (x : ℕ). on (item p.codes x) i) p.shape.vertices)) p.tables

unfoldable pub node_lines : Plan → List ℕ
node_lines p =
    lines_upto
    (λ (o : ℕ).
    print_node (name_of (item p.sheet.outs o)) (shown p.free)
    (node_by (table_at p.sheet.tables o) (take p.shape.vertices p.shape.vertex) (take p.shape.frees p.shape.free) (item p.codes)
    (numbers_of p.tables (item p.rows o))))
    p.sheet.outputs

-- the edition of network sheets
abbrev pub edition : ℕ
edition = 1

unfoldable pub all_lines : Plan → List ℕ
all_lines p = head_line edition ++ (lut_lines p ++ (node_lines p ++ last_lines p.tables))
