-- A running row number is at every free row the row of its vertex and that free row, and the column that is put down by it
-- is the vertex's. Assumes nothing.
use Rattle.std.specs.Prelude.{◌≡◌, Bool, false, List, ◌∷◌, [], ℕ, ◌+◌, ◌-◌, ◌≤◌, ◌<◌, length, get_or, Option, Some}
use Rattle.std.proofs.Common.{sym, ap₂, ◌∙◌, arith, pow_pos}
use Rattle.std.proofs.Math.Path.{ap}
use Rattle.limits.specs.Limits.{max_rows}
use Rattle.limits.specs.declared.Vertex.{Vertex}
use Rattle.rows.specs.Digits.{digit}
use Rattle.rows.specs.Words.{row_on}
use Rattle.rows.specs.Step.{stepped}
use Rattle.classes.specs.Columns.{free, join_row, vertex_count}
use Rattle.bits.specs.Values.{values_upto}
use Rattle.bits.specs.ValuesLaws.{values_same}
use Rattle.classes.specs.JoinLaws.{join-small, join-sum}
use Rattle.classes.specs.NextLaws.{next_row}
use Rattle.network.specs.Printer.{print_digits}
use Rattle.emit.specs.Written.{Written}
use Rattle.netlines.specs.Lines.{cell_on, Laid}
use Rattle.netlines.specs.DigitLaws.{Digits, digits_none, digits_put, digits_all, NoVertex, cell_past, cell_there}
use Rattle.netlines.specs.Running.{VertexRow, row_at}

-- the number at free row z, and the digits of the free rows before
pub record Running {start bound free : ℕ} (v : VertexRow start bound free) (t : List ℕ) (n : ℕ) (a b : List ℕ) (at p row z : ℕ) : Type 0 where
  pub runs : row ≡ row_at v z
  pub put : Digits (λ y. row_on t (row_at v y)) n a b at p z

module _ {start bound free : ℕ} (v : VertexRow start bound free) where
  pub row_small : (z : ℕ) → row_at v z < max_rows
  row_small z = join-small v.ns v.bs v.vertex z v.few_inputs

  pub bound-small : bound < max_rows
  bound-small = omega (arith, v.bound_is, join-small v.ns v.bs (vertex_count v.bs - 1) 0 v.few_inputs)

  -- one step on is the row of the next free row
  row_next : (row z : ℕ) → row ≡ row_at v z → stepped bound free row ≡ row_at v (z + 1)
  row_next row z e =
      ap (stepped bound free) e
      ∙ ap₂ (λ (b f : ℕ). stepped b f (row_at v z)) v.bound_is v.free_is
      ∙ next_row v.ns v.bs v.parted v.vertex z

  module _ {t : List ℕ} {n : ℕ} {a : List ℕ} {at : ℕ} where
    pub running_start : Running v t n a a at at start 0
    running_start = record { runs = v.start_is; put = digits_none _ n a at }

    pub running_step : {b e : List ℕ} {p q row next z : ℕ} {w : Bool} → Running v t n a b at p row z → z < n
        → Written 1 b e p q (digit w ∷ []) → w ≡ row_on t row → next ≡ stepped bound free row → Running v t n a e at q next (z + 1)
    running_step {row = row} {z = z} g l put value step =
        record {
          runs = step ∙ row_next row z g.runs;
          put = digits_put g.put l put (value ∙ ap (row_on t) g.runs);
        }

    pub running_all : {b : List ℕ} {p row z : ℕ} → Running v t n a b at p row z → n ≤ z
        → Written n a b at p (print_digits (values_upto (λ y. row_on t (row_at v y)) n))
    running_all g l = digits_all g.put l

-- ---- the entries of a code
module _ {vs fs : List ℕ} (l : Laid (length vs) (length fs) vs fs) where
  some_vertices : 0 < length vs
  some_vertices = omega (arith, l.vertex-count, pow_pos (length l.bs))

  pub some_free : 0 < length fs
  some_free = omega (arith, l.free-count, pow_pos (length (free l.ns l.bs)))

  last-vertex : length vs - 1 < length vs
  last-vertex = omega (arith, some_vertices)

  last_free : length fs - 1 < length fs
  last_free = omega (arith, some_free)

  -- the row of vertex x starts a running row number
  pub vertex-row : (x : ℕ) → x < length vs → VertexRow (get_or vs x 0) (get_or vs (length vs - 1) 0) (get_or fs (length fs - 1) 0)
  vertex-row x h =
      record {
        ns = l.ns;
        bs = l.bs;
        vertex = x;
        parted = l.parted;
        few_inputs = l.few_inputs;
        start_is = l.at_vertex x h;
        bound_is = l.at_vertex (length vs - 1) last-vertex ∙ ap (λ (k : ℕ). join_row l.ns l.bs (k - 1) 0) l.vertex-count;
        free_is = l.at_free (length fs - 1) last_free ∙ ap (λ (k : ℕ). join_row l.ns l.bs 0 (k - 1)) l.free-count;
      }

  -- the values along it are the entries of a code that vertex x produces
  pub column_entries : (t : List ℕ) (x : Vertex) (h : x.0 < length vs)
      → values_upto (λ z. row_on t (row_at (vertex-row x.0 h) z)) (length fs) ≡ values_upto (cell_on t vs fs (Some x)) (length fs)
  unfolding vertex-row
  column_entries t x h =
      values_same (λ z. row_on t (join_row l.ns l.bs x.0 z)) (cell_on t vs fs (Some x)) (length fs)
      (λ z g. ap (row_on t) (sym (join-sum l.ns l.bs x.0 z (l.at_vertex x.0 h) (l.at_free z g))) ∙ cell_there t vs fs x z h)

-- a code that no vertex produces has no running row number, and its entries are 0
pub zero_entries : (t vs fs : List ℕ) (x : Option Vertex) → NoVertex vs x
    → values_upto (λ z. false) (length fs) ≡ values_upto (cell_on t vs fs x) (length fs)
zero_entries t vs fs x h = values_same (λ z. false) (cell_on t vs fs x) (length fs) (λ z g. cell_past t vs fs x z h)
