-- The six kinds of line side by side: what a line of each kind says, which of that can be written, how it is written and how
-- it is read. Assumes nothing.
use Rattle.std.specs.Prelude.{◌≡◌, true, List, ℕ, ◌<◌}
use Rattle.std.proofs.Math.Option.{Option, some, none}
use Rattle.bits.specs.Logic.{pick}
use Rattle.text.specs.Bytes.{same}
use Rattle.names.specs.Name.{Name, is_name}
use Rattle.names.specs.Names.{all_names}
use Rattle.formula.specs.Printer.{spelled}
use Rattle.sheet.specs.Lines.{Output, design_line, end_line, print_in, print_bound, print_limit, print_out, read_in, read_bound, read_limit, read_out}

pub data Kind : Type 0 where
  design_kind in_kind bound_kind limit_kind out_kind end_kind : Kind

-- `(design 1)` and `(end)` say nothing besides
abbrev pub Said : Kind → Type 0
Said design_kind = Unit {0}
Said in_kind = List Name
Said bound_kind = List Name
Said limit_kind = ℕ
Said out_kind = Output
Said end_kind = Unit {0}

-- an output whose name is one, and whose formula's names are
pub record OutputWritable (o : Output) : Type 0 where
  pub named : is_name o.name ≡ true
  pub formed : spelled o.formula ≡ true

-- names that are names, and a number of at most three digits: the ranges of question 3 aside
abbrev pub Writable : (k : Kind) → Said k → Type 0
Writable design_kind a = Unit {0}
Writable in_kind ns = all_names ns ≡ true
Writable bound_kind ns = all_names ns ≡ true
Writable limit_kind n = n < 1000
Writable out_kind o = OutputWritable o
Writable end_kind a = Unit {0}

abbrev pub print_line : (k : Kind) → Said k → List ℕ
print_line design_kind a = design_line
print_line in_kind ns = print_in ns
print_line bound_kind ns = print_bound ns
print_line limit_kind n = print_limit n
print_line out_kind o = print_out o
print_line end_kind a = end_line

-- a line that is the text w
abbrev pub read_fixed : List ℕ → List ℕ → Option (Unit {0})
read_fixed w l = pick (same l w) (some tt) none

abbrev pub read_line : (k : Kind) → List ℕ → Option (Said k)
read_line design_kind l = read_fixed design_line l
read_line in_kind l = read_in l
read_line bound_kind l = read_bound l
read_line limit_kind l = read_limit l
read_line out_kind l = read_out l
read_line end_kind l = read_fixed end_line l
