-- What a design asks of the search, as the code holds it: plain numbers that say the design's classes, widths and limit. Assumes
-- nothing.
use Rattle.std.specs.Prelude.{◌≡◌, List, ℕ, ◌≤◌, ◌<◌, length, Option, Some, None}
use Rattle.limits.specs.Limits.{max_classes, max_cells, max_vertices, search_outputs}
use Rattle.sheet.specs.Examine.{Design, Examined, valid}
use Rattle.sheet.specs.Known.{Holds}
use Rattle.sheet.specs.WellFormed.{WellFormed}
use Rattle.sheet.specs.declared.Sheet.{Sheet}
use Rattle.classes.specs.Columns.{vertex_count}
use Rattle.classes.specs.Classes.{local_class, global_count}
use Rattle.classes.specs.Width.{budget}
use Rattle.classes.specs.Proper.{Proper}
use Rattle.classes.specs.Answer.{ShapeIs}
use Rattle.problem.specs.Problem.{label_at, item}
use Rattle.relation.specs.Relation as relation
use Rattle.mapper.specs.declared.Posed.{Posed}

-- a sheet that holds some proper design
pub record Designed (k : Sheet) : Type 0 where
  pub design : Design
  pub holds : Holds design k
  pub proper : Proper design

-- the problem that was given to the search is the design's
pub record Given (d : Design) (cl budgets : List ℕ) (v m limit : ℕ) : Type 0 where
  pub vertices : v ≡ vertex_count d.bound
  pub outputs : m ≡ length d.outputs
  pub within : limit ≡ d.limit
  pub labels : (o x : ℕ) → o < length d.outputs → x < vertex_count d.bound → label_at cl o x ≡ local_class d d.bound o x
  pub budgeted : (o : ℕ) → o < length d.outputs → item budgets o ≡ budget d d.bound o

-- what the search asks of its caller
pub record Ready (cl : List ℕ) (v m limit : ℕ) : Type 0 where
  pub classes : relation.Classes cl
  pub few_vertices : v ≤ max_vertices
  pub few_outputs : m ≤ search_outputs
  pub few_cells : limit ≤ max_cells

-- the design d has few enough global classes, and r is what it asks, which the sheet k holds
pub record PosedAs (d : Design) (k : Sheet) (r : Posed) : Type 0 where
  pub few : global_count d d.bound ≤ max_classes
  pub shaped : ShapeIs d r.shape
  pub given : Given d r.labels r.budgets r.shape.vertices k.outputs k.limit
  pub ready : Ready r.labels r.shape.vertices k.outputs k.limit

-- what the code makes of a sheet k that holds the design d
abbrev pub Poses : Design → Sheet → Option Posed → Type 0
Poses d k (Some r) = PosedAs d k r
Poses d k None = max_classes < global_count d d.bound

-- x is the answer of an examination, the sheet k holds its design, and r is what this asks
pub record Asked (x : Examined) (k : Sheet) (r : Posed) : Type 0 where
  pub design : Design
  pub answered : valid design ≡ x
  pub holds : Holds design k
  pub formed : WellFormed design
  pub proper : Proper design
  pub poses : PosedAs design k r
