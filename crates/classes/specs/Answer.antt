-- What the code knows of a design's columns and classes, by the definitions. Assumes nothing.
use Rattle.std.specs.Prelude.{◌≡◌, List, [], ℕ, ◌+◌, ◌≤◌, ◌<◌, length, get_or}
use Rattle.limits.specs.Limits.{max_inputs, max_bound, max_outputs, max_rows, max_vertices, max_free_rows}
use Rattle.sheet.specs.Examine.{Design}
use Rattle.sheet.specs.Known.{Holds}
use Rattle.sheet.specs.declared.Sheet.{Sheet}
use Rattle.classes.specs.Columns.{join_row, free_count, vertex_count}
use Rattle.classes.specs.Classes.{local_count, local_class, global_count, global_class}
use Rattle.classes.specs.Width.{width}
use Rattle.classes.specs.Proper.{Proper}
use Rattle.classes.specs.declared.Shape.{Shape}
use Rattle.classes.specs.declared.LocalClass.{LocalClass}
use Rattle.classes.specs.declared.GlobalClass.{GlobalClass}
use Rattle.classes.specs.declared.Locals.{Locals}
use Rattle.classes.specs.declared.Globals.{Globals}
use Rattle.classes.specs.declared.Classes.{Classes}

-- how many inputs, bound inputs and outputs there may be; a proper design's sheet has such counts
pub record Counts (k : Sheet) : Type 0 where
  pub few_inputs : k.inputs ≤ max_inputs
  pub some-bound : 1 ≤ k.bounds
  pub few_bound : k.bounds ≤ max_bound
  pub bound_inputs : k.bounds ≤ k.inputs
  pub few_outputs : k.outputs ≤ max_outputs

-- the shape of a design's rows: those of each vertex and of each free row
pub record ShapeIs (d : Design) (sh : Shape) : Type 0 where
  pub vertices : sh.vertices ≡ vertex_count d.bound
  pub few_vertices : sh.vertices ≤ max_vertices
  pub free_rows : sh.frees ≡ free_count d.inputs d.bound
  pub few_free : sh.frees ≤ max_free_rows
  pub at_vertex : (x : ℕ) → x < sh.vertices → get_or sh.vertex x 0 ≡ join_row d.inputs d.bound x 0
  pub at_free : (y : ℕ) → y < sh.frees → get_or sh.free y 0 ≡ join_row d.inputs d.bound 0 y

-- the shape that a sheet with such counts gets, whatever it holds
pub record Shaped (k : Sheet) (sh : Shape) : Type 0 where
  pub vertex-size : length sh.vertex ≡ max_vertices
  pub free-size : length sh.free ≡ max_free_rows
  pub few_vertices : sh.vertices ≤ max_vertices
  pub few_free : sh.frees ≤ max_free_rows
  pub inside : (x y : ℕ) → x < sh.vertices → y < sh.frees → get_or sh.vertex x 0 + get_or sh.free y 0 < max_rows
  pub right : (d : Design) → Holds d k → Proper d → ShapeIs d sh

abbrev pub local_at : List LocalClass → ℕ → ℕ
local_at l x = (get_or l x (record { 0 = 0 })).0

abbrev pub global_at : List GlobalClass → ℕ → ℕ
global_at l x = (get_or l x (record { 0 = 0 })).0

pub record LocalsAre (d : Design) (o : ℕ) (l : Locals) : Type 0 where
  pub counted : l.count ≡ local_count d d.bound o
  pub few : l.count ≤ max_vertices
  pub classes : (x : ℕ) → x < vertex_count d.bound → local_at l.classes x ≡ local_class d d.bound o x

pub record WidthIs (d : Design) (o w : ℕ) : Type 0 where
  pub is : w ≡ width d d.bound o
  pub few : w ≤ max_bound

pub record GlobalsAre (d : Design) (g : Globals) : Type 0 where
  pub counted : g.count ≡ global_count d d.bound
  pub few : g.count ≤ max_vertices
  pub classes : (x : ℕ) → x < vertex_count d.bound → global_at g.classes x ≡ global_class d d.bound x

-- the local classes of output o
abbrev pub locals_at : List Locals → ℕ → Locals
locals_at l o = get_or l o (record { count = 0; classes = [] })

-- everything about the columns of a design
pub record ClassesAre (d : Design) (r : Classes) : Type 0 where
  pub shaped : ShapeIs d r.shape
  pub locals : (o : ℕ) → o < length d.outputs → LocalsAre d o (locals_at r.locals o)
  pub widths : (o : ℕ) → o < length d.outputs → WidthIs d o (get_or r.widths o 0)
  pub globals : GlobalsAre d r.globals
