-- The lines of a network sheet by what the code has in hand: a table for each output, and the rows of a design by their
-- parts. Assumes nothing.
use Rattle.std.specs.Prelude.{◌≡◌, Bool, false, List, [], ◌∷◌, ◌++◌, ℕ, ◌+◌, ◌*◌, ◌/◌, ◌%◌, ◌^◌, ◌≤◌, ◌<◌, eqb, ltb, length, get_or, Option, Some, None}
use Rattle.std.proofs.Math.Option.{some, none}
use Rattle.std.proofs.Math.Option as math
use Rattle.limits.specs.Limits.{max_inputs, max_vertices, max_free_rows}
use Rattle.bits.specs.Logic.{pick}
use Rattle.text.specs.Bytes.{bytes, newline}
use Rattle.names.specs.Name.{Name}
use Rattle.sheet.specs.Lines.{end_line}
use Rattle.classes.specs.Columns.{join_row, vertex_count, free_count}
use Rattle.bits.specs.Values.{values_upto}
use Rattle.classes.specs.Proper.{Parted}
use Rattle.classes.specs.Seen.{seen}
use Rattle.classes.specs.declared.Shape.{Shape}
use Rattle.limits.specs.declared.Vertex.{Vertex}
use Rattle.network.specs.Network.{Node}
use Rattle.network.specs.Printer.{print_count}
use Rattle.network.specs.Check.{first_of}
use Rattle.serving.specs.Build.{code_in}
use Rattle.emit.specs.Upto.{texts_upto}
use Rattle.netnames.specs.Listed.{zero_byte, vertex_at}

-- the first line, of an edition of one digit
unfoldable pub head_line : ℕ → List ℕ
head_line edition = bytes "(network " ++ (((zero_byte + edition) ∷ []) ++ bytes ")\n")

-- the lines that f says, each with its end, and the first n of them
abbrev pub ended : (ℕ → List ℕ) → ℕ → List ℕ
ended f i = f i ++ (newline ∷ [])

abbrev pub lines_upto : (ℕ → List ℕ) → ℕ → List ℕ
lines_upto f n = texts_upto (ended f) n

-- the count line and the last line
unfoldable pub last_lines : ℕ → List ℕ
last_lines u = print_count u ++ (newline ∷ (end_line ++ (newline ∷ [])))

-- the value at a vertex that was found, and 0 where none was
abbrev pub chosen : (ℕ → Bool) → math.Option ℕ → Bool
chosen f (some x) = f x
chosen f none = false

-- a composition entry: the value of the table t at the first vertex that produces the code
unfoldable pub entry_by : List ℕ → List ℕ → List ℕ → (ℕ → ℕ) → List ℕ → ℕ → Bool
entry_by t vertex free codes is j =
    chosen (λ x. seen t vertex free x (j % length free))
    (first_of (λ x. eqb (code_in is (codes x)) (j / length free)) (length vertex) 0)

unfoldable pub node_by : List ℕ → List ℕ → List ℕ → (ℕ → ℕ) → List ℕ → Node
node_by t vertex free codes is =
    record { reads = is; digits = values_upto (entry_by t vertex free codes is) (2 ^ length is * length free) }

-- the same entry, where an array has the first vertex of each code
unfoldable pub cell_on : List ℕ → List ℕ → List ℕ → Option Vertex → ℕ → Bool
cell_on t vertex free (Some x) z = pick (ltb x.0 (length vertex)) (seen t vertex free x.0 z) false
cell_on t vertex free None z = false

unfoldable pub cell_by : List ℕ → List ℕ → List ℕ → List (Option Vertex) → ℕ → Bool
cell_by t vertex free firsts j = cell_on t vertex free (vertex_at firsts (j / length free)) (j % length free)

-- arrays have the rows of the vertices and of the free rows of some inputs ns, of which bs are bound
pub record Laid (vertices frees : ℕ) (vertex free : List ℕ) : Type 0 where
  pub ns : List Name
  pub bs : List Name
  pub parted : Parted ns bs
  pub few_inputs : length ns ≤ max_inputs
  pub vertex-count : vertices ≡ vertex_count bs
  pub free-count : frees ≡ free_count ns bs
  pub at_vertex : (x : ℕ) → x < vertices → get_or vertex x 0 ≡ join_row ns bs x 0
  pub at_free : (y : ℕ) → y < frees → get_or free y 0 ≡ join_row ns bs 0 y

-- as many vertices and free rows as there may be, with their rows
pub record Bounded (vertex free : List ℕ) : Type 0 where
  pub few_vertices : length vertex ≤ max_vertices
  pub few_free : length free ≤ max_free_rows
  pub laid : Laid (length vertex) (length free) vertex free

-- the same of a shape
pub record Fitting (sh : Shape) : Type 0 where
  pub few_vertices : sh.vertices ≤ max_vertices
  pub few_free : sh.frees ≤ max_free_rows
  pub laid : Laid sh.vertices sh.frees sh.vertex sh.free
