-- Setting a network's digits in row order, vertex by vertex. The statements are over every function f from rows to values:
-- where the digits that are read are values of f, those that are set are its values on their rows. Assumes nothing.
use Rattle.std.specs.Prelude.{◌≡◌, Bool, List, ℕ, ◌+◌, ◌*◌, ◌≤◌, ◌<◌, length, get_or}
use Rattle.limits.specs.Limits.{max_cells, max_vertices, max_free_rows, max_rows}
use Rattle.classes.specs.declared.Shape.{Shape}
use Rattle.comparing.specs.Code.{one_at, code_at}

-- the places that are read and the rows that are set for one vertex
pub record Room (t : List ℕ) (at row : ℕ) (free : List ℕ) (frees : ℕ) : Type 0 where
  pub few : frees ≤ max_free_rows
  pub readable : at + frees ≤ length t
  pub rows : (y : ℕ) → y < frees → row + get_or free y 0 < max_rows

-- f's values stay, and stand on the rows of n free rows
pub record PutFor (f : ℕ → Bool) (row : ℕ) (free : List ℕ) (n : ℕ) (before after : List ℕ) : Type 0 where
  pub kept : (q : ℕ) → one_at before q ≡ f q → one_at after q ≡ f q
  pub put : (y : ℕ) → y < n → one_at after (row + get_or free y 0) ≡ f (row + get_or free y 0)

pub record Put (t : List ℕ) (at row : ℕ) (free : List ℕ) (n : ℕ) (before after : List ℕ) : Type 0 where
  pub size : length after ≡ max_rows
  pub right : (f : ℕ → Bool)
      → ((y : ℕ) → y < n → one_at t (at + y) ≡ f (row + get_or free y 0))
      → PutFor f row free n before after

-- the row of vertex x and free row y
abbrev pub row_at : Shape → ℕ → ℕ → ℕ
row_at sh x y = get_or sh.vertex x 0 + get_or sh.free y 0

-- the place of an output's digit at vertex x and free row y
abbrev pub place_at : List ℕ → List ℕ → ℕ → ℕ → ℕ → Shape → ℕ → ℕ → ℕ
place_at t lutat mask luts at sh x y = at + code_at t lutat mask x luts * sh.frees + y

-- the places that are read and the rows that are set for all vertices
pub record Ready (t lutat : List ℕ) (mask luts at : ℕ) (sh : Shape) : Type 0 where
  pub few_luts : luts ≤ max_cells
  pub few_vertices : sh.vertices ≤ max_vertices
  pub few_frees : sh.frees ≤ max_free_rows
  pub luts_readable : (i x : ℕ) → i < luts → x < sh.vertices → get_or lutat i 0 + x < length t
  pub readable : (x : ℕ) → x < sh.vertices → at + code_at t lutat mask x luts * sh.frees + sh.frees ≤ length t
  pub rows : (x y : ℕ) → x < sh.vertices → y < sh.frees → row_at sh x y < max_rows

-- the digits of the first n vertices are set
pub record Filled (t lutat : List ℕ) (mask luts at : ℕ) (sh : Shape) (n : ℕ) (list : List ℕ) : Type 0 where
  pub size : length list ≡ max_rows
  pub right : (f : ℕ → Bool)
      → ((x y : ℕ) → x < n → y < sh.frees → one_at t (place_at t lutat mask luts at sh x y) ≡ f (row_at sh x y))
      → (x y : ℕ)
      → x < n
      → y < sh.frees
      → one_at list (row_at sh x y) ≡ f (row_at sh x y)
