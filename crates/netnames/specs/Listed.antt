-- What the code lists, by the definitions: names of one digit, and the first vertex of each code. Assumes nothing.
use Rattle.std.specs.Prelude.{◌≡◌, List, ℕ, ◌<◌, eqb, length, get_or, Option, Some, None}
use Rattle.std.proofs.Math.Option.{some, none}
use Rattle.std.proofs.Math.Option as math
use Rattle.limits.specs.Limits.{max_codes}
use Rattle.limits.specs.declared.Vertex.{Vertex}
use Rattle.network.specs.Check.{first_of}

-- the bytes `_` and `0`; one digit writes the numbers below 10
abbrev pub underscore : ℕ
underscore = 0x5F

abbrev pub zero_byte : ℕ
zero_byte = 0x30

abbrev pub one_digit : ℕ
one_digit = 10

abbrev pub vertex_at : List (Option Vertex) → ℕ → Option Vertex
vertex_at l i = get_or l i None

-- the vertex of a number that was found, and none where none was
abbrev pub FirstIs : math.Option ℕ → Option Vertex → Type 0
FirstIs (some x) v = v ≡ Some (record { 0 = x })
FirstIs none v = v ≡ None

-- an array has at each code the first of the n vertices from i on that produces it
pub record Firsts (code : ℕ → ℕ) (n i : ℕ) (l : List (Option Vertex)) : Type 0 where
  pub size : length l ≡ max_codes
  pub each : (c : ℕ) → c < max_codes → FirstIs (first_of (λ x. eqb (code x) c) n i) (vertex_at l c)
