-- Digits in a text, and the code of a vertex: the digits of some shared tables there. Assumes nothing.
use Rattle.std.specs.Prelude.{Bool, List, map, ℕ, ◌+◌, eqb, get_or}
use Rattle.rows.specs.Row.{row_of}
use Rattle.network.specs.Numbers.{numbers_of}

abbrev pub is_one : ℕ → Bool
is_one b = eqb b 0x31

-- whether the digit 1 stands at a place
abbrev pub one_at : List ℕ → ℕ → Bool
one_at t p = is_one (get_or t p 0)

-- the code of vertex x in those of u shared tables that a mask has; their digits stand in t at these places
unfoldable pub code_at : List ℕ → List ℕ → ℕ → ℕ → ℕ → ℕ
code_at t lutat mask x u = row_of (map (λ (i : ℕ). one_at t (get_or lutat i 0 + x)) (numbers_of u mask))
