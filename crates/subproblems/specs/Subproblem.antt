-- A subproblem about some of the outputs. Each of them has a row: the open cells that it reads are its lowest digits, as many as
-- there may be cells, and the given tables that it reads are the digits after them. The subproblem is whether codes of the open
-- cells tell apart, for each of these outputs, what its given tables leave of its conflict, cell 0 having its known digits.
-- Assumes nothing.
use Rattle.std.specs.Prelude.{◌≡◌, Bool, true, false, List, ℕ, ◌/◌, ◌%◌, ◌<◌}
use Rattle.std.specs.Int.Bits.{bit_and}
use Rattle.limits.specs.Limits.{search_outputs, max_codes}
use Rattle.bits.specs.Digit.{on}
use Rattle.problem.specs.Problem.{item, Fixed}
use Rattle.relation.specs.Relation.{Left}

-- the open cells and the given tables of a row
abbrev pub open_of : ℕ → ℕ
open_of row = row % max_codes

abbrev pub given_of : ℕ → ℕ
given_of row = row / max_codes

-- codes f answer the subproblem about the outputs of the set asked
pub record Answers (cl given : List ℕ) (kn val v asked : ℕ) (rows f : ℕ → ℕ) : Type 0 where
  pub tells : (o x y : ℕ) → o < search_outputs → on asked o ≡ true → x < v → y < v → Left cl given (given_of (rows o)) o x y
      → bit_and (f x) (open_of (rows o)) ≡ bit_and (f y) (open_of (rows o)) → ⊥
  pub fixed : Fixed kn val v f

-- no codes with 0 at vertex 0 answer it
pub record Barred (cl given : List ℕ) (kn val v asked : ℕ) (rows : ℕ → ℕ) : Type 0 where
  pub none : (f : ℕ → ℕ) → f 0 ≡ 0 → Answers cl given kn val v asked rows f → ⊥

-- the answer to a subproblem: codes, or there are none
abbrev pub Settled : List ℕ → List ℕ → ℕ → ℕ → ℕ → ℕ → (ℕ → ℕ) → Bool → List ℕ → Type 0
Settled cl given kn val v asked rows true codes = Answers cl given kn val v asked rows (item codes)
Settled cl given kn val v asked rows false codes = Barred cl given kn val v asked rows

-- rows' ask the same as rows of the outputs of the set asked, with the open cells in another order: where known says that
-- cell 0 may have known digits, it keeps its place
pub record Same (asked : ℕ) (known : Bool) (rows rows' : List ℕ) : Type 0 where
  pub barred : (cl given : List ℕ) (kn val v : ℕ) → (known ≡ false → kn ≡ 0) → Barred cl given kn val v asked (item rows') → Barred cl given kn val v asked (item rows)
