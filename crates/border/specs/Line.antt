-- A line of input: its length, and its labels read one after another. Assumes nothing.
use Rattle.std.specs.Prelude.{◌≡◌, ℕ, ◌+◌, ◌*◌, ◌<◌, true, false, ◌⊎◌, List, length, slice_index}
use Rattle.limits.specs.Limits.{search_outputs, max_vertices, label_count}
use Rattle.bits.specs.Digit.{on}

-- 11 bytes for the name, three numbers and what parts them; the budgets; the labels; the number of given tables; these; the
-- known digits; the line feed
abbrev pub line_length : ℕ
line_length = 11 + search_outputs + 1 + label_count + 1 + 2 + 1 + 2 * max_vertices + 1 + max_vertices + 1

-- nothing is known of the first open cell, or it is known to be 0 at vertex 0
abbrev pub ZeroFirst : ℕ → ℕ → Type 0
ZeroFirst kn val = (kn ≡ 0) ⊎ ((on kn 0 ≡ true) × (on val 0 ≡ false))

-- the first i labels are below the number of vertices
pub record Low (i : ℕ) (cl : List ℕ) : Type 0 where
  pub long : length cl ≡ label_count
  pub below : (k : ℕ) → k < i → slice_index cl k < max_vertices
