-- Groups of cells that every output reads whole or not at all. Exchanging the values of such a group changes no answer, so the
-- search for codes tries one value of those not yet in use. Assumes nothing.
use Rattle.std.specs.Prelude.{◌≡◌, true, List, ℕ, ◌<◌, length}
use Rattle.limits.specs.Limits.{search_outputs}
use Rattle.bits.specs.Digit.{on}
use Rattle.problem.specs.Problem.{item}
use Rattle.coding.specs.Exchange.{Uniform}
use Rattle.coding.specs.Values.{Groups}

-- groups of cells of sh, each read whole or not at all by each of j outputs, their cells in done
pub record Grouping (rows gs : List ℕ) (sh j done : ℕ) : Type 0 where
  pub long : length gs ≡ search_outputs
  pub groups : Groups gs sh
  pub uniform : (k o : ℕ) → k < 3 → o < j → Uniform (item rows o) (item gs k)
  pub inside : (k i : ℕ) → k < 3 → on (item gs k) i ≡ true → on done i ≡ true
