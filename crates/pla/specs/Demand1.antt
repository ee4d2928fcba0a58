-- Demand 1 on a PLA panel (clause 14.1): the refusals are those of what its examination answers, which uses 12 to 14 and 1 to 5.
-- Assumes nothing.
use Rattle.std.specs.Prelude.{◌≡◌, List, ◌⊎◌, ℕ, ◌≤◌}
use Rattle.design.specs.Tabulate as tables
use Rattle.design.specs.Tabulate.{table_of}
use Rattle.network.specs.Check as checks
use Rattle.network.specs.Check.{check_of}
use Rattle.mapper.specs.Map.{MapAnswer, refused_by}
use Rattle.demands.specs.Demand1.{Demand1, TableNumber, MapNumber, CheckNumber}
use Rattle.panel.specs.Examine.{examine}

-- the numbers of the PLA text
abbrev pub TextNumber : ℕ → Type 0
TextNumber q = (12 ≤ q) × (q ≤ 14)

-- p, s and t are any texts, o any number, b any buffer; Map answers a on the panel and b, and leaves the buffer b'
pub record PanelDemand1 (p s t : List ℕ) (o : ℕ) (b : List ℕ) (a : MapAnswer) (b' : List ℕ) : Type 0 where
  pub refusals : Demand1 (examine p s) t o b a b'
  pub table-number : (q l : ℕ) → (table_of (examine p s) o b).answer ≡ tables.refused_by q l → TextNumber q ⊎ TableNumber q
  pub map-number : (q l : ℕ) → a ≡ refused_by q l → TextNumber q ⊎ MapNumber q
  pub check-number : (q l : ℕ) → check_of (examine p s) t ≡ checks.refused_by q l → TextNumber q ⊎ CheckNumber q
