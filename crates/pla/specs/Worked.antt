-- A PLA panel of sheet A: what Table and Check answer on it, and that every outcome of Map is the network of sheet A, 96 bytes. To
-- be held beside clause 16.1. Assumes nothing.
use Rattle.std.specs.Prelude.{◌≡◌, List, [], ℕ, ◌≤◌, ◌<◌, length}
use Rattle.std.proofs.lemmas.List.Edits.{sets}
use Rattle.text.specs.Bytes.{bytes}
use Rattle.sheet.specs.Examine as sheets
use Rattle.sheet.specs.Examine.{Examined}
use Rattle.design.specs.Tabulate as tables
use Rattle.design.specs.Tabulate.{table_of, untouched}
use Rattle.network.specs.Check as checks
use Rattle.network.specs.Check.{check_of}
use Rattle.mapper.specs.Map.{MapAnswer, refused_by, mapped, OutcomeOf}
use Rattle.demands.specs.Worked.{HasOutcome, sheet_a, network_a, network_j, complement_j}
use Rattle.panel.specs.Worked.{pla_a, board_a}
use Rattle.panel.specs.Examine.{examine}
use Rattle.pla.specs.SameTables.{SameAnswers}

-- what the pair's examination answers
abbrev pair_a : Examined
pair_a = examine pla_a board_a

pub record WorkedPla : Type 0 where
  -- Table of f and of g
  pub table_f : table_of pair_a 0 (bytes "................") ≡ record { answer = tables.written 16; buffer = bytes "0110100110010110" }
  pub table_g : table_of pair_a 1 (bytes "................") ≡ record { answer = tables.written 16; buffer = bytes "0001010001000001" }
  pub no_third_output : (b : List ℕ) → table_of pair_a 2 b ≡ untouched 6 0 b
  -- Check: the network of sheet A, with g's digits 0011, and with the complement of its table
  pub check_same : check_of pair_a network_a ≡ checks.same
  pub check_differs : check_of pair_a network_j ≡ checks.differs 1 2
  pub check_complement : check_of pair_a complement_j ≡ checks.same
  -- Map: "exactly 96 bytes"
  pub network-bytes : length network_a ≡ 96
  pub map_has_outcome : (b : List ℕ) → HasOutcome pair_a b
  pub map_answers : (b : List ℕ) (a : MapAnswer) (b' : List ℕ) → 96 ≤ length b → OutcomeOf pair_a b a b' → a ≡ mapped 1 96
  pub map_writes : (b : List ℕ) (a : MapAnswer) (b' : List ℕ) → 96 ≤ length b → OutcomeOf pair_a b a b' → b' ≡ sets b 0 network_a
  pub map_short : (b : List ℕ) (a : MapAnswer) (b' : List ℕ) → length b < 96 → OutcomeOf pair_a b a b' → a ≡ refused_by 9 0
  pub map-untouched : (b : List ℕ) (a : MapAnswer) (b' : List ℕ) → length b < 96 → OutcomeOf pair_a b a b' → b' ≡ b
  -- in all it is treated as sheet A is
  pub as_sheet : SameAnswers pair_a (sheets.examine sheet_a)
  -- a pair that the examination refuses
  pub refused-table : (o : ℕ) (b : List ℕ) → table_of (examine [] board_a) o b ≡ untouched 12 0 b
  pub refused_has_outcome : (b : List ℕ) → HasOutcome (examine [] board_a) b
  pub refused-map : (b : List ℕ) (a : MapAnswer) (b' : List ℕ) → OutcomeOf (examine [] board_a) b a b' → a ≡ refused_by 12 0
  pub refused-check : (t : List ℕ) → check_of (examine [] board_a) t ≡ checks.refused_by 12 0
