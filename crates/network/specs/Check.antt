-- Check (clause 11.4): what the examination of a design answers, then questions 10 and 11; then "same", or "differs" with an
-- output and a row, the lowest of which this is true. Assumes nothing.
use Rattle.std.specs.Prelude.{Bool, List, ℕ, zero, suc, ◌^◌, length}
use Rattle.std.proofs.Math.Option.{Option, some, none}
use Rattle.bits.specs.Logic.{pick, xorb}
use Rattle.sheet.specs.Examine.{Design, Examined, refused, valid, examine}
use Rattle.sheet.specs.Value.{output_on}
use Rattle.network.specs.Network.{Network}
use Rattle.network.specs.Examine.{Answer, bad_line, network, read_network, offending}
use Rattle.network.specs.Value.{network_on}

pub data Checked : Type 0 where
  refused_by : ℕ → ℕ → Checked
  same : Checked
  differs : ℕ → ℕ → Checked

-- the first of the k numbers from i on that passes a test
unfoldable pub first_of : (ℕ → Bool) → ℕ → ℕ → Option ℕ
first_of f zero i = none
first_of f (suc k) i =
    let later = first_of f k (suc i) in
    pick (f i) (some i) later

-- whether the network's output o differs from the design's on row r
unfoldable pub differs_on : Design → Network → ℕ → ℕ → Bool
differs_on d w o r = xorb (output_on d o r) (network_on d w o r)

-- the lowest row on which output o differs
unfoldable pub differing_row : Design → Network → ℕ → Option ℕ
differing_row d w o = first_of (differs_on d w o) (2 ^ length d.inputs) 0

abbrev pub at_row : ℕ → Option ℕ → Checked → Checked
at_row o (some r) later = differs o r
at_row o none later = later

-- the k outputs from o on
unfoldable pub compare_from : Design → Network → ℕ → ℕ → Checked
compare_from d w zero o = same
compare_from d w (suc k) o =
    let later = compare_from d w k (suc o) in
    at_row o (differing_row d w o) later

-- ---- the examination: the design's answer, then questions 10 and 11
-- a refusal, or the design and the network that stand beside each other
pub data Pair : Type 0 where
  refused_pair : ℕ → ℕ → Pair
  pair : Design → Network → Pair

-- question 11
abbrev pub judge : Design → Network → Option ℕ → Pair
judge d w (some l) = refused_pair 11 l
judge d w none = pair d w

-- question 10
abbrev pub beside : Design → Answer → Pair
beside d (bad_line l) = refused_pair 10 l
beside d (network w) = judge d w (offending d w)

unfoldable pub examine_pair : Examined → List ℕ → Pair
examine_pair (refused q l) t = refused_pair q l
examine_pair (valid d) t = beside d (read_network d t)

-- ---- Check
-- the comparison of all outputs
abbrev pub compared : Design → Network → Checked
compared d w = compare_from d w (length d.outputs) 0

abbrev pub compare_pair : Pair → Checked
compare_pair (refused_pair q l) = refused_by q l
compare_pair (pair d w) = compared d w

-- on what the examination of a design answers, and a network sheet
unfoldable pub check_of : Examined → List ℕ → Checked
check_of x t = compare_pair (examine_pair x t)

-- on a design sheet and a network sheet
unfoldable pub check : List ℕ → List ℕ → Checked
check s t = check_of (examine s) t
