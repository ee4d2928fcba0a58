-- Demand 1, about Table, Map and Check together (clause 14.1): when each refuses, by which number and on which line, and that
-- the buffer is then as it was. For each operation: its refusals, each with its number, its line and the question that is answered "no" after all
-- questions before it were answered "yes"; the operation refuses by just these. The demand is said for what an examination
-- answers, and then for a sheet, whose examination is questions 1 to 5. Assumes nothing.
use Rattle.std.specs.Prelude.{◌≡◌, List, ◌⊎◌, ℕ, ◌≤◌, ◌<◌, length}
use Rattle.std.proofs.Math.Option.{some}
use Rattle.limits.specs.Limits.{max_classes}
use Rattle.sheet.specs.Examine.{Design, Examined, refused, valid, examine}
use Rattle.design.specs.Tabulate as tables
use Rattle.design.specs.Tabulate.{tabulate, table_of, row_count}
use Rattle.classes.specs.Classes.{global_count}
use Rattle.network.specs.Network.{Network}
use Rattle.network.specs.Printer.{print_network}
use Rattle.network.specs.Examine.{bad_line, network, read_network, offending}
use Rattle.network.specs.Check as checks
use Rattle.network.specs.Check.{check, check_of}
use Rattle.network.specs.NetworkFor.{NetworkFor}
use Rattle.network.specs.Answers.{WithinLimits, Computes}
use Rattle.mapper.specs.Map.{First, MapAnswer, refused_by}

-- ======== the refusals
-- x is what the examination answered: its refusal is that of Table, Map and Check alike, with its number and line (by_sheet).

-- Table on output o and a buffer of n bytes
pub data TableRefuses (x : Examined) (o n : ℕ) : ℕ → ℕ → Type 0 where
  by_sheet : (q l : ℕ) → x ≡ refused q l → TableRefuses x o n q l
  by_output : (d : Design) → x ≡ valid d → length d.outputs ≤ o → TableRefuses x o n 6 0
  by_buffer : (d : Design) → x ≡ valid d → o < length d.outputs → n < row_count d → TableRefuses x o n 9 0

-- Map on a buffer of n bytes
pub data MapRefuses (x : Examined) (n : ℕ) : ℕ → ℕ → Type 0 where
  by_sheet : (q l : ℕ) → x ≡ refused q l → MapRefuses x n q l
  by_classes : (d : Design) → x ≡ valid d → max_classes < global_count d d.bound → MapRefuses x n 7 0
  by_cells : (d : Design)
      → x ≡ valid d
      → global_count d d.bound ≤ max_classes
      → ((w : Network) → NetworkFor d w → WithinLimits d w → Computes d w → ⊥)
      → MapRefuses x n 8 0
  by_buffer : (d : Design) (w : Network)
      → x ≡ valid d
      → global_count d d.bound ≤ max_classes
      → First d w
      → n < length (print_network d w)
      → MapRefuses x n 9 0

-- Check on the network sheet t
pub data CheckRefuses (x : Examined) (t : List ℕ) : ℕ → ℕ → Type 0 where
  by_sheet : (q l : ℕ) → x ≡ refused q l → CheckRefuses x t q l
  by_line : (d : Design) (l : ℕ) → x ≡ valid d → read_network d t ≡ bad_line l → CheckRefuses x t 10 l
  by_limits : (d : Design) (w : Network) (l : ℕ)
      → x ≡ valid d
      → read_network d t ≡ network w
      → offending d w ≡ some l
      → CheckRefuses x t 11 l

-- ======== the demand
-- t is any text, o any number, b any buffer; Map answers a on x and b, and leaves the buffer b'
pub record Demand1 (x : Examined) (t : List ℕ) (o : ℕ) (b : List ℕ) (a : MapAnswer) (b' : List ℕ) : Type 0 where
  pub table_refuses : (q l : ℕ) → TableRefuses x o (length b) q l → (table_of x o b).answer ≡ tables.refused_by q l
  pub table_because : (q l : ℕ) → (table_of x o b).answer ≡ tables.refused_by q l → TableRefuses x o (length b) q l
  pub table-untouched : (q l : ℕ) → (table_of x o b).answer ≡ tables.refused_by q l → (table_of x o b).buffer ≡ b
  pub map_refuses : (q l : ℕ) → MapRefuses x (length b) q l → a ≡ refused_by q l
  pub map_because : (q l : ℕ) → a ≡ refused_by q l → MapRefuses x (length b) q l
  pub map-untouched : (q l : ℕ) → a ≡ refused_by q l → b' ≡ b
  pub check_refuses : (q l : ℕ) → CheckRefuses x t q l → check_of x t ≡ checks.refused_by q l
  pub check_because : (q l : ℕ) → check_of x t ≡ checks.refused_by q l → CheckRefuses x t q l

-- ======== on a sheet
-- the numbers by which each operation may refuse (clause 11.1)
abbrev pub TableNumber : ℕ → Type 0
TableNumber q = ((1 ≤ q) × (q ≤ 6)) ⊎ (q ≡ 9)

abbrev pub MapNumber : ℕ → Type 0
MapNumber q = ((1 ≤ q) × (q ≤ 5)) ⊎ ((7 ≤ q) × (q ≤ 9))

abbrev pub CheckNumber : ℕ → Type 0
CheckNumber q = ((1 ≤ q) × (q ≤ 5)) ⊎ ((10 ≤ q) × (q ≤ 11))

-- s and t are any texts; `tabulate s` and `check s` are `table_of` and `check_of` of `examine s`
pub record SheetDemand1 (s t : List ℕ) (o : ℕ) (b : List ℕ) (a : MapAnswer) (b' : List ℕ) : Type 0 where
  pub refusals : Demand1 (examine s) t o b a b'
  pub table-number : (q l : ℕ) → (tabulate s o b).answer ≡ tables.refused_by q l → TableNumber q
  pub map-number : (q l : ℕ) → a ≡ refused_by q l → MapNumber q
  pub check-number : (q l : ℕ) → check s t ≡ checks.refused_by q l → CheckNumber q
