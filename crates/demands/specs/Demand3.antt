-- Demand 3, about Map, Check and every rival network (clauses 14.3 and 14.4): on a design with at most 16 global classes a
-- refusal by 8 means that Check says "differs" to each of them, and the other way round, and one by 9 that the buffer is too short; if
-- neither refuses, Map's network is "same" and none of those that are "same" has fewer cells. Assumes nothing.
use Rattle.std.specs.Prelude.{◌≡◌, List, ℕ, ◌+◌, ◌≤◌, ◌<◌, length, take}
use Rattle.limits.specs.Limits.{first_lut, max_network}
use Rattle.text.specs.Line.{lines, line_at}
use Rattle.sheet.specs.Examine.{Design, Examined}
use Rattle.network.specs.Network.{Network}
use Rattle.network.specs.Printer.{print_count, print_network}
use Rattle.network.specs.Check.{Checked, same, differs, check_of}
use Rattle.network.specs.Answers.{Drawn}
use Rattle.mapper.specs.Map.{First, MapAnswer, refused_by, mapped}

-- Check says "differs"
pub record Differs (a : Checked) : Type 0 where
  pub output : ℕ
  pub row : ℕ
  pub is : a ≡ differs output row

-- t is a network sheet that passes 10 and 11 beside d; u is the number of its lut lines, and the one that its count line gives
pub record Cells (d : Design) (t : List ℕ) (u : ℕ) : Type 0 where
  pub said : Network
  pub drawn : Drawn d t said
  pub lut_lines_lem : length said.luts ≡ u
  pub count_line : line_at (lines t) (first_lut + u + length d.outputs) ≡ print_count u

-- the buffer b is shorter than the network that Map would write, the first one
pub record TooShort (d : Design) (b : List ℕ) : Type 0 where
  pub network : Network
  pub is_first : First d network
  pub shorter : length b < length (print_network d network)

-- x is an examination's answer, the well_formed design d with at most 16 global classes; Map answers a on x and the buffer b,
-- and leaves the buffer b'. A rival's network is a network sheet t that passes 10 and 11 (Drawn d t w: it says the network w,
-- whose cells are its lut lines).
pub record Demand3 (x : Examined) (d : Design) (b : List ℕ) (a : MapAnswer) (b' : List ℕ) : Type 0 where
  -- Map refuses by 8 exactly when Check says "differs" to every rival's network
  pub refusal_is_true : a ≡ refused_by 8 0 → (t : List ℕ) (w : Network) → Drawn d t w → Differs (check_of x t)
  pub true_refusal : ((t : List ℕ) (w : Network) → Drawn d t w → Differs (check_of x t)) → a ≡ refused_by 8 0
  -- and by 9 exactly when the buffer is too short; one that is as long as a network sheet may be never is
  pub short_is_true : a ≡ refused_by 9 0 → TooShort d b
  pub true_short : TooShort d b → a ≡ refused_by 9 0
  pub long_enough : max_network ≤ length b → a ≡ refused_by 9 0 → ⊥
  -- otherwise, the buffer long enough, Map's network is what it wrote, the first bytes of the buffer; U is the number of its lut
  -- lines and the one on its count line (clause 8.10)
  pub otherwise_mapped : (a ≡ refused_by 8 0 → ⊥) → (TooShort d b → ⊥) → (u : ℕ) × (n : ℕ) × (a ≡ mapped u n)
  pub counted : (u n : ℕ) → a ≡ mapped u n → Cells d (take n b') u
  -- it is "same", and no rival network that is "same" has fewer cells
  pub same_as_design : (u n : ℕ) → a ≡ mapped u n → check_of x (take n b') ≡ same
  pub fewest_cells : (u n : ℕ) → a ≡ mapped u n → (t : List ℕ) (w : Network) → Drawn d t w → check_of x t ≡ same → u ≤ length w.luts
