-- What must hold of places in the text of a network sheet, so that the blocks can be written from the digits that stand there.
-- Assumes nothing.
use Rattle.std.specs.Prelude.{List, ℕ, ◌+◌, ◌^◌, ◌≤◌, ◌<◌, length, get_or}
use Rattle.limits.specs.Limits.{max_inputs, max_cells}
use Rattle.sheet.specs.Examine.{Design}
use Rattle.sheet.specs.declared.Sheet.{Sheet}
use Rattle.netsheet.specs.declared.NetworkSheet.{NetworkSheet}
use Rattle.network.specs.Network.{Network}
use Rattle.network.specs.Numbers.{numbers_of}
use Rattle.network.specs.Answers.{WithinLimits}
use Rattle.classes.specs.declared.Shape.{Shape}
use Rattle.comparing.specs.Drawing.{Drawing, places_of}

-- shared tables of b inputs each
pub record LutsReady (t : List ℕ) (b luts : ℕ) (lutat : List ℕ) : Type 0 where
  pub few : luts ≤ max_cells
  pub stand : (i : ℕ) → i < luts → get_or lutat i 0 + 2 ^ b ≤ length t

-- the table of an output that reads those of the shared tables that a mask has, then f free inputs
pub record NodeReady (t : List ℕ) (f luts mask place : ℕ) : Type 0 where
  pub narrow : length (numbers_of luts mask) + f ≤ max_inputs
  pub stands : place + 2 ^ (length (numbers_of luts mask) + f) ≤ length t

pub record NodesReady (t : List ℕ) (f luts : ℕ) (reads nodeat : List ℕ) (outputs : ℕ) : Type 0 where
  pub few : luts ≤ max_cells
  pub each : (o : ℕ) → o < outputs → NodeReady t f luts (get_or reads o 0) (get_or nodeat o 0)

-- d and w are drawn as the code holds them, and pass question 11
pub record Passed (t : List ℕ) (k : Sheet) (n : NetworkSheet) (d : Design) (w : Network) : Type 0 where
  pub shape : Shape
  pub drawing : Drawing d w t k (places_of n) shape
  pub within : WithinLimits d w

pub record SomePassed (t : List ℕ) (k : Sheet) (n : NetworkSheet) : Type 0 where
  pub design : Design
  pub said : Network
  pub passed : Passed t k n design said
