-- A design and a network as the code holds them. Assumes nothing.
use Rattle.std.specs.Prelude.{◌≡◌, List, ℕ, length}
use Rattle.sheet.specs.Examine.{Design}
use Rattle.sheet.specs.Known.{Holds}
use Rattle.sheet.specs.declared.Sheet.{Sheet}
use Rattle.classes.specs.Proper.{Proper}
use Rattle.classes.specs.Answer.{ShapeIs}
use Rattle.classes.specs.declared.Shape.{Shape}
use Rattle.network.specs.Network.{Network}
use Rattle.netsheet.specs.Answer.{Held, frees}
use Rattle.netsheet.specs.declared.NetworkSheet.{NetworkSheet}

-- how many shared tables there are, and where all tables stand
pub record Places : Type 0 where
  pub luts : ℕ
  pub lutat : List ℕ
  pub reads : List ℕ
  pub nodeat : List ℕ

abbrev pub places_of : NetworkSheet → Places
places_of n = record { luts = n.luts; lutat = n.lutat; reads = n.reads; nodeat = n.nodeat }

-- the tables of w stand in t at these places, a node for each output of d
pub record Placed (d : Design) (w : Network) (t : List ℕ) (n : Places) : Type 0 where
  pub nodes-counted : length w.nodes ≡ length d.outputs
  pub held : Held t (length d.bound) (frees d) w n.luts n.lutat n.reads n.nodeat

-- k holds d, the tables of w stand in t at the places n, and sh is the shape of d's rows
pub record Drawing (d : Design) (w : Network) (t : List ℕ) (k : Sheet) (n : Places) (sh : Shape) : Type 0 where
  pub holds : Holds d k
  pub proper : Proper d
  pub placed : Placed d w t n
  pub shaped : ShapeIs d sh

pub record SomeDrawing (t : List ℕ) (k : Sheet) (n : Places) (sh : Shape) : Type 0 where
  pub design : Design
  pub said : Network
  pub drawing : Drawing design said t k n sh
