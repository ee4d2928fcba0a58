-- What the code holds of a network sheet between its lines, and what one line changes of it. Assumes nothing.
use Rattle.std.specs.Prelude.{◌≡◌, Bool, true, false, Option, Some, None, List, ◌++◌, ℕ, ◌+◌, ◌≤◌, ◌<◌, ltb, length, drop, set, replicate}
use Rattle.std.proofs.Math.Option.{none}
use Rattle.std.proofs.Math.Option as math
use Rattle.bits.specs.Logic.{pick}
use Rattle.limits.specs.Limits.{max_cells, max_outputs}
use Rattle.names.specs.Name.{Name}
use Rattle.sheet.specs.Examine.{Design}
use Rattle.network.specs.Network.{Network}
use Rattle.network.specs.Reader.{read_lut}
use Rattle.network.specs.Examine as spec
use Rattle.network.specs.Examine.{Step, misspelled, next}
use Rattle.netsheet.specs.Answer.{Held, frees}
use Rattle.netsheet.specs.declared.Place.{Place}
use Rattle.netsheet.specs.declared.Reading.{Reading}

abbrev pub place_of : Place → spec.Place
place_of Place.Network = spec.at_network
place_of Place.Luts = spec.at_luts
place_of (Place.Node o) = spec.at_node o
place_of Place.Count = spec.at_count
place_of Place.End = spec.at_end_lem
place_of Place.Over = spec.over

-- whether every line was read
abbrev pub is_over : Place → Bool
is_over Place.Network = false
is_over Place.Luts = false
is_over (Place.Node o) = false
is_over Place.Count = false
is_over Place.End = false
is_over Place.Over = true

-- ---- what the code holds at first, and after a line of each kind
abbrev pub fresh : Reading
fresh =
    record {
      place = Place.Network;
      sheet =
          record {
            luts = 0;
            lutat = replicate max_cells 0;
            reads = replicate max_outputs 0;
            nodeat = replicate max_outputs 0;
          };
    }

abbrev pub moved : Reading → Bool → Place → Option Reading
moved s good p = pick good (Some (record { place = p; sheet = s.sheet })) None

abbrev pub lut_added : Reading → ℕ → Reading
lut_added s p =
    record {
      place = Place.Luts;
      sheet =
          record {
            luts = s.sheet.luts + 1;
            lutat = set s.sheet.lutat s.sheet.luts p;
            reads = s.sheet.reads;
            nodeat = s.sheet.nodeat;
          };
    }

abbrev pub after_node : ℕ → ℕ → Place
after_node o outputs = pick (ltb (o + 1) outputs) (Place.Node (o + 1)) Place.Count

abbrev pub node_added : Reading → ℕ → ℕ → ℕ → ℕ → Reading
node_added s o mask p outputs =
    record {
      place = after_node o outputs;
      sheet =
          record {
            luts = s.sheet.luts;
            lutat = s.sheet.lutat;
            reads = set s.sheet.reads o mask;
            nodeat = set s.sheet.nodeat o p;
          };
    }

-- a lut line, where there may be one more
abbrev pub maybe_lut : List Name → ℕ → List ℕ → math.Option (List Bool)
maybe_lut bs u l = pick (ltb u max_cells) (read_lut bs u l) none

-- ---- what holds of it, whatever the design
abbrev pub PlaceFits : Place → Type 0
PlaceFits Place.Network = Unit {0}
PlaceFits Place.Luts = Unit {0}
PlaceFits (Place.Node o) = o < max_outputs
PlaceFits Place.Count = Unit {0}
PlaceFits Place.End = Unit {0}
PlaceFits Place.Over = Unit {0}

pub record Safe (s : Reading) : Type 0 where
  pub few : s.sheet.luts ≤ max_cells
  pub fits : PlaceFits s.place

-- the same of what a line that may be bad leaves
abbrev pub AnySafe : Option Reading → Type 0
AnySafe (Some s) = Safe s
AnySafe None = Unit {0}

-- ---- what it says beside a design d, of the text t
-- l stands in t from a place on
pub record PartOf (t : List ℕ) (at : ℕ) (l : List ℕ) : Type 0 where
  pub later : List ℕ
  pub inside : at + length l ≤ length t
  pub is : drop at t ≡ l ++ later

abbrev pub HeldBy : Design → List ℕ → Network → Reading → Type 0
HeldBy d t w s = Held t (length d.bound) (frees d) w s.sheet.luts s.sheet.lutat s.sheet.reads s.sheet.nodeat

-- how many nodes were read before the line at a place
abbrev pub Staged : Design → spec.Place → Network → Type 0
Staged d spec.at_network w = length w.nodes ≡ 0
Staged d spec.at_luts w = length w.nodes ≡ 0
Staged d (spec.at_node o) w = (length w.nodes ≡ o) × (o < length d.outputs)
Staged d spec.at_count w = length w.nodes ≡ length d.outputs
Staged d spec.at_end_lem w = length w.nodes ≡ length d.outputs
Staged d spec.over w = length w.nodes ≡ length d.outputs

pub record Known (d : Design) (t : List ℕ) (w : Network) (s : Reading) : Type 0 where
  pub staged : Staged d (place_of s.place) w
  pub held : HeldBy d t w s

pub record Onward (d : Design) (t : List ℕ) (p : spec.Place) (w : Network) (s : Reading) : Type 0 where
  pub placed : place_of s.place ≡ p
  pub staged : Staged d p w
  pub held : HeldBy d t w s

-- what a line comes to
abbrev pub StepIs : Design → List ℕ → Step → Option Reading → Type 0
StepIs d t misspelled None = Unit {0}
StepIs d t misspelled (Some s) = ⊥
StepIs d t (next p w) (Some s) = Onward d t p w s
StepIs d t (next p w) None = ⊥
