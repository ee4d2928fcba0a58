-- What reading a network sheet answers, by the definitions: the first bad line, or the places in the sheet's text where
-- the tables of its network stand. Assumes nothing.
use Rattle.std.specs.Prelude.{◌≡◌, List, [], ℕ, ◌^◌, ◌≤◌, ◌<◌, length, get_or, Result, Ok, Err}
use Rattle.limits.specs.Limits.{max_cells}
use Rattle.sheet.specs.Examine.{Design}
use Rattle.classes.specs.Columns.{free}
use Rattle.network.specs.Network.{Network}
use Rattle.network.specs.Examine.{Answer, bad_line, network}
use Rattle.network.specs.LineAnswer.{Stands, NodeStands}
use Rattle.netsheet.specs.declared.NetworkSheet.{NetworkSheet}

-- the tables of w stand in the text t: b bound inputs, f free inputs, u shared tables with their places, and for each
-- node a mask of what it reads and its place
pub record Held (t : List ℕ) (b f : ℕ) (w : Network) (u : ℕ) (lutat reads nodeat : List ℕ) : Type 0 where
  pub counted : u ≡ length w.luts
  pub few : u ≤ max_cells
  pub luts_stand : (i : ℕ) → i < u → Stands t (2 ^ b) (get_or lutat i 0) (get_or w.luts i [])
  pub nodes_stand : (o : ℕ) → o < length w.nodes
      → NodeStands t u f (get_or reads o 0) (get_or nodeat o 0) (get_or w.nodes o (record { reads = []; digits = [] }))

abbrev pub frees : Design → ℕ
frees d = length (free d.inputs d.bound)

pub record ReadAs (d : Design) (t : List ℕ) (w : Network) (r : NetworkSheet) : Type 0 where
  pub nodes-counted : length w.nodes ≡ length d.outputs
  pub held : Held t (length d.bound) (frees d) w r.luts r.lutat r.reads r.nodeat

abbrev pub NetworkIs : Design → List ℕ → Answer → Result NetworkSheet ℕ → Type 0
NetworkIs d t (bad_line n) (Err m) = m ≡ n
NetworkIs d t (bad_line n) (Ok r) = ⊥
NetworkIs d t (network w) (Ok r) = ReadAs d t w r
NetworkIs d t (network w) (Err m) = ⊥
