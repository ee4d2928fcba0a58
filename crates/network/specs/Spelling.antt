-- The texts that say a network beside a design (clause 8.9). Each place where a name stands may have a spelling of its own; all else is as it is printed. Assumes nothing.
use Rattle.std.specs.Prelude.{◌≡◌, Bool, true, List, [], ◌∷◌, ◌++◌, ℕ, suc, length}
use Rattle.text.specs.Line.{ended_lines}
use Rattle.names.specs.Name.{Name, same_name}
use Rattle.names.specs.Spelled.{same_names}
use Rattle.sheet.specs.Examine.{Design, output_names}
use Rattle.classes.specs.Columns.{free}
use Rattle.network.specs.Network.{Network, Node}
use Rattle.network.specs.Printer.{network_line, print_lut, print_node}
use Rattle.network.specs.Parts.{last_lines}

-- lut line i with the table t, over the bound inputs bs
pub record LutSpelled (bs : List Name) (i : ℕ) (t : List Bool) (l : List ℕ) : Type 0 where
  pub names : List Name
  pub same_names_lem : same_names bs names ≡ true
  pub is_line : l ≡ print_lut names i t

-- the node line of the output n, beside the free inputs fs
pub record NodeSpelled (n : Name) (fs : List Name) (x : Node) (l : List ℕ) : Type 0 where
  pub name : Name
  pub names : List Name
  pub same_name_lem : same_name n name ≡ true
  pub same_names_lem : same_names fs names ≡ true
  pub is_line : l ≡ print_node name names x

-- the lut lines from number i on, and the node lines of the outputs
pub data LutsSpelled (bs : List Name) : ℕ → List (List Bool) → List (List ℕ) → Type 0 where
  no_lut : {i : ℕ} → LutsSpelled bs i [] []
  one_lut : {i : ℕ} {t : List Bool} {ts : List (List Bool)} {l : List ℕ} {ls : List (List ℕ)}
      → LutSpelled bs i t l
      → LutsSpelled bs (suc i) ts ls
      → LutsSpelled bs i (t ∷ ts) (l ∷ ls)

pub data NodesSpelled (fs : List Name) : List Name → List Node → List (List ℕ) → Type 0 where
  no_node : NodesSpelled fs [] [] []
  one-node : {n : Name} {ns : List Name} {x : Node} {xs : List Node} {l : List ℕ} {ls : List (List ℕ)}
      → NodeSpelled n fs x l
      → NodesSpelled fs ns xs ls
      → NodesSpelled fs (n ∷ ns) (x ∷ xs) (l ∷ ls)

-- all lines of a network sheet that says w beside the design d, and its text
pub record LinesSpelled (d : Design) (w : Network) (ls : List (List ℕ)) : Type 0 where
  pub luts : List (List ℕ)
  pub nodes : List (List ℕ)
  pub luts_spelled : LutsSpelled d.bound 0 w.luts luts
  pub nodes_spelled : NodesSpelled (free d.inputs d.bound) (output_names d.outputs) w.nodes nodes
  pub are_lines : ls ≡ network_line ∷ (luts ++ (nodes ++ last_lines (length w.luts)))

pub record Spells (d : Design) (w : Network) (t : List ℕ) : Type 0 where
  pub lines : List (List ℕ)
  pub lines_spelled : LinesSpelled d w lines
  pub is_text : t ≡ ended_lines lines
