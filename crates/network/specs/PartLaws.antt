-- The parts of a network sheet, line by line, and the names that stand in them. Assumes nothing.
use Rattle.std.specs.Prelude.{◌≡◌, refl, Bool, true, false, List, [], ◌∷◌, ℕ, zero, suc, ◌≤◌, ◌<◌, length, get_or}
use Rattle.std.proofs.Common.{ap, arith, lt-ltb, le-ltb}
use Rattle.std.proofs.Math.Option.{none}
use Rattle.std.proofs.lemmas.List.{length-map}
use Rattle.bits.specs.Logic.{pick}
use Rattle.bits.specs.LogicLaws.{and_left, and_right, and_both}
use Rattle.text.specs.Bytes.{eat}
use Rattle.names.specs.Name.{Name, is_name, among}
use Rattle.names.specs.Names.{all_names}
use Rattle.sheet.specs.Lines.{Output}
use Rattle.sheet.specs.Examine.{Design}
use Rattle.classes.specs.Columns.{free}
use Rattle.network.specs.Network.{Node}
use Rattle.network.specs.Printer.{print_node, node_head}
use Rattle.network.specs.Reader.{read_lut_head, read_lut}
use Rattle.network.specs.Examine.{at_node, at_count}
use Rattle.network.specs.Parts.{names_of, node_place}

-- ---- names
pub free-named : (ns bs : List Name) → all_names ns ≡ true → all_names (free ns bs) ≡ true
unfolding free all_names
free-named [] bs h = refl
free-named (n ∷ ns) bs h =
    go (among n bs) (and_left (is_name n) (all_names ns) h) (free-named ns bs (and_right (is_name n) (all_names ns) h))
  where
    go : (x : Bool)
        → is_name n ≡ true
        → all_names (free ns bs) ≡ true
        → all_names (pick x (free ns bs) (n ∷ free ns bs)) ≡ true
    go true i r = r
    go false i r = and_both (is_name n) (all_names (free ns bs)) i r

name_at : (ns : List Name) (i : ℕ) → all_names ns ≡ true → i < length ns → is_name (get_or ns i []) ≡ true
unfolding all_names
name_at [] i h l = absurd (omega arith)
name_at (n ∷ ns) zero h l = and_left (is_name n) (all_names ns) h
name_at (n ∷ ns) (suc i) h l = name_at ns i (and_right (is_name n) (all_names ns) h) (omega arith)

module _ (d : Design) where
  pub names_count : length (names_of d) ≡ length d.outputs
  names_count = length-map d.outputs (λ (o : Output). o.name)

  pub output-named : (o : ℕ) → all_names (names_of d) ≡ true → o < length d.outputs → is_name (get_or (names_of d) o []) ≡ true
  output-named o h l = name_at (names_of d) o h (omega (arith, names_count))

  -- ---- the places of node lines
  pub place_node : (o : ℕ) → o < length d.outputs → node_place d o ≡ at_node o
  place_node o h = ap (λ (x : Bool). pick x (at_node o) at_count) (lt-ltb o (length d.outputs) h)

  pub place_count : (o : ℕ) → length d.outputs ≤ o → node_place d o ≡ at_count
  place_count o h = ap (λ (x : Bool). pick x (at_node o) at_count) (le-ltb o (length d.outputs) h)

-- a node line is no lut line
pub node_no_lut : (bs : List Name) (i : ℕ) (n : Name) (fs : List Name) (x : Node)
    → read_lut bs i (print_node n fs x) ≡ none
unfolding read_lut read_lut_head print_node node_head eat
node_no_lut bs i n fs x = refl
