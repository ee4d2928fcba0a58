-- The blocks of a network's model in their order, and that each is the one which drives its signal. Assumes nothing.
use Rattle.std.specs.Prelude.{◌≡◌, refl, Bool, true, false, List, [], ◌∷◌, ◌++◌, map, ℕ, zero, suc, ◌+◌, ◌<◌, length, get_or}
use Rattle.std.proofs.Common.{sym, subst, ◌∙◌, arith}
use Rattle.std.proofs.Math.Path.{ap, ap₂}
use Rattle.std.proofs.Math.Option.{some}
use Rattle.std.proofs.Math.ListN.{length-append, get_or-append}
use Rattle.std.proofs.Math.Seq.{get_or-append-add}
use Rattle.text.specs.Bytes.{same}
use Rattle.text.specs.BytesLaws.{same_self}
use Rattle.names.specs.Name.{Name}
use Rattle.names.specs.Spelled.{stands_in}
use Rattle.names.specs.StandLaws.{stands_first, stands_later}
use Rattle.sheet.specs.Examine.{Design}
use Rattle.sheet.specs.WellFormed.{WellFormed}
use Rattle.network.specs.Network.{Network, Node}
use Rattle.network.specs.Parts.{free_of, names_of}
use Rattle.network.specs.PartLaws.{names_count}
use Rattle.network.specs.NetworkFor.{NetworkFor, node_at}
use Rattle.blif.specs.Printer.{cell_name}
use Rattle.blif.specs.Model.{Block, drives_of}
use Rattle.blif.specs.Modelled.{block_of, lut_blocks_of, node_blocks_of, model_of}
use Rattle.blif.specs.Reader.{once}
use Rattle.blif.specs.Value.{driver}
use Rattle.blif.specs.OnceLaws.{once-later, once_another}
use Rattle.blif.specs.NamesOnceLaws.{blocks_once}

-- ---- signals that stand once each
abbrev no_block : Block
no_block = record { reads = []; drives = []; cover = [] }

abbrev block_at : List Block → ℕ → Block
block_at bs k = get_or bs k no_block

drives_stand : (bs : List Block) (k : ℕ) → k < length bs → stands_in (block_at bs k).drives (drives_of bs) ≡ true
drives_stand [] k l = absurd (omega arith)
drives_stand (b ∷ bs) zero l = stands_first b.drives b.drives (drives_of bs) refl
drives_stand (b ∷ bs) (suc k) l = stands_later b.drives (block_at bs k).drives (drives_of bs) (drives_stand bs k (omega arith))

driver_at : (bs : List Block) (k : ℕ)
    → k < length bs
    → once (drives_of bs) ≡ true
    → driver bs (block_at bs k).drives ≡ some (block_at bs k)
unfolding driver
driver_at [] k l e = absurd (omega arith)
driver_at (b ∷ bs) zero l e = rw (same_self b.drives) refl
driver_at (b ∷ bs) (suc k) l e =
    let n = (block_at bs k).drives in
    let other : same b.drives n ≡ false = once_another b.drives n (drives_of bs) e (drives_stand bs k (omega arith)) in
    rw other (driver_at bs k (omega arith) (once-later b.drives (drives_of bs) e))

-- ---- the blocks in their order
lut_block : (bs : List Name) (i : ℕ) (ts : List (List Bool)) (k : ℕ)
    → k < length ts
    → block_at (lut_blocks_of bs i ts) k ≡ block_of bs (cell_name (i + k)) (get_or ts k [])
unfolding lut_blocks_of
lut_block bs i [] k l = absurd (omega arith)
lut_block bs i (t ∷ ts) zero l = ap (λ (j : ℕ). block_of bs (cell_name j) t) (omega arith)
lut_block bs i (t ∷ ts) (suc k) l =
    lut_block bs (suc i) ts k (omega arith) ∙ ap (λ (j : ℕ). block_of bs (cell_name j) (get_or ts k [])) (omega arith)

node_block : (fs ns : List Name) (xs : List Node) (o : ℕ)
    → length xs ≡ length ns
    → o < length ns
    → block_at (node_blocks_of fs ns xs) o ≡ block_of (map cell_name (node_at xs o).reads ++ fs) (get_or ns o []) (node_at xs o).digits
unfolding node_blocks_of
node_block fs [] xs o e l = absurd (omega arith)
node_block fs (n ∷ ns) [] o e l = absurd (omega (arith, e))
node_block fs (n ∷ ns) (x ∷ xs) zero e l = refl
node_block fs (n ∷ ns) (x ∷ xs) (suc o) e l = node_block fs ns xs o (omega (arith, e)) (omega arith)

lut_count : (bs : List Name) (i : ℕ) (ts : List (List Bool)) → length (lut_blocks_of bs i ts) ≡ length ts
unfolding lut_blocks_of
lut_count bs i [] = refl
lut_count bs i (t ∷ ts) = ap suc (lut_count bs (suc i) ts)

node-count : (fs ns : List Name) (xs : List Node) → length xs ≡ length ns → length (node_blocks_of fs ns xs) ≡ length ns
unfolding node_blocks_of
node-count fs [] xs e = refl
node-count fs (n ∷ ns) [] e = absurd (omega (arith, e))
node-count fs (n ∷ ns) (x ∷ xs) e = ap suc (node-count fs ns xs (omega (arith, e)))

-- ---- a network's model
module _ (d : Design) (w : Network) (g : NetworkFor d w) where
  abbrev luts : List Block
  luts = lut_blocks_of d.bound 0 w.luts

  abbrev nodes : List Block
  nodes = node_blocks_of (free_of d) (names_of d) w.nodes

  node_each : length w.nodes ≡ length (names_of d)
  node_each = g.node_each ∙ sym (names_count d)

  pub block-count : length (model_of d w).blocks ≡ length w.luts + length d.outputs
  unfolding model_of
  block-count =
      length-append luts nodes
      ∙ ap₂ (λ (a b : ℕ). a + b) (lut_count d.bound 0 w.luts) (node-count (free_of d) (names_of d) w.nodes node_each ∙ names_count d)

  cell_block : (i : ℕ) → i < length w.luts → block_at (model_of d w).blocks i ≡ block_of d.bound (cell_name i) (get_or w.luts i [])
  unfolding model_of
  cell_block i l =
      get_or-append luts nodes no_block i (omega (arith, lut_count d.bound 0 w.luts))
      ∙ lut_block d.bound 0 w.luts i l
      ∙ ap (λ (j : ℕ). block_of d.bound (cell_name j) (get_or w.luts i [])) (omega arith)

  output-block : (o : ℕ)
      → o < length d.outputs
      → block_at (model_of d w).blocks (length w.luts + o)
      ≡ block_of (map cell_name (node_at w.nodes o).reads ++ free_of d) (get_or (names_of d) o []) (node_at w.nodes o).digits
  unfolding model_of
  output-block o l =
      ap (λ (k : ℕ). block_at (luts ++ nodes) (k + o)) (sym (lut_count d.bound 0 w.luts))
      ∙ get_or-append-add luts nodes o no_block
      ∙ node_block (free_of d) (names_of d) w.nodes o node_each (omega (arith, names_count d))

  module _ (f : WellFormed d) where
    -- a block that stands among the model's is the one that drives its signal
    driver_is : (k : ℕ) (b : Block)
        → k < length w.luts + length d.outputs
        → block_at (model_of d w).blocks k ≡ b
        → driver (model_of d w).blocks b.drives ≡ some b
    driver_is k b l e =
        subst (λ (c : Block). driver (model_of d w).blocks c.drives ≡ some c) e
        (driver_at (model_of d w).blocks k (omega (arith, block-count)) (blocks_once d w f g))

    pub cell_driver : (i : ℕ)
        → i < length w.luts
        → driver (model_of d w).blocks (cell_name i) ≡ some (block_of d.bound (cell_name i) (get_or w.luts i []))
    unfolding block_of
    cell_driver i l = driver_is i (block_of d.bound (cell_name i) (get_or w.luts i [])) (omega arith) (cell_block i l)

    pub output-driver : (o : ℕ)
        → o < length d.outputs
        → driver (model_of d w).blocks (get_or (names_of d) o [])
        ≡ some (block_of (map cell_name (node_at w.nodes o).reads ++ free_of d) (get_or (names_of d) o []) (node_at w.nodes o).digits)
    unfolding block_of
    output-driver o l =
        driver_is (length w.luts + o)
        (block_of (map cell_name (node_at w.nodes o).reads ++ free_of d) (get_or (names_of d) o []) (node_at w.nodes o).digits)
        (omega arith)
        (output-block o l)
