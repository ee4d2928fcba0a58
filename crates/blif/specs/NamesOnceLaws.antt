-- No signal of a network's model is driven twice: each of its inputs, cells and outputs stands once. Assumes nothing.
use Rattle.std.specs.Prelude.{◌≡◌, refl, Bool, true, false, not, ℕ, zero, suc, ◌+◌, ◌≤◌, ◌<◌, length}
use Rattle.std.proofs.Common.{sym, ap₂, subst, ◌∙◌, ⊎_elim, arith}
use Rattle.std.proofs.Math.Path.{ap}
use mathlib.Core.List.{List, [], ◌∷◌, ◌++◌, map-append}
use Rattle.bits.specs.LogicLaws.{true_false, and_both, false_unless}
use Rattle.names.specs.Name.{Name, is_name, among}
use Rattle.names.specs.Spelled.{stands_in}
use Rattle.names.specs.AllNamesLaws.{named-among}
use Rattle.names.specs.StandLaws.{stands_among, stands_cases}
use Rattle.names.specs.Names.{all_names}
use Rattle.sheet.specs.Lines.{Output}
use Rattle.sheet.specs.Examine.{Design, output_names}
use Rattle.sheet.specs.WellFormed.{WellFormed, output_at}
use Rattle.classes.specs.Cases.{not_both}
use Rattle.network.specs.Network.{Network, Node}
use Rattle.network.specs.Parts.{free_of, names_of}
use Rattle.network.specs.PartLaws.{names_count}
use Rattle.network.specs.NamedLaws.{design-named}
use Rattle.network.specs.NetworkFor.{NetworkFor}
use Rattle.blif.specs.Printer.{cell_name}
use Rattle.blif.specs.Model.{Signal, Block, drives_of}
use Rattle.blif.specs.Modelled.{block_of, lut_blocks_of, node_blocks_of, model_of}
use Rattle.blif.specs.CellNames.{cell_names}
use Rattle.blif.specs.Reader.{once, driven_signals}
use Rattle.blif.specs.CellNameLaws.{cell_no_name, cells-apart}
use Rattle.blif.specs.OnceLaws.{distinct-once, stands_neither, once_both}

-- ---- what the blocks drive
lut_drives : (bs : List Name) (i : ℕ) (ts : List (List Bool)) → drives_of (lut_blocks_of bs i ts) ≡ cell_names i (length ts)
unfolding lut_blocks_of block_of cell_names
lut_drives bs i [] = refl
lut_drives bs i (t ∷ ts) = ap (λ (l : List Name). cell_name i ∷ l) (lut_drives bs (suc i) ts)

node_drives : (fs ns : List Name) (xs : List Node) → length xs ≡ length ns → drives_of (node_blocks_of fs ns xs) ≡ ns
unfolding node_blocks_of block_of
node_drives fs [] xs e = refl
node_drives fs (n ∷ ns) [] e = absurd (omega (arith, e))
node_drives fs (n ∷ ns) (x ∷ xs) e = ap (λ (l : List Name). n ∷ l) (node_drives fs ns xs (omega (arith, e)))

model_drives : (d : Design) (w : Network) → NetworkFor d w
    → drives_of (model_of d w).blocks ≡ cell_names 0 (length w.luts) ++ names_of d
unfolding model_of
model_drives d w g =
    let fs = free_of d in
    let ns = names_of d in
    let count : length w.nodes ≡ length ns = g.node_each ∙ sym (names_count d) in
    map-append (λ (b : Block). b.drives) (lut_blocks_of d.bound 0 w.luts) (node_blocks_of fs ns w.nodes)
    ∙ ap₂ (λ (a b : List Name). a ++ b) (lut_drives d.bound 0 w.luts) (node_drives fs ns w.nodes count)

-- ---- each stands once
cell_stands_later : (i j k : ℕ) → i < j → j + k ≤ 1000 → stands_in (cell_name i) (cell_names j k) ≡ true → ⊥
unfolding cell_names stands_in
cell_stands_later i j zero h l e = true_false (sym e)
cell_stands_later i j (suc k) h l e =
    ⊎_elim
    (λ s. omega (arith, cells-apart j i (omega arith) (omega arith) s))
    (λ m. cell_stands_later i (suc j) k (omega arith) (omega arith) m)
    (stands_cases (cell_name j) (cell_name i) (cell_names (suc j) k) e)

cells-once : (i k : ℕ) → i + k ≤ 1000 → once (cell_names i k) ≡ true
unfolding cell_names once
cells-once i zero h = refl
cells-once i (suc k) h =
    let later = cell_names (suc i) k in
    and_both (not (stands_in (cell_name i) later)) (once later)
    (ap not (false_unless (stands_in (cell_name i) later) (cell_stands_later i (suc i) k (omega arith) (omega arith))))
    (cells-once (suc i) k (omega arith))

name_in_no_cells : (n : Name) (i k : ℕ) → is_name n ≡ true → stands_in n (cell_names i k) ≡ true → ⊥
unfolding cell_names stands_in
name_in_no_cells n i zero a e = true_false (sym e)
name_in_no_cells n i (suc k) a e =
    ⊎_elim
    (λ s. not_both (is_name n) a (subst (λ (m : Name). is_name m ≡ false) s (cell_no_name i)))
    (λ l. name_in_no_cells n (suc i) k a l)
    (stands_cases (cell_name i) n (cell_names (suc i) k) e)

no_output_stands : (n : Name) (ns : List Name) (os : List Output)
    → ((o : ℕ) → o < length os → among (output_at os o).name ns ≡ false)
    → stands_in n ns ≡ true
    → stands_in n (output_names os) ≡ true
    → ⊥
unfolding stands_in
no_output_stands n ns [] h e g = true_false (sym g)
no_output_stands n ns (o ∷ os) h e g =
    ⊎_elim
    (λ s. not_both (among o.name ns) (stands_among o.name ns (subst (λ (m : Name). stands_in m ns ≡ true) (sym s) e)) (h 0 (omega arith)))
    (λ l. no_output_stands n ns os (λ i k. h (suc i) (omega arith)) e l)
    (stands_cases o.name n (output_names os) g)

module _ (d : Design) (w : Network) (f : WellFormed d) (g : NetworkFor d w) where
  abbrev cells : List Signal
  cells = cell_names 0 (length w.luts)

  named_no_cell : (n : Name) (ns : List Name) → all_names ns ≡ true → stands_in n ns ≡ true → stands_in n cells ≡ true → ⊥
  named_no_cell n ns a e c = name_in_no_cells n 0 (length w.luts) (named-among n ns a (stands_among n ns e)) c

  cell_no_output : (s : Signal) → stands_in s cells ≡ true → stands_in s (names_of d) ≡ false
  cell_no_output s e = false_unless (stands_in s (names_of d)) (λ o. named_no_cell s (names_of d) (design-named d f).outputs_named o e)

  input_no_output : (s : Signal) → stands_in s d.inputs ≡ true → stands_in s (names_of d) ≡ false
  input_no_output s e =
      false_unless (stands_in s (names_of d))
      (λ o. no_output_stands s d.inputs d.outputs (λ i l. (f.outputs_right.each i l).new) e o)

  input_new : (s : Signal) → stands_in s d.inputs ≡ true → stands_in s (cells ++ names_of d) ≡ false
  input_new s e =
      stands_neither s cells (names_of d)
      (false_unless (stands_in s cells) (named_no_cell s d.inputs f.inputs_right.named e))
      (input_no_output s e)

  drives_once : once (cells ++ names_of d) ≡ true
  drives_once =
      once_both cells (names_of d)
      (cells-once 0 (length w.luts) (omega (arith, g.few_luts)))
      (distinct-once (names_of d) f.outputs_right.once)
      cell_no_output

  pub blocks_once : once (drives_of (model_of d w).blocks) ≡ true
  blocks_once = rw (model_drives d w g) drives_once

  pub signals_once : once (driven_signals (model_of d w)) ≡ true
  unfolding model_of
  signals_once =
      ap (λ (l : List Signal). once (d.inputs ++ l)) (model_drives d w g)
      ∙ once_both d.inputs (cells ++ names_of d) (distinct-once d.inputs f.inputs_right.once) drives_once input_new
