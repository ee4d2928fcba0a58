-- The signals of a network's model have the network's values: on the values of a row an input has its own, a cell that of its
-- shared table, and an output that of its node. Assumes nothing.
use Rattle.std.specs.Prelude.{◌≡◌, refl, Bool, true, false, ℕ, zero, suc, ◌+◌, ◌^◌, ◌≤◌, ◌<◌}
use Rattle.std.proofs.Math.Path.{sym, ap, ap₂}
use Rattle.std.proofs.Common.{◌∙◌, ⊎_elim, arith, length-append}
use mathlib.Core.List.{List, [], ◌∷◌, ◌++◌, map, map-append}
use Rattle.std.proofs.Math.Option.{Option, some, none}
use Rattle.std.proofs.Math.ListN.{length, get_or, length-map, get_or-map}
use Rattle.bits.specs.LogicLaws.{true_false, either, neither_first, neither_second}
use Rattle.rows.specs.Row.{row_of, values_of}
use Rattle.text.specs.Bytes.{same}
use Rattle.text.specs.BytesLaws.{same_equal}
use Rattle.names.specs.Name.{Name, among, distinct}
use Rattle.names.specs.Spelled.{stands_in}
use Rattle.names.specs.SameLaws.{same_name_equal}
use Rattle.names.specs.StandLaws.{stands_among, stands_first, stands_later}
use Rattle.formula.specs.Value.{on_row}
use Rattle.sheet.specs.Lines.{Output}
use Rattle.sheet.specs.Examine.{Design}
use Rattle.sheet.specs.WellFormed.{WellFormed, output_at}
use Rattle.classes.specs.Columns.{vertex_of}
use Rattle.classes.specs.FreeLaws.{distinct-later, first_another}
use Rattle.network.specs.Network.{Network, Node}
use Rattle.network.specs.Reads.{Rising, rising_none, rising_more}
use Rattle.network.specs.Value.{lut_on, node_row, network_on}
use Rattle.network.specs.Parts.{free_of}
use Rattle.network.specs.NetworkFor.{NetworkFor, node_at}
use Rattle.blif.specs.Printer.{cell_name}
use Rattle.blif.specs.Model.{Signal, Block}
use Rattle.blif.specs.Modelled.{cover_of, block_of, model_of}
use Rattle.blif.specs.Value.{covers, given, driver, all_values, on_inputs, driven, or_else, value_within, value_in}
use Rattle.blif.specs.Simulated.{output_signal}
use Rattle.blif.specs.StandLaws.{all_stand, free_stands}
use Rattle.blif.specs.OnceLaws.{absent}
use Rattle.blif.specs.CellNameLaws.{cell_not_among}
use Rattle.blif.specs.MatchLaws.{cover_row}
use Rattle.blif.specs.DriverLaws.{block-count, cell_driver, output-driver}

-- ---- what is given
given_input : (ns : List Name) (r : ℕ) (n : Name)
    → distinct ns ≡ true
    → stands_in n ns ≡ true
    → given ns (values_of (length ns) r) n ≡ some (on_row ns r n)
unfolding given values_of on_row stands_in
given_input [] r n d e = absurd (true_false (sym e))
given_input (m ∷ ns) r n d e =
    ⊎_elim
    (λ q. rw q (rw (same_name_equal m n (same_equal m n q)) refl))
    (λ q.
    let later : stands_in n ns ≡ true = rw q at e in
    rw q (rw (first_another m n ns d (stands_among n ns later)) (given_input ns r n (distinct-later m ns d) later)))
    (either (same m n))

given_none : (ns : List Signal) (vs : List Bool) (s : Signal) → stands_in s ns ≡ false → given ns vs s ≡ none
unfolding given stands_in
given_none [] vs s e = refl
given_none (t ∷ ns) [] s e = refl
given_none (t ∷ ns) (v ∷ vs) s e =
    rw (neither_first (same t s) (stands_in s ns) e) (given_none ns vs s (neither_second (same t s) (stands_in s ns) e))

-- ---- what a block reads
all-some : (us : List Bool) → all_values (map some us) ≡ some us
unfolding all_values
all-some [] = refl
all-some (u ∷ us) = rw (all-some us) refl

module _ (f : Signal → Option Bool) where
  inputs_valued : (v : Name → Bool) (ns : List Name)
      → ((n : Name) → stands_in n ns ≡ true → f n ≡ some (v n))
      → map f ns ≡ map some (map v ns)
  inputs_valued v [] h = refl
  inputs_valued v (n ∷ ns) h =
      ap₂ (λ (x : Option Bool) (xs : List (Option Bool)). x ∷ xs)
      (h n (stands_first n n ns refl))
      (inputs_valued v ns (λ m e. h m (stands_later n m ns e)))

  cells_valued : (v : ℕ → Bool) {i u : ℕ} {js : List ℕ}
      → Rising i u js
      → ((j : ℕ) → j < u → f (cell_name j) ≡ some (v j))
      → map f (map cell_name js) ≡ map some (map v js)
  cells_valued v rising_none h = refl
  cells_valued v (rising_more {j = j} l m t) h =
      ap₂ (λ (x : Option Bool) (xs : List (Option Bool)). x ∷ xs) (h j m) (cells_valued v t h)

  reads_valued : (js : List ℕ) (ns : List Name) (us vs : List Bool)
      → map f (map cell_name js) ≡ map some us
      → map f ns ≡ map some vs
      → map f (map cell_name js ++ ns) ≡ map some (us ++ vs)
  reads_valued js ns us vs e h =
      map-append f (map cell_name js) ns ∙ ap₂ (λ (x y : List (Option Bool)). x ++ y) e h ∙ sym (map-append some us vs)

  -- what a block drives has its table's value on the row of what it reads
  block_valued : (ss : List Signal) (s : Signal) (ds us : List Bool)
      → map f ss ≡ map some us
      → length ds ≡ 2 ^ length ss
      → driven f (some (block_of ss s ds)) ≡ some (get_or ds (row_of us) false)
  unfolding block_of
  block_valued ss s ds us e l =
      let long : length ss ≡ length us = sym (length-map ss f) ∙ ap length e ∙ length-map us some in
      ap (on_inputs (cover_of (length ss) 0 ds)) (ap all_values e ∙ all-some us)
      ∙ ap (λ (n : ℕ). some (covers (cover_of n 0 ds) us)) long
      ∙ ap some (cover_row ds us (l ∙ ap (λ (n : ℕ). 2 ^ n) long))

-- ---- a network's model on the values of row r
module _ (d : Design) (w : Network) (f : WellFormed d) (g : NetworkFor d w) (r : ℕ) where
  abbrev within : ℕ → Signal → Option Bool
  within k = value_within k (model_of d w) (values_of (length d.inputs) r)

  input_valued : (k : ℕ) (n : Name) → stands_in n d.inputs ≡ true → within (suc k) n ≡ some (on_row d.inputs r n)
  unfolding value_within model_of
  input_valued k n e =
      ap (λ (x : Option Bool). or_else x (driven (within k) (driver (model_of d w).blocks n)))
      (given_input d.inputs r n f.inputs_right.once e)

  -- a signal that is no input has the value of what drives it
  driven_valued : (k : ℕ) (s : Signal) (b : Block)
      → stands_in s d.inputs ≡ false
      → driver (model_of d w).blocks s ≡ some b
      → within (suc k) s ≡ driven (within k) (some b)
  unfolding value_within model_of
  driven_valued k s b e h =
      ap₂ (λ (x : Option Bool) (y : Option Block). or_else x (driven (within k) y))
      (given_none d.inputs (values_of (length d.inputs) r) s e)
      h

  cell_valued : (k i : ℕ) → i < length w.luts → within (suc (suc k)) (cell_name i) ≡ some (lut_on d w r i)
  unfolding lut_on vertex_of
  cell_valued k i l =
      let ds = get_or w.luts i [] in
      driven_valued (suc k) (cell_name i) (block_of d.bound (cell_name i) ds)
      (absent (cell_name i) d.inputs (cell_not_among i d.inputs f.inputs_right.named))
      (cell_driver d w g f i l)
      ∙ block_valued (within (suc k)) d.bound (cell_name i) ds (map (on_row d.inputs r) d.bound)
      (inputs_valued (within (suc k)) (on_row d.inputs r) d.bound
      (λ n e. input_valued k n (all_stand d.bound d.inputs n f.bound_right.known e)))
      (g.lut_digits i l)

  -- ---- an output
  abbrev node : ℕ → Node
  node o = node_at w.nodes o

  output_no_input : (o : ℕ) → o < length d.outputs → stands_in (output_signal d o) d.inputs ≡ false
  output_no_input o l =
      absent (output_signal d o) d.inputs
      (ap (λ (n : Name). among n d.inputs) (get_or-map (λ (x : Output). x.name) d.outputs o (output_at [] 0))
      ∙ (f.outputs_right.each o l).new)

  input_enough : (k : ℕ) (n : Name) → 1 ≤ k → stands_in n d.inputs ≡ true → within k n ≡ some (on_row d.inputs r n)
  input_enough zero n h e = absurd (omega arith)
  input_enough (suc k) n h e = input_valued k n e

  cell_enough : (k i : ℕ) → 2 ≤ k → i < length w.luts → within k (cell_name i) ≡ some (lut_on d w r i)
  cell_enough zero i h l = absurd (omega arith)
  cell_enough (suc zero) i h l = absurd (omega arith)
  cell_enough (suc (suc k)) i h l = cell_valued k i l

  node-reads : (k o : ℕ)
      → length w.luts + 1 ≤ k
      → o < length w.nodes
      → map (within k) (map cell_name (node o).reads ++ free_of d)
      ≡ map some (map (lut_on d w r) (node o).reads ++ map (on_row d.inputs r) (free_of d))
  node-reads k o h l =
      reads_valued (within k) (node o).reads (free_of d) (map (lut_on d w r) (node o).reads) (map (on_row d.inputs r) (free_of d))
      (cells_valued (within k) (lut_on d w r) (g.node_fits o l).rises (λ j m. cell_enough k j (omega arith) m))
      (inputs_valued (within k) (on_row d.inputs r) (free_of d)
      (λ n e. input_enough k n (omega arith) (free_stands d.inputs d.bound n e)))

  node-counted : (o : ℕ) → o < length w.nodes → length (node o).digits ≡ 2 ^ length (map cell_name (node o).reads ++ free_of d)
  node-counted o l =
      let cells = map cell_name (node o).reads in
      let count : length (cells ++ free_of d) ≡ length (node o).reads + length (free_of d) =
      length-append cells (free_of d) ∙ ap (λ (n : ℕ). n + length (free_of d)) (length-map (node o).reads cell_name) in
      (g.node_fits o l).counted ∙ ap (λ (n : ℕ). 2 ^ n) (sym count)

  pub output_valued : (o : ℕ)
      → o < length d.outputs
      → value_in (model_of d w) (values_of (length d.inputs) r) (output_signal d o) ≡ some (network_on d w o r)
  unfolding value_in network_on node_row
  output_valued o l =
      let k = length (model_of d w).blocks in
      let m : o < length w.nodes = omega (arith, g.node_each) in
      let enough : length w.luts + 1 ≤ k = omega (arith, block-count d w g, f.some-output) in
      let ss = map cell_name (node o).reads ++ free_of d in
      let us = map (lut_on d w r) (node o).reads ++ map (on_row d.inputs r) (free_of d) in
      driven_valued k (output_signal d o) (block_of ss (output_signal d o) (node o).digits)
      (output_no_input o l)
      (output-driver d w g f o l)
      ∙ block_valued (within k) ss (output_signal d o) (node o).digits us (node-reads k o enough m) (node-counted o m)
