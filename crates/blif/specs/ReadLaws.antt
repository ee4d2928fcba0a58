-- Reading the text of a network gives its model. Assumes nothing.
use Rattle.std.specs.Prelude.{◌≡◌, Bool, false, ◌&&◌, ℕ, suc, ◌≤◌, eqb, length}
use Rattle.std.proofs.Math.Path.{refl, ap}
use Rattle.std.proofs.Common.{◌∙◌, arith, eq-eqb}
use Rattle.std.proofs.Math.Bool.{true}
use mathlib.Core.List.{List, [], ◌∷◌, ◌++◌, map, append_assoc, append-nil}
use Rattle.std.proofs.Math.Option.{Option, some, none}
use Rattle.std.proofs.lemmas.List.{length-map}
use Rattle.bits.specs.Logic.{pick}
use Rattle.bits.specs.LogicLaws.{and_left, and_right, and_both}
use Rattle.rows.specs.Row.{values_of}
use Rattle.rows.specs.RowLaws.{length_values}
use Rattle.text.specs.Bytes.{bytes, same}
use Rattle.text.specs.Line.{lines}
use Rattle.text.specs.EndedLaws.{lines_of_ended}
use Rattle.names.specs.Name.{Name}
use Rattle.names.specs.Names.{print_names}
use Rattle.sheet.specs.Examine.{Design}
use Rattle.sheet.specs.WellFormed.{WellFormed}
use Rattle.network.specs.Network.{Network, Node}
use Rattle.network.specs.Parts.{free_of, names_of}
use Rattle.network.specs.PartLaws.{free-named, names_count}
use Rattle.network.specs.NamedLaws.{design-named}
use Rattle.blif.specs.Printer.{model_name, cell_name, row_line, row_lines, block, lut_blocks, node_blocks, blif_lines, print_blif}
use Rattle.blif.specs.Words.{plain_byte, plain, all_plain, blank, words}
use Rattle.blif.specs.Model.{Signal, Mark, must_be, Block, Model}
use Rattle.blif.specs.Reader.{Said, inputs, outputs, names, cover, end, said, word_lines}
use Rattle.blif.specs.Reader.{Rest, onward, with_inputs, with_outputs, all_long, with_block, with_cover, read_rest}
use Rattle.blif.specs.Reader.{read_model, once, driven_signals, filled, complete, read_blif}
use Rattle.blif.specs.Modelled.{cover_of, block_of, lut_blocks_of, node_blocks_of, model_of}
use Rattle.blif.specs.IsWord.{is_word, all_words}
use Rattle.blif.specs.IsWordLaws.{cell_word, cells-words, words_append, word_after}
use Rattle.blif.specs.DesignWordLaws.{inputs_words, bound-words, frees-words, outputs_words}
use Rattle.blif.specs.SaidLaws.{Says, line_said, inputs_said, outputs_said, names_said, row-said, end_said}
use Rattle.blif.specs.PlainLaws.{all_plain_unbroken, all_plain_append, names_plain, printed_plain, luts-plain, nodes-plain}

-- what a reader makes of the lines from some line on, in a model of the name that is printed
abbrev read_lines : List (List ℕ) → Option Rest
read_lines ls = read_rest model_name (map said (word_lines ls))

line_read : (l : List ℕ) (x : Said) (ls : List (List ℕ))
    → Says l x
    → read_lines (l ∷ ls) ≡ read_rest model_name (x ∷ map said (word_lines ls))
line_read l x ls h = ap (read_rest model_name) (line_said l x ls h)

-- ---- rows
row_read : (vs : List Bool) (c : List (List Mark)) (m : Model) (ls : List (List ℕ))
    → read_lines ls ≡ some (record { cover = c; model = m })
    → read_lines (row_line vs ∷ ls) ≡ some (record { cover = map must_be vs ∷ c; model = m })
unfolding read_rest
row_read vs c m ls e =
    line_read (row_line vs) (cover (map must_be vs)) ls (row-said vs)
    ∙ ap (λ (r : Option Rest). onward r (with_cover (map must_be vs))) e

rows_read : (n r : ℕ) (ds : List Bool) (m : Model) (ls : List (List ℕ))
    → read_lines ls ≡ some (record { cover = []; model = m })
    → read_lines (row_lines n r ds ++ ls) ≡ some (record { cover = cover_of n r ds; model = m })
unfolding row_lines cover_of
rows_read n r [] m ls e = e
rows_read n r (true ∷ ds) m ls e =
    row_read (values_of n r) (cover_of n (suc r) ds) m (row_lines n (suc r) ds ++ ls) (rows_read n (suc r) ds m ls e)
rows_read n r (false ∷ ds) m ls e = rows_read n (suc r) ds m ls e

rows_long : (n r : ℕ) (ds : List Bool) → all_long n (cover_of n r ds) ≡ true
unfolding cover_of
rows_long n r [] = refl
rows_long n r (true ∷ ds) =
    and_both (eqb (length (map must_be (values_of n r))) n) (all_long n (cover_of n (suc r) ds))
    (eq-eqb (length (map must_be (values_of n r))) n (length-map (values_of n r) must_be ∙ length_values n r))
    (rows_long n (suc r) ds)
rows_long n r (false ∷ ds) = rows_long n (suc r) ds

-- ---- blocks
abbrev with_blocks : List Block → Model → Model
with_blocks bs m = record { name = m.name; inputs = m.inputs; outputs = m.outputs; blocks = bs ++ m.blocks }

-- the model alone, no cover line before it
abbrev just : Model → Option Rest
just m = some (record { cover = []; model = m })

with_block_lem : (ss : List Signal) (s : Signal) (c : List (List Mark)) (m : Model)
    → all_long (length ss) c ≡ true
    → with_block ss s (record { cover = c; model = m }) ≡ just (with_blocks (record { reads = ss; drives = s; cover = c } ∷ []) m)
with_block_lem ss s c m h = rw h refl

block_read : (is : List Name) (n : Name) (ds : List Bool) (m : Model) (ls : List (List ℕ))
    → all_words is ≡ true
    → is_word n ≡ true
    → read_lines ls ≡ just m
    → read_lines (block is n ds ++ ls) ≡ just (with_blocks (block_of is n ds ∷ []) m)
unfolding block block_of read_rest
block_read is n ds m ls h k e =
    let rows = row_lines (length is) 0 ds ++ ls in
    let c = cover_of (length is) 0 ds in
    line_read (bytes ".names" ++ print_names (is ++ (n ∷ []))) (names is n) rows (names_said is n (word_after is n h k))
    ∙ ap (λ (r : Option Rest). onward r (with_block is n)) (rows_read (length is) 0 ds m ls e)
    ∙ with_block_lem is n c m (rows_long (length is) 0 ds)

luts_read : (bs : List Name) (i : ℕ) (ts : List (List Bool)) (m : Model) (ls : List (List ℕ))
    → all_words bs ≡ true
    → read_lines ls ≡ just m
    → read_lines (lut_blocks bs i ts ++ ls) ≡ just (with_blocks (lut_blocks_of bs i ts) m)
unfolding lut_blocks lut_blocks_of
luts_read bs i [] m ls h e = e
luts_read bs i (t ∷ ts) m ls h e =
    ap read_lines (append_assoc (block bs (cell_name i) t) (lut_blocks bs (suc i) ts) ls)
    ∙ block_read bs (cell_name i) t (with_blocks (lut_blocks_of bs (suc i) ts) m) (lut_blocks bs (suc i) ts ++ ls) h (cell_word i)
    (luts_read bs (suc i) ts m ls h e)

nodes_read : (fs ns : List Name) (xs : List Node) (m : Model) (ls : List (List ℕ))
    → all_words fs ≡ true
    → all_words ns ≡ true
    → read_lines ls ≡ just m
    → read_lines (node_blocks fs ns xs ++ ls) ≡ just (with_blocks (node_blocks_of fs ns xs) m)
unfolding node_blocks node_blocks_of all_words
nodes_read fs [] xs m ls h k e = e
nodes_read fs (n ∷ ns) [] m ls h k e = e
nodes_read fs (n ∷ ns) (x ∷ xs) m ls h k e =
    let is = map cell_name x.reads ++ fs in
    ap read_lines (append_assoc (block is n x.digits) (node_blocks fs ns xs) ls)
    ∙ block_read is n x.digits (with_blocks (node_blocks_of fs ns xs) m) (node_blocks fs ns xs ++ ls)
    (words_append (map cell_name x.reads) fs (cells-words x.reads) h)
    (and_left (is_word n) (all_words ns) k)
    (nodes_read fs ns xs m ls h (and_right (is_word n) (all_words ns) k) e)

end_read : read_lines (bytes ".end" ∷ []) ≡ just (record { name = model_name; inputs = []; outputs = []; blocks = [] })
unfolding read_rest word_lines
end_read = line_read (bytes ".end") end [] end_said

-- ---- the lines before the blocks
outputs_read : (ns : List Name) (bs : List Block) (ls : List (List ℕ))
    → all_words ns ≡ true
    → read_lines ls ≡ just (record { name = model_name; inputs = []; outputs = []; blocks = bs })
    → read_lines ((bytes ".outputs" ++ print_names ns) ∷ ls) ≡ just (record { name = model_name; inputs = []; outputs = ns; blocks = bs })
unfolding read_rest
outputs_read ns bs ls h e =
    line_read (bytes ".outputs" ++ print_names ns) (outputs ns) ls (outputs_said ns h)
    ∙ ap (λ (r : Option Rest). onward r (with_outputs ns)) e
    ∙ ap (λ (ms : List Signal). just (record { name = model_name; inputs = []; outputs = ms; blocks = bs })) (append-nil ns)

inputs_read : (ns os : List Name) (bs : List Block) (ls : List (List ℕ))
    → all_words ns ≡ true
    → read_lines ls ≡ just (record { name = model_name; inputs = []; outputs = os; blocks = bs })
    → read_lines ((bytes ".inputs" ++ print_names ns) ∷ ls) ≡ just (record { name = model_name; inputs = ns; outputs = os; blocks = bs })
unfolding read_rest
inputs_read ns os bs ls h e =
    line_read (bytes ".inputs" ++ print_names ns) (inputs ns) ls (inputs_said ns h)
    ∙ ap (λ (r : Option Rest). onward r (with_inputs ns)) e
    ∙ ap (λ (ms : List Signal). just (record { name = model_name; inputs = ms; outputs = os; blocks = bs })) (append-nil ns)

model_read : (ls : List (List ℕ)) → read_model (word_lines ((bytes ".model " ++ model_name) ∷ ls)) ≡ read_lines ls
unfolding word_lines words blank same
model_read ls = refl

-- ---- the whole text
some-filled : (ss : List Signal) → 1 ≤ length ss → filled ss ≡ true
some-filled [] h = absurd (omega arith)
some-filled (s ∷ ss) h = refl

module _ (d : Design) (w : Network) (f : WellFormed d) where
  abbrev luts : List (List ℕ)
  luts = lut_blocks d.bound 0 w.luts

  abbrev nodes : List (List ℕ)
  nodes = node_blocks (free_of d) (names_of d) w.nodes

  abbrev last : List (List ℕ)
  last = bytes ".end" ∷ []

  lines_read : read_model (word_lines (blif_lines d w)) ≡ just (model_of d w)
  unfolding blif_lines model_of
  lines_read =
      let lutsOf = lut_blocks_of d.bound 0 w.luts in
      let nodesOf = node_blocks_of (free_of d) (names_of d) w.nodes in
      let blocks = luts ++ (nodes ++ last) in
      let below = (bytes ".outputs" ++ print_names (names_of d)) ∷ blocks in
      let e : read_lines (nodes ++ last) ≡ just (record { name = model_name; inputs = []; outputs = []; blocks = nodesOf }) =
      nodes_read (free_of d) (names_of d) w.nodes (record { name = model_name; inputs = []; outputs = []; blocks = [] }) last
      (frees-words d f) (outputs_words d f) end_read
      ∙ ap (λ (bs : List Block). just (record { name = model_name; inputs = []; outputs = []; blocks = bs })) (append-nil nodesOf) in
      model_read ((bytes ".inputs" ++ print_names d.inputs) ∷ below)
      ∙ inputs_read d.inputs (names_of d) (lutsOf ++ nodesOf) below (inputs_words d f)
      (outputs_read (names_of d) (lutsOf ++ nodesOf) blocks (outputs_words d f)
      (luts_read d.bound 0 w.luts (record { name = model_name; inputs = []; outputs = []; blocks = nodesOf }) (nodes ++ last) (bound-words d f) e))

  lines-plain : all_plain (blif_lines d w) ≡ true
  unfolding blif_lines all_plain plain plain_byte
  lines-plain =
      let named = design-named d f in
      let ins : all_plain d.inputs ≡ true = names_plain d.inputs named.inputs_named in
      let outs : all_plain (names_of d) ≡ true = names_plain (names_of d) named.outputs_named in
      let bound : all_plain d.bound ≡ true = names_plain d.bound named.bound-named in
      let frees : all_plain (free_of d) ≡ true = names_plain (free_of d) (free-named d.inputs d.bound named.inputs_named) in
      and_both (plain (print_names d.inputs)) (plain (print_names (names_of d)) && all_plain (luts ++ (nodes ++ last)))
      (printed_plain d.inputs ins)
      (and_both (plain (print_names (names_of d))) (all_plain (luts ++ (nodes ++ last)))
      (printed_plain (names_of d) outs)
      (all_plain_append luts (nodes ++ last)
      (luts-plain d.bound 0 w.luts bound)
      (all_plain_append nodes last (nodes-plain (free_of d) (names_of d) w.nodes frees outs) refl)))

  print_lines : lines (print_blif d w) ≡ blif_lines d w
  unfolding print_blif
  print_lines = lines_of_ended (blif_lines d w) (all_plain_unbroken (blif_lines d w) lines-plain)

  model_complete : once (driven_signals (model_of d w)) ≡ true → complete (just (model_of d w)) ≡ some (model_of d w)
  unfolding model_of
  model_complete h =
      let ins : filled d.inputs ≡ true = some-filled d.inputs f.inputs_right.filled in
      let outs : filled (names_of d) ≡ true = some-filled (names_of d) (omega (arith, f.some-output, names_count d)) in
      rw (ins, outs, h) refl

  pub text_read : once (driven_signals (model_of d w)) ≡ true → read_blif (print_blif d w) ≡ some (model_of d w)
  unfolding read_blif
  text_read h =
      ap (λ (ls : List (List ℕ)). pick (all_plain ls) (complete (read_model (word_lines ls))) none) print_lines
      ∙ ap (λ (t : Bool). pick t (complete (read_model (word_lines (blif_lines d w)))) none) lines-plain
      ∙ ap complete lines_read
      ∙ model_complete h
