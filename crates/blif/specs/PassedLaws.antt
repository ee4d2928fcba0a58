-- What the code puts down, block after block, for a design and a network that it holds is their text in BLIF. Assumes nothing.
use Rattle.std.specs.Prelude.{◌≡◌, refl, true, false, get_or, take}
use Rattle.std.proofs.Math.Path.{sym, ap, ap₂}
use Rattle.std.proofs.Common.{subst, ◌∙◌, arith, add-zero, zero-add, add-suc, suc-add}
use Rattle.std.proofs.Math.Bool.{Bool}
use mathlib.Core.List.{List, [], ◌∷◌, ◌++◌, map, append_assoc}
use Prim.Native.Nat.{ℕ, suc, ◌+◌, ◌^◌, ◌≤◌, ◌<◌}
use Rattle.std.proofs.Math.ListN.{length}
use Rattle.std.proofs.lemmas.List.{length-map}
use Rattle.limits.specs.Limits.{max_inputs}
use Rattle.bits.specs.Logic.{pick}
use Rattle.rows.specs.Row.{values_of}
use Rattle.text.specs.Bytes.{bytes, newline}
use Rattle.text.specs.Line.{ended_lines}
use Rattle.text.specs.EndedLaws.{ended_more, ended-append}
use Rattle.names.specs.Name.{Name}
use Rattle.names.specs.Names.{print_names}
use Rattle.names.specs.Pack.{name_of}
use Rattle.sheet.specs.Lines.{Output}
use Rattle.sheet.specs.Examine.{Design, output_names}
use Rattle.sheet.specs.declared.Sheet.{Sheet}
use Rattle.netsheet.specs.Answer.{Held}
use Rattle.netsheet.specs.declared.NetworkSheet.{NetworkSheet}
use Rattle.classes.specs.Columns.{free}
use Rattle.network.specs.Network.{Network, Node}
use Rattle.network.specs.Numbers.{numbers_of}
use Rattle.network.specs.LineAnswer.{Stands}
use Rattle.network.specs.NetworkFor.{node_at}
use Rattle.network.specs.TableBoundLaws.{node_narrow}
use Rattle.comparing.specs.DrawingLaws.{digit_stands}
use Rattle.network.specs.Shown.{item}
use Rattle.network.specs.HeldNameLaws.{held_name, bound-named}
use Rattle.blif.specs.Printer.{cell_name, row_line, row_lines, block, lut_blocks, node_blocks, blif_lines, print_blif}
use Rattle.emit.specs.Upto.{texts_upto}
use Rattle.blif.specs.Texts.{row_text, rows_text, block_text, digits_at, lut_text, node_text, head_text}
use Rattle.blif.specs.Ready.{LutsReady, NodesReady, Passed}
use Rattle.blif.specs.BlockLaws.{two-counted}
use Rattle.emit.specs.UptoLaws.{texts_from, upto_all}

-- ---- rows
ended-pick : (v : Bool) (l : List ℕ) (ls : List (List ℕ))
    → ended_lines (pick v (l ∷ ls) ls) ≡ pick v (l ++ (newline ∷ [])) [] ++ ended_lines ls
ended-pick true l ls = ended_more l ls
ended-pick false l ls = refl

rows_ended : (n r : ℕ) (ds : List Bool) (f : ℕ → Bool)
    → ((i : ℕ) → i < length ds → f (r + i) ≡ get_or ds i false)
    → texts_from (row_text n f) (length ds) r ≡ ended_lines (row_lines n r ds)
unfolding texts_from row_lines ended_lines
rows_ended n r [] f h = refl
rows_ended n r (v ∷ ds) f h =
    let here : f r ≡ v = ap f (sym (add-zero r)) ∙ h 0 (omega arith) in
    let later : (i : ℕ) → i < length ds → f (suc r + i) ≡ get_or ds i false
    = λ i l. ap f (suc-add r i ∙ sym (add-suc r i)) ∙ h (suc i) (omega arith) in
    ap₂ (λ (b : Bool) (t : List ℕ). pick b (row_line (values_of n r) ++ (newline ∷ [])) [] ++ t) here (rows_ended n (suc r) ds f later)
    ∙ sym (ended-pick v (row_line (values_of n r)) (row_lines n (suc r) ds))

-- ---- one block, whose digits stand in t
module _ (t : List ℕ) (at : ℕ) (is : List Name) (n : Name) (ds : List Bool) (s : Stands t (2 ^ length is) at ds) where
  block-ended : block_text is n (digits_at t at) ≡ ended_lines (block is n ds)
  unfolding block_text rows_text block ended_lines
  block-ended =
      let f : ℕ → Bool = digits_at t at in
      let e : 2 ^ length is ≡ length ds = sym s.counted in
      let rows : texts_upto (row_text (length is) f) (2 ^ length is) ≡ ended_lines (row_lines (length is) 0 ds)
      = ap (texts_upto (row_text (length is) f)) e ∙ upto_all (row_text (length is) f) (length ds)
      ∙ rows_ended (length is) 0 ds f (λ i l. ap f (zero-add i) ∙ digit_stands s i (omega (arith, e))) in
      ap (λ (u : List ℕ). bytes ".names" ++ (print_names (is ++ (n ∷ [])) ++ (newline ∷ u))) rows
      ∙ sym (append_assoc (bytes ".names") (print_names (is ++ (n ∷ []))) (newline ∷ ended_lines (row_lines (length is) 0 ds)))

-- ---- blocks one after another
luts-ended : (bs : List Name) (f : ℕ → List ℕ) (i : ℕ) (ts : List (List Bool))
    → ((j : ℕ) → j < length ts → f (i + j) ≡ ended_lines (block bs (cell_name (i + j)) (get_or ts j [])))
    → texts_from f (length ts) i ≡ ended_lines (lut_blocks bs i ts)
unfolding texts_from lut_blocks ended_lines
luts-ended bs f i [] h = refl
luts-ended bs f i (t ∷ ts) h =
    let e : i + 0 ≡ i = add-zero i in
    let here : f i ≡ ended_lines (block bs (cell_name i) t)
    = subst (λ (k : ℕ). f k ≡ ended_lines (block bs (cell_name k) t)) e (h 0 (omega arith)) in
    let later : (j : ℕ) → j < length ts → f (suc i + j) ≡ ended_lines (block bs (cell_name (suc i + j)) (get_or ts j []))
    = λ j l.
    subst (λ (k : ℕ). f k ≡ ended_lines (block bs (cell_name k) (get_or ts j []))) (add-suc i j ∙ sym (suc-add i j)) (h (suc j) (omega arith)) in
    ap₂ (λ (s u : List ℕ). s ++ u) here (luts-ended bs f (suc i) ts later)
    ∙ sym (ended-append (block bs (cell_name i) t) (lut_blocks bs (suc i) ts))

-- the block of a node with a name
abbrev node_block : List Name → Name → Node → List (List ℕ)
node_block fs n x = block (map cell_name x.reads ++ fs) n x.digits

nodes-ended : (fs : List Name) (f : ℕ → List ℕ) (o : ℕ) (ns : List Name) (xs : List Node)
    → length ns ≡ length xs
    → ((j : ℕ) → j < length xs → f (o + j) ≡ ended_lines (node_block fs (get_or ns j []) (node_at xs j)))
    → texts_from f (length xs) o ≡ ended_lines (node_blocks fs ns xs)
unfolding texts_from node_blocks ended_lines
nodes-ended fs f o [] [] e h = refl
nodes-ended fs f o [] (x ∷ xs) e h = absurd (omega arith)
nodes-ended fs f o (n ∷ ns) [] e h = refl
nodes-ended fs f o (n ∷ ns) (x ∷ xs) e h =
    let here : f o ≡ ended_lines (node_block fs n x) = ap f (sym (add-zero o)) ∙ h 0 (omega arith) in
    let later : (j : ℕ) → j < length xs → f (suc o + j) ≡ ended_lines (node_block fs (get_or ns j []) (node_at xs j))
    = λ j l. ap f (suc-add o j ∙ sym (add-suc o j)) ∙ h (suc j) (omega arith) in
    ap₂ (λ (s u : List ℕ). s ++ u) here (nodes-ended fs f (suc o) ns xs (omega arith) later)
    ∙ sym (ended-append (node_block fs n x) (node_blocks fs ns xs))

-- ---- the lines before the blocks
abbrev head_lines : List Name → List Name → List (List ℕ)
head_lines is os = bytes ".model panel" ∷ (bytes ".inputs" ++ print_names is) ∷ (bytes ".outputs" ++ print_names os) ∷ []

head-ended : (is os : List Name) → head_text is os ≡ ended_lines (head_lines is os)
unfolding head_text ended_lines
head-ended is os =
    ap (λ (t : List ℕ). bytes ".model panel\n.inputs" ++ t)
    (append_assoc (print_names is) (newline ∷ []) (bytes ".outputs" ++ (print_names os ++ (newline ∷ []))))

-- ---- the whole text
module _ (t : List ℕ) (k : Sheet) (n : NetworkSheet) (d : Design) (w : Network) (p : Passed t k n d w) where
  abbrev frees : List Name
  frees = free d.inputs d.bound

  abbrev held : Held t (length d.bound) (length frees) w n.luts n.lutat n.reads n.nodeat
  held = p.drawing.placed.held

  -- node o, by the code's number of outputs
  node_there : (o : ℕ) → o < k.outputs → o < length w.nodes
  node_there o l =
      let e : length w.nodes ≡ length d.outputs = p.drawing.placed.nodes-counted in
      let g : k.outputs ≡ length d.outputs = p.drawing.holds.outputs_counted in
      omega arith

  pub bound-shown : {bs : List Name} → bs ≡ map (λ (q : ℕ). name_of (item k.names q)) (take k.bounds k.bound) → bs ≡ d.bound
  bound-shown e = e ∙ bound-named d k p.drawing.holds p.drawing.proper

  pub free-shown : {bs fs : List Name} → bs ≡ d.bound → fs ≡ free (map name_of (take k.inputs k.names)) bs → fs ≡ frees
  free-shown b e = e ∙ ap₂ free p.drawing.holds.inputs_named b

  pub luts_ready : (b : ℕ) → b ≡ k.bounds → LutsReady t b n.luts n.lutat
  luts_ready b e =
      let g : b ≡ length d.bound = e ∙ p.drawing.holds.bound-counted in
      record {
        few = held.few;
        stand = λ i l. subst (λ (c : ℕ). get_or n.lutat i 0 + 2 ^ c ≤ length t) (sym g) (held.luts_stand i l).inside;
      }

  -- question 11: a node reads no more tables than there are bound inputs
  node_few : (o : ℕ) → o < k.outputs → length (node_at w.nodes o).reads + length frees ≤ max_inputs
  node_few o l = node_narrow d w p.drawing.proper p.within o (node_there o l)

  pub nodes_ready : (f : ℕ) → f ≡ length frees → NodesReady t f n.luts n.reads n.nodeat k.outputs
  nodes_ready f e =
      record {
        few = held.few;
        each = λ o l.
            (let h = held.nodes_stand o (node_there o l) in
            let same : length (node_at w.nodes o).reads + length frees ≡ length (numbers_of n.luts (get_or n.reads o 0)) + f
            = ap₂ (λ (a b : ℕ). a + b) (ap length (sym h.reading)) (sym e) in
            record {
              narrow = subst (λ (m : ℕ). m ≤ max_inputs) same (node_few o l);
              stands = subst (λ (m : ℕ). get_or n.nodeat o 0 + 2 ^ m ≤ length t) same h.stands.inside;
            });
      }

  lut_is : (i : ℕ) → i < n.luts → lut_text t d.bound n.lutat i ≡ ended_lines (block d.bound (cell_name i) (get_or w.luts i []))
  lut_is i l = block-ended t (get_or n.lutat i 0) d.bound (cell_name i) (get_or w.luts i []) (held.luts_stand i l)

  luts_are : texts_upto (lut_text t d.bound n.lutat) n.luts ≡ ended_lines (lut_blocks d.bound 0 w.luts)
  luts_are =
      let f : ℕ → List ℕ = lut_text t d.bound n.lutat in
      let e : n.luts ≡ length w.luts = held.counted in
      ap (texts_upto f) e ∙ upto_all f (length w.luts)
      ∙ luts-ended d.bound f 0 w.luts
      (λ j l.
      subst (λ (q : ℕ). f q ≡ ended_lines (block d.bound (cell_name q) (get_or w.luts j []))) (sym (zero-add j))
      (lut_is j (omega (arith, e))))

  abbrev node_text_at : ℕ → List ℕ
  node_text_at o = node_text t frees k.outs n.luts n.reads n.nodeat o

  node_is : (o : ℕ) → o < k.outputs
      → node_text_at o ≡ ended_lines (node_block frees (get_or (output_names d.outputs) o []) (node_at w.nodes o))
  node_is o l =
      let x : Node = node_at w.nodes o in
      let h = held.nodes_stand o (node_there o l) in
      let is : List Name = map cell_name x.reads ++ frees in
      let named : name_of (item k.outs o) ≡ get_or (output_names d.outputs) o []
      = held_name k.outs k.outputs o l ∙ ap (λ (ns : List Name). get_or ns o []) p.drawing.holds.outputs_named in
      let count : length x.reads + length frees ≡ length is = two-counted x.reads frees refl refl in
      let stands : Stands t (2 ^ length is) (get_or n.nodeat o 0) x.digits
      = subst (λ (m : ℕ). Stands t (2 ^ m) (get_or n.nodeat o 0) x.digits) count h.stands in
      ap₂ (λ (js : List ℕ) (m : Name). block_text (map cell_name js ++ frees) m (digits_at t (get_or n.nodeat o 0))) h.reading named
      ∙ block-ended t (get_or n.nodeat o 0) is (get_or (output_names d.outputs) o []) x.digits stands

  nodes_are : texts_upto node_text_at k.outputs ≡ ended_lines (node_blocks frees (output_names d.outputs) w.nodes)
  nodes_are =
      let e : length w.nodes ≡ length d.outputs = p.drawing.placed.nodes-counted in
      let g : k.outputs ≡ length d.outputs = p.drawing.holds.outputs_counted in
      let c : length (output_names d.outputs) ≡ length w.nodes = length-map d.outputs (λ (o : Output). o.name) ∙ sym e in
      ap (texts_upto node_text_at) (g ∙ sym e) ∙ upto_all node_text_at (length w.nodes)
      ∙ nodes-ended frees node_text_at 0 (output_names d.outputs) w.nodes c
      (λ j l. ap node_text_at (zero-add j) ∙ node_is j (omega (arith, e, g)))

  -- the parts that the code puts down, with the names that it holds
  pub text_is : (bs fs : List Name)
      → bs ≡ d.bound
      → fs ≡ frees
      → head_text (map name_of (take k.inputs k.names)) (map name_of (take k.outputs k.outs))
      ++ (texts_upto (lut_text t bs n.lutat) n.luts
      ++ (texts_upto (node_text t fs k.outs n.luts n.reads n.nodeat) k.outputs ++ bytes ".end\n"))
      ≡ print_blif d w
  unfolding print_blif blif_lines ended_lines
  text_is bs fs eb ef =
      let ls : List (List ℕ) = lut_blocks d.bound 0 w.luts in
      let ns : List (List ℕ) = node_blocks frees (output_names d.outputs) w.nodes in
      let holds = p.drawing.holds in
      let head = ap₂ head_text holds.inputs_named holds.outputs_named ∙ head-ended d.inputs (output_names d.outputs) in
      let luts = ap (λ (b : List Name). texts_upto (lut_text t b n.lutat) n.luts) eb ∙ luts_are in
      let nodes = ap (λ (f : List Name). texts_upto (node_text t f k.outs n.luts n.reads n.nodeat) k.outputs) ef ∙ nodes_are in
      let blocks = ap₂ (λ (s u : List ℕ). s ++ (u ++ bytes ".end\n")) luts nodes in
      ap₂ (λ (s u : List ℕ). s ++ u) head
      (blocks ∙ ap (λ (u : List ℕ). ended_lines ls ++ u) (sym (ended-append ns (bytes ".end" ∷ [])))
      ∙ sym (ended-append ls (ns ++ (bytes ".end" ∷ []))))
      ∙ sym (ended-append (head_lines d.inputs (output_names d.outputs)) (ls ++ (ns ++ (bytes ".end" ∷ []))))
