-- A design and a network as the code holds them: what the code may read, and that the digits set in row order are the
-- network's values. Assumes nothing.
use Rattle.std.specs.Prelude.{◌≡◌, refl, Bool, true, false, List, [], ◌∷◌, ◌++◌, map, ℕ, ◌+◌, ◌*◌, ◌^◌, ◌-◌, ◌≤◌, ◌<◌, get_or, drop}
use Rattle.std.proofs.Common.{sym, ap₂, ◌∙◌, subst, arith, add_assoc, length-append, get_or-take, get_or-drop, pow_pos}
use Rattle.std.proofs.Math.Path.{ap}
use Rattle.std.proofs.Math.ListN.{length, get_or-map}
use Rattle.std.proofs.lemmas.List.{length-map}
use Rattle.rows.specs.Row.{row_of, values_of}
use Rattle.rows.specs.RowLaws.{row_lt, row_values, length_values}
use Rattle.rows.specs.Digits.{digit}
use Rattle.sheet.specs.Examine.{Design}
use Rattle.sheet.specs.declared.Sheet.{Sheet}
use Rattle.classes.specs.Columns.{join_row, vertex_of, free_row_of, vertex_count, free_count}
use Rattle.classes.specs.JoinLaws.{join-small, join-sum, join_parts, vertex-lt, free_row_lt}
use Rattle.classes.specs.declared.Shape.{Shape}
use Rattle.network.specs.Network.{Network}
use Rattle.network.specs.Printer.{print_digits}
use Rattle.network.specs.LineAnswer.{Stands}
use Rattle.network.specs.Value.{network_on}
use Rattle.netsheet.specs.Answer.{frees}
use Rattle.serving.specs.NetworkCore.{node_of}
use Rattle.network.specs.Value.{lut_at}
use Rattle.serving.specs.Tells.{node_at_lem}
use Rattle.serving.specs.Compose.{row-append}
use Rattle.serving.specs.TheoremA.{parts_of}
use Rattle.comparing.specs.Code.{is_one, one_at, code_at}
use Rattle.network.specs.NumbersLaws.{map-numbers}
use Rattle.comparing.specs.Filling.{row_at, Ready, Filled}
use Rattle.comparing.specs.Drawing.{Places, Drawing}

-- ---- digits that stand in a text
printed_back : (ds : List Bool) → map is_one (map digit ds) ≡ ds
printed_back [] = refl
printed_back (true ∷ ds) = ap (λ (l : List Bool). true ∷ l) (printed_back ds)
printed_back (false ∷ ds) = ap (λ (l : List Bool). false ∷ l) (printed_back ds)

pub digit_stands : {t : List ℕ} {n at : ℕ} {ds : List Bool} → Stands t n at ds → (i : ℕ) → i < n → one_at t (at + i) ≡ get_or ds i false
unfolding print_digits
digit_stands {t} {n} {at} {ds} s i h =
    ap is_one (sym (get_or-drop at t i 0) ∙ sym (get_or-take n (drop at t) i 0 h) ∙ ap (λ (l : List ℕ). get_or l i 0) s.printed)
    ∙ sym (get_or-map is_one (map digit ds) i 0)
    ∙ ap (λ (l : List Bool). get_or l i false) (printed_back ds)

module _ {d : Design} {w : Network} {t : List ℕ} {k : Sheet} {n : Places} {sh : Shape} (h : Drawing d w t k n sh) where
  -- the code of a vertex is the row of the values of the tables that the output reads
  code_is : (o x : ℕ) → o < length d.outputs → x < sh.vertices
      → code_at t n.lutat (get_or n.reads o 0) x n.luts ≡ row_of (map (λ (i : ℕ). lut_at w i x) (node_of w o).reads)
  unfolding code_at
  code_is o x l a =
      let r = h.placed in
      let here : o < length w.nodes = omega (arith, r.nodes-counted) in
      let e : x < vertex_count d.bound = omega (arith, h.shaped.vertices) in
      ap row_of
      (map-numbers (λ (i : ℕ). one_at t (get_or n.lutat i 0 + x)) (λ (i : ℕ). lut_at w i x) n.luts (get_or n.reads o 0)
      (λ i b. digit_stands (r.held.luts_stand i b) x e)
      ∙ ap (map (λ (i : ℕ). lut_at w i x)) (r.held.nodes_stand o here).reading)

  -- the place of a digit in a node's table
  place_is : (o x y : ℕ) → o < length d.outputs → x < sh.vertices → y < sh.frees
      → row_of (map (λ (i : ℕ). lut_at w i x) (node_of w o).reads ++ values_of (frees d) y)
      ≡ code_at t n.lutat (get_or n.reads o 0) x n.luts * sh.frees + y
  place_is o x y l a b =
      let vs : List Bool = map (λ (i : ℕ). lut_at w i x) (node_of w o).reads in
      let below : y < 2 ^ frees d = omega (arith, h.shaped.free_rows) in
      row-append vs (values_of (frees d) y)
      ∙ ap₂ (λ (m z : ℕ). row_of vs * 2 ^ m + z) (length_values (frees d) y) (row_values (frees d) y below)
      ∙ ap₂ (λ (c f : ℕ). c * f + y) (sym (code_is o x l a)) (sym h.shaped.free_rows)

  place_lt : (o x y : ℕ) → o < length d.outputs → x < sh.vertices → y < sh.frees
      → code_at t n.lutat (get_or n.reads o 0) x n.luts * sh.frees + y < 2 ^ (length (node_of w o).reads + frees d)
  place_lt o x y l a b =
      let vs : List Bool = map (λ (i : ℕ). lut_at w i x) (node_of w o).reads in
      let long : length (vs ++ values_of (frees d) y) ≡ length (node_of w o).reads + frees d
      = length-append vs (values_of (frees d) y)
      ∙ ap₂ ◌+◌ (length-map (node_of w o).reads (λ (i : ℕ). lut_at w i x)) (length_values (frees d) y) in
      subst (λ (z : ℕ). z < 2 ^ (length (node_of w o).reads + frees d)) (place_is o x y l a b)
      (subst (λ (m : ℕ). row_of (vs ++ values_of (frees d) y) < 2 ^ m) long (row_lt (vs ++ values_of (frees d) y)))

  row_is : (x y : ℕ) → x < sh.vertices → y < sh.frees → row_at sh x y ≡ join_row d.inputs d.bound x y
  row_is x y a b =
      join-sum d.inputs d.bound x y (h.shaped.at_vertex x a) (h.shaped.at_free y b)

  -- ---- what the code may read and set
  pub drawing_ready : (o : ℕ) → o < length d.outputs
      → Ready t n.lutat (get_or n.reads o 0) n.luts (get_or n.nodeat o 0) sh
  drawing_ready o l =
      let r = h.placed in
      let here : o < length w.nodes = omega (arith, r.nodes-counted) in
      let table = (r.held.nodes_stand o here).stands.inside in
      record {
        few_luts = r.held.few;
        few_vertices = h.shaped.few_vertices;
        few_frees = h.shaped.few_free;
        luts_readable = λ i x a b.
            (let s = (r.held.luts_stand i a).inside in
            omega (arith, h.shaped.vertices));
        readable = λ x a. room o x l a table;
        rows = λ x y a b.
            omega (arith, row_is x y a b, join-small d.inputs d.bound x y h.proper.few_inputs);
      }
    where
      room : (o x : ℕ) → o < length d.outputs → x < sh.vertices
          → get_or n.nodeat o 0 + 2 ^ (length (node_of w o).reads + frees d) ≤ length t
          → get_or n.nodeat o 0 + code_at t n.lutat (get_or n.reads o 0) x n.luts * sh.frees + sh.frees ≤ length t
      room o x l a s =
          let some : 0 < sh.frees = omega (arith, h.shaped.free_rows, pow_pos (frees d)) in
          let p = place_lt o x (sh.frees - 1) l a (omega arith) in
          omega arith

  -- ---- the digits are the network's values
  value_is : (o x y : ℕ) → o < length d.outputs → x < sh.vertices → y < sh.frees
      → one_at t (get_or n.nodeat o 0 + code_at t n.lutat (get_or n.reads o 0) x n.luts * sh.frees + y) ≡ network_on d w o (row_at sh x y)
  value_is o x y l a b =
      let r = h.placed in
      let here : o < length w.nodes = omega (arith, r.nodes-counted) in
      let c : ℕ = code_at t n.lutat (get_or n.reads o 0) x n.luts in
      let e : x < vertex_count d.bound = omega (arith, h.shaped.vertices) in
      let g : y < free_count d.inputs d.bound = omega (arith, h.shaped.free_rows) in
      ap (one_at t) (add_assoc (get_or n.nodeat o 0) (c * sh.frees) y)
      ∙ digit_stands (r.held.nodes_stand o here).stands (c * sh.frees + y) (place_lt o x y l a b)
      ∙ ap (λ (i : ℕ). get_or (node_of w o).digits i false) (sym (place_is o x y l a b))
      ∙ sym (node_at_lem d w (parts_of d.inputs d.bound h.proper.parted) o x y e g)
      ∙ ap (network_on d w o) (sym (row_is x y a b))

  pub filled_right : (o : ℕ) (list : List ℕ) → o < length d.outputs
      → Filled t n.lutat (get_or n.reads o 0) n.luts (get_or n.nodeat o 0) sh sh.vertices list
      → (q : ℕ)
      → q < 2 ^ length d.inputs
      → one_at list q ≡ network_on d w o q
  filled_right o list l s q b =
      let x : ℕ = vertex_of d.inputs d.bound q in
      let y : ℕ = free_row_of d.inputs d.bound q in
      let e : x < sh.vertices = omega (arith, h.shaped.vertices, vertex-lt d.inputs d.bound q) in
      let g : y < sh.frees = omega (arith, h.shaped.free_rows, free_row_lt d.inputs d.bound q) in
      let p : row_at sh x y ≡ q = row_is x y e g ∙ join_parts d.inputs d.bound h.proper.parted q b in
      subst (λ (z : ℕ). one_at list z ≡ network_on d w o z) p
      (s.right (network_on d w o) (λ x y a b. value_is o x y l a b) x y e g)
