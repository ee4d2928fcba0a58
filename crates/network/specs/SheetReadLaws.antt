-- From a spelling of a network: it passes question 10, and says that network. Assumes nothing.
use Rattle.std.specs.Prelude.{◌≡◌, Bool, List, [], ◌∷◌, ◌++◌, ℕ, suc, ◌+◌, ◌^◌, ◌≤◌, ◌<◌, length, get_or, drop}
use Rattle.std.proofs.Math.Path.{refl, ap}
use Rattle.std.proofs.Common.{sym, ◌∙◌, append_assoc, append-nil, arith, length-append, drop-cons, le-leb}
use Rattle.std.proofs.Math.Bool.{true}
use Rattle.std.proofs.Math.Option.{some}
use Rattle.bits.specs.Logic.{pick}
use Rattle.limits.specs.Limits.{max_cells, max_network, first_lut}
use Rattle.text.specs.BytesLaws.{same_self}
use Rattle.text.specs.Line.{lines, ends_line}
use Rattle.names.specs.Name.{Name}
use Rattle.sheet.specs.Examine.{Design}
use Rattle.network.specs.Network.{Network, Node}
use Rattle.network.specs.Printer.{network_line}
use Rattle.network.specs.Reader.{read_lut}
use Rattle.network.specs.Examine.{at_network, at_luts, at_node, misspelled, next, with_lut, with_node, ask_line, network, ask_lines, nothing, read_network}
use Rattle.network.specs.NetworkFor.{NodeFits, node_at, NetworkFor, Named}
use Rattle.network.specs.Parts.{free_of, names_of, node_read, node_place, last_lines, with_nodes, with_all}
use Rattle.network.specs.Spelling.{NodeSpelled, LutsSpelled, no_lut, one_lut, NodesSpelled, no_node, one-node, LinesSpelled, Spells}
use Rattle.network.specs.LineLaws.{lut_read_of_spelling, node_read_of_spelling}
use Rattle.network.specs.PartLaws.{free-named, names_count, output-named, place_node, place_count, node_no_lut}
use Rattle.network.specs.SpellingLaws.{spells_lines, spells_some, spells_ends}
use Rattle.network.specs.StepLaws.{line_next, last_read, node_next, lut_next, lut_none, same_lines}

-- the first of the names from place o on, and the others
names_left : (ms : List Name) (o : ℕ) (n : Name) (ns : List Name)
    → o < length ms
    → drop o ms ≡ n ∷ ns
    → (n ≡ get_or ms o []) × (drop (suc o) ms ≡ ns)
names_left ms o n ns h e =
    let f : n ∷ ns ≡ get_or ms o [] ∷ drop (suc o) ms = sym e ∙ drop-cons ms o [] h in
    (cc, cc)

module _ (d : Design) (named : Named d) where
  -- ---- line by line
  node-reads : (v : Network) (u o : ℕ) (x : Node) (l : List ℕ)
      → length v.luts ≡ u
      → u ≤ max_cells
      → o < length d.outputs
      → NodeFits (free_of d) u x
      → NodeSpelled (get_or (names_of d) o []) (free_of d) x l
      → node_read d v o l ≡ some x
  node-reads v u o x l q m i f p =
      rw q
      (node_read_of_spelling (get_or (names_of d) o []) (free_of d) u l x (output-named d o named.outputs_named i)
      (free-named d.inputs d.bound named.inputs_named) (omega arith) f p)

  nodes_read : {ns : List Name} {xs : List Node} {ls : List (List ℕ)}
      → NodesSpelled (free_of d) ns xs ls
      → (v : Network) (u o n : ℕ)
      → drop o (names_of d) ≡ ns
      → length v.luts ≡ u
      → u ≤ max_cells
      → o + length xs ≡ length d.outputs
      → ((k : ℕ) → k < length xs → NodeFits (free_of d) u (node_at xs k))
      → ask_lines d true (node_place d o) v n (ls ++ last_lines u) ≡ network (with_nodes v xs)
  nodes_read no_node v u o n e q m c f =
      rw (place_count d o (omega arith), ← q)
      (last_read d v n ∙ ap (λ (xs : List Node). network (record { luts = v.luts; nodes = xs })) (sym (append-nil v.nodes)))
  nodes_read (one-node {n = a} {ns = others} {x = x} {xs = xs} {l = l} {ls = ls} p s) v u o n e q m c f =
      let i : o < length d.outputs = omega arith in
      let (g, h) = names_left (names_of d) o a others (omega (arith, names_count d)) e in
      rw (place_node d o i)
      (line_next d (at_node o) (node_place d (suc o)) v (with_node v x) n l (ls ++ last_lines u)
      (node_next d v o l x (node-reads v u o x l q m i (f 0 (omega arith)) (rw g at p)))
      ∙ nodes_read s (with_node v x) u (suc o) (suc n) h q m (omega arith) (λ k j. f (suc k) (omega arith))
      ∙ ap (λ (ys : List Node). network (record { luts = v.luts; nodes = ys })) (append_assoc v.nodes (x ∷ []) xs))

  -- a node line is no lut line, in no spelling
  spelled_no_lut : (v : Network) (n : Name) (x : Node) (l : List ℕ)
      → NodeSpelled n (free_of d) x l
      → ask_line d at_luts v l ≡ ask_line d (at_node 0) v l
  spelled_no_lut v n x l p =
      let i = length v.luts in
      lut_none d v l (ap (read_lut d.bound i) p.is_line ∙ node_no_lut d.bound i p.name p.names x)

  first_node_read : {ns : List Name} {xs : List Node} {ls : List (List ℕ)}
      → NodesSpelled (free_of d) ns xs ls
      → (v : Network) (u n : ℕ)
      → names_of d ≡ ns
      → length v.luts ≡ u
      → u ≤ max_cells
      → length xs ≡ length d.outputs
      → ((k : ℕ) → k < length xs → NodeFits (free_of d) u (node_at xs k))
      → ask_lines d true at_luts v n (ls ++ last_lines u) ≡ network (with_nodes v xs)
  first_node_read no_node v u n e q m c f = absurd (omega (arith, named.some-output))
  first_node_read (one-node {n = a} {x = x} {l = l} {ls = ls} p s) v u n e q m c f =
      same_lines d at_luts (at_node 0) v n l (ls ++ last_lines u) (spelled_no_lut v a x l p)
      ∙ ap (λ r. ask_lines d true r v n (l ∷ (ls ++ last_lines u))) (sym (place_node d 0 named.some-output))
      ∙ nodes_read (one-node p s) v u 0 n e q m (omega arith) f

  luts_read : {u : ℕ} {ts : List (List Bool)} {ls : List (List ℕ)}
      → LutsSpelled d.bound u ts ls
      → {xs : List Node} {ks : List (List ℕ)}
      → NodesSpelled (free_of d) (names_of d) xs ks
      → (v : Network) (m n : ℕ)
      → length v.luts ≡ u
      → u + length ts ≡ m
      → m ≤ max_cells
      → ((i : ℕ) → i < length ts → length (get_or ts i []) ≡ 2 ^ length d.bound)
      → length xs ≡ length d.outputs
      → ((k : ℕ) → k < length xs → NodeFits (free_of d) m (node_at xs k))
      → ask_lines d true at_luts v n (ls ++ (ks ++ last_lines m)) ≡ network (with_all v ts xs)
  luts_read no_lut {xs} s v m n q c b t k f =
      first_node_read s v m n refl (omega arith) b k f
      ∙ ap (λ (ys : List (List Bool)). network (record { luts = ys; nodes = v.nodes ++ xs })) (sym (append-nil v.luts))
  luts_read (one_lut {i = u} {t = y} {ts = ts} {l = l} {ls = ls} p r) {xs} {ks} s v m n q c b t k f =
      line_next d at_luts at_luts v (with_lut v y) n l (ls ++ (ks ++ last_lines m))
      (lut_next d v l y (omega arith) (rw q (lut_read_of_spelling d.bound u l y named.bound-named (t 0 (omega arith)) p)))
      ∙ luts_read r s (with_lut v y) m (suc n) (omega (arith, length-append v.luts (y ∷ []))) (omega arith) b
      (λ i j. t (suc i) (omega arith)) k f
      ∙ ap (λ (ys : List (List Bool)). network (record { luts = ys; nodes = v.nodes ++ xs })) (append_assoc v.luts (y ∷ []) ts)

  lines_read : (w : Network) (ls : List (List ℕ)) → NetworkFor d w → LinesSpelled d w ls → ask_lines d true at_network nothing 1 ls ≡ network w
  unfolding ask_line
  lines_read w ls f s =
      ap (ask_lines d true at_network nothing 1) s.are_lines
      ∙ line_next d at_network at_luts nothing nothing 1 network_line (s.luts ++ (s.nodes ++ last_lines (length w.luts)))
      (ap (λ (x : Bool). pick x (next at_luts nothing) misspelled) (same_self network_line))
      ∙ luts_read s.luts_spelled s.nodes_spelled nothing (length w.luts) first_lut refl (omega arith)
      f.few_luts f.lut_digits f.node_each f.node_fits

-- ---- the sheet
read_by_lines : (d : Design) (t : List ℕ)
    → 0 < length t
    → length t ≤ max_network
    → ends_line t ≡ true
    → read_network d t ≡ ask_lines d true at_network nothing 1 (lines t)
unfolding read_network
read_by_lines d t h k e = rw (le-leb 1 (length t) h, le-leb (length t) max_network k, e) refl

pub said_of_spelling : (d : Design) (t : List ℕ) (w : Network)
    → Named d
    → NetworkFor d w
    → Spells d w t
    → length t ≤ max_network
    → read_network d t ≡ network w
said_of_spelling d t w h f s k =
    read_by_lines d t (spells_some d h w t s) k (spells_ends d h w t s) ∙ lines_read d h w (lines t) f (spells_lines d h w t s)
