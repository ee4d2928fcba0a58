-- From a sheet that passes question 10: what it says is well formed, and the sheet is a spelling of it. Assumes nothing.
use Rattle.std.specs.Prelude.{◌≡◌, Bool, leb, length, get_or, drop}
use Rattle.std.proofs.Math.Path.{refl, subst}
use Rattle.std.proofs.Common.{sym, ap, ◌∙◌, arith, drop_of_length-le, drop-cons, leb-true}
use Rattle.std.proofs.Math.Bool.{true, false}
use mathlib.Core.List.{List, [], ◌∷◌, ◌++◌, append_assoc, append-nil}
use Rattle.std.proofs.Math.Option.{Option, some, none}
use Prim.Native.Nat.{ℕ, zero, suc, ◌+◌, ◌^◌, ◌≤◌, ◌<◌}
use Rattle.std.proofs.Math.Decide.{dec_lt}
use Rattle.std.proofs.Math.ListN.{length-append}
use Rattle.bits.specs.Logic.{pick}
use Rattle.bits.specs.LogicLaws.{and_right}
use Rattle.limits.specs.Limits.{max_cells, max_network}
use Rattle.text.specs.Line.{lines, ends_line}
use Rattle.text.specs.EndedLaws.{ended_of_lines}
use Rattle.names.specs.Name.{Name}
use Rattle.sheet.specs.Examine.{Design, within}
use Rattle.network.specs.Network.{Network, Node}
use Rattle.network.specs.Printer.{network_line}
use Rattle.network.specs.Reader.{read_lut}
use Rattle.network.specs.Examine.{Place, at_network, at_luts, at_node, Step, misspelled, next, with_lut, with_node}
use Rattle.network.specs.Examine.{ask_line, network, bad_line, follow, ask_lines, nothing, read_network}
use Rattle.network.specs.NetworkFor.{NodeFits, node_at, NetworkFor}
use Rattle.network.specs.Parts.{free_of, names_of, node_read, node_place, last_lines, with_nodes, with_all}
use Rattle.network.specs.Spelling.{LutsSpelled, no_lut, one_lut, NodesSpelled, no_node, one-node, LinesSpelled, Spells}
use Rattle.network.specs.LineLaws.{lut_spelling_of_read, node_spelling_of_read}
use Rattle.network.specs.PartLaws.{names_count, place_node, place_count}
use Rattle.network.specs.StepLaws.{bad_network, line_next, line_bad, fixed_line, last-said, node_next, node_bad, lut_next, lut_many, lut_none, same_lines}

-- what holds of the first and of each other holds of each
each : {A : Type 0} (P : A → Type 0) (z a : A) (l : List A)
    → P a
    → ((k : ℕ) → k < length l → P (get_or l k z))
    → (k : ℕ)
    → k < length (a ∷ l)
    → P (get_or (a ∷ l) k z)
each P z a l p q zero h = p
each P z a l p q (suc k) h = q k (omega arith)

module _ (d : Design) (some-output : 1 ≤ length d.outputs) where
  -- ---- from the node of output o on
  -- what the lines say, where v is said before, and m nodes are left
  record NodesSaid (v : Network) (u o m : ℕ) (ls : List (List ℕ)) (w : Network) : Type 0 where
    pub xs : List Node
    pub nodes : List (List ℕ)
    pub counted : length xs ≡ m
    pub fits : (k : ℕ) → k < length xs → NodeFits (free_of d) u (node_at xs k)
    pub nodes_spelled : NodesSpelled (free_of d) (drop o (names_of d)) xs nodes
    pub lines_are : ls ≡ nodes ++ last_lines u
    pub said : with_nodes v xs ≡ w

  no_node_said : (v : Network) (u o n : ℕ) (ls : List (List ℕ)) (w : Network)
      → length v.luts ≡ u
      → length d.outputs ≤ o
      → ask_lines d true (node_place d o) v n ls ≡ network w
      → NodesSaid v u o 0 ls w
  no_node_said v u o n ls w q c e =
      let (i, j) = last-said d v w n ls (rw (place_count d o c) at e) in
      record {
        xs = [];
        nodes = [];
        counted = refl;
        fits = λ k h. absurd (omega arith);
        nodes_spelled =
            subst (λ (ns : List Name). NodesSpelled (free_of d) ns [] [])
            (sym (drop_of_length-le (names_of d) {i = o} (omega (arith, names_count d)))) no_node;
        lines_are = i ∙ ap last_lines q;
        said = ap (λ (xs : List Node). record { luts = v.luts; nodes = xs }) (append-nil v.nodes) ∙ j;
      }

  one_node_said : (v : Network) (u o m : ℕ) (l : List ℕ) (ls : List (List ℕ)) (w : Network) (x : Node)
      → length v.luts ≡ u
      → o < length d.outputs
      → node_read d v o l ≡ some x
      → NodesSaid (with_node v x) u (suc o) m ls w
      → NodesSaid v u o (suc m) (l ∷ ls) w
  one_node_said v u o m l ls w x q c r s =
      let (f, p) = node_spelling_of_read (get_or (names_of d) o []) (free_of d) u l x (rw q at r) in
      record {
        xs = x ∷ s.xs;
        nodes = l ∷ s.nodes;
        counted = ap suc s.counted;
        fits = each (NodeFits (free_of d) u) (record { reads = []; digits = [] }) x s.xs f s.fits;
        nodes_spelled =
            subst (λ (ns : List Name). NodesSpelled (free_of d) ns (x ∷ s.xs) (l ∷ s.nodes))
            (sym (drop-cons (names_of d) o [] (omega (arith, names_count d)))) (one-node p s.nodes_spelled);
        lines_are = ap (λ (ys : List (List ℕ)). l ∷ ys) s.lines_are;
        said =
            ap (λ (ys : List Node). record { luts = v.luts; nodes = ys }) (sym (append_assoc v.nodes (x ∷ []) s.xs)) ∙ s.said;
      }

  node_by : (r : Option Node) (v : Network) (u o m n : ℕ) (l : List ℕ) (ls : List (List ℕ)) (w : Network)
      → node_read d v o l ≡ r
      → length v.luts ≡ u
      → o < length d.outputs
      → ((x : Node)
      → ask_lines d true (node_place d (suc o)) (with_node v x) (suc n) ls ≡ network w
      → NodesSaid (with_node v x) u (suc o) m ls w)
      → ask_lines d true (at_node o) v n (l ∷ ls) ≡ network w
      → NodesSaid v u o (suc m) (l ∷ ls) w
  node_by none v u o m n l ls w r q c f e = absurd (bad_network (sym (line_bad d (at_node o) v n l ls (node_bad d v o l r)) ∙ e))
  node_by (some x) v u o m n l ls w r q c f e =
      one_node_said v u o m l ls w x q c r
      (f x (sym (line_next d (at_node o) (node_place d (suc o)) v (with_node v x) n l ls (node_next d v o l x r)) ∙ e))

  nodes-said : (m : ℕ) (v : Network) (u o n : ℕ) (ls : List (List ℕ)) (w : Network)
      → length v.luts ≡ u
      → o + m ≡ length d.outputs
      → ask_lines d true (node_place d o) v n ls ≡ network w
      → NodesSaid v u o m ls w
  unfolding ask_lines
  nodes-said zero v u o n ls w q c e = no_node_said v u o n ls w q (omega arith) e
  nodes-said (suc m) v u o n [] w q c e = absurd (bad_network (rw (place_node d o (omega arith)) at e))
  nodes-said (suc m) v u o n (l ∷ ls) w q c e =
      node_by (node_read d v o l) v u o m n l ls w refl q (omega arith)
      (λ x f. nodes-said m (with_node v x) u (suc o) (suc n) ls w q (omega arith) f)
      (rw (place_node d o (omega arith)) at e)

  -- ---- from lut line u on
  record LutsSaid (v : Network) (u : ℕ) (ls : List (List ℕ)) (w : Network) : Type 0 where
    pub ts : List (List Bool)
    pub xs : List Node
    pub luts : List (List ℕ)
    pub nodes : List (List ℕ)
    pub total : ℕ
    pub total-is : u + length ts ≡ total
    pub few : total ≤ max_cells
    pub digits : (i : ℕ) → i < length ts → length (get_or ts i []) ≡ 2 ^ length d.bound
    pub counted : length xs ≡ length d.outputs
    pub fits : (k : ℕ) → k < length xs → NodeFits (free_of d) total (node_at xs k)
    pub luts_spelled : LutsSpelled d.bound u ts luts
    pub nodes_spelled : NodesSpelled (free_of d) (names_of d) xs nodes
    pub lines_are : ls ≡ luts ++ (nodes ++ last_lines total)
    pub said : with_all v ts xs ≡ w

  no_lut_said : (v : Network) (u n : ℕ) (l : List ℕ) (ls : List (List ℕ)) (w : Network)
      → length v.luts ≡ u
      → u ≤ max_cells
      → ask_line d at_luts v l ≡ ask_line d (at_node 0) v l
      → ask_lines d true at_luts v n (l ∷ ls) ≡ network w
      → LutsSaid v u (l ∷ ls) w
  no_lut_said v u n l ls w q c a e =
      let s = nodes-said (length d.outputs) v u 0 n (l ∷ ls) w q (omega arith)
      (rw (place_node d 0 some-output) (sym (same_lines d at_luts (at_node 0) v n l ls a) ∙ e)) in
      record {
        ts = [];
        xs = s.xs;
        luts = [];
        nodes = s.nodes;
        total = u;
        total-is = omega arith;
        few = c;
        digits = λ i k. absurd (omega arith);
        counted = s.counted;
        fits = s.fits;
        luts_spelled = no_lut;
        nodes_spelled = s.nodes_spelled;
        lines_are = s.lines_are;
        said = ap (λ (ys : List (List Bool)). record { luts = ys; nodes = v.nodes ++ s.xs }) (append-nil v.luts) ∙ s.said;
      }

  one_lut_said : (v : Network) (u : ℕ) (l : List ℕ) (ls : List (List ℕ)) (w : Network) (t : List Bool)
      → read_lut d.bound u l ≡ some t
      → LutsSaid (with_lut v t) (suc u) ls w
      → LutsSaid v u (l ∷ ls) w
  one_lut_said v u l ls w t r s =
      let (c, p) = lut_spelling_of_read d.bound u l t r in
      record {
        ts = t ∷ s.ts;
        xs = s.xs;
        luts = l ∷ s.luts;
        nodes = s.nodes;
        total = s.total;
        total-is = omega (arith, s.total-is);
        few = s.few;
        digits = each (λ (y : List Bool). length y ≡ 2 ^ length d.bound) [] t s.ts c s.digits;
        counted = s.counted;
        fits = s.fits;
        luts_spelled = one_lut p s.luts_spelled;
        nodes_spelled = s.nodes_spelled;
        lines_are = ap (λ (ys : List (List ℕ)). l ∷ ys) s.lines_are;
        said =
            ap (λ (ys : List (List Bool)). record { luts = ys; nodes = v.nodes ++ s.xs })
            (sym (append_assoc v.luts (t ∷ []) s.ts)) ∙ s.said;
      }

  lut_by : (r : Option (List Bool)) (v : Network) (u n : ℕ) (l : List ℕ) (ls : List (List ℕ)) (w : Network)
      → read_lut d.bound u l ≡ r
      → length v.luts ≡ u
      → u < max_cells
      → ((t : List Bool) → ask_lines d true at_luts (with_lut v t) (suc n) ls ≡ network w → LutsSaid (with_lut v t) (suc u) ls w)
      → ask_lines d true at_luts v n (l ∷ ls) ≡ network w
      → LutsSaid v u (l ∷ ls) w
  lut_by none v u n l ls w r q c f e = no_lut_said v u n l ls w q (omega arith) (lut_none d v l (rw q r)) e
  lut_by (some t) v u n l ls w r q c f e =
      one_lut_said v u l ls w t r
      (f t (sym (line_next d at_luts at_luts v (with_lut v t) n l ls (lut_next d v l t (omega arith) (rw q r))) ∙ e))

  luts-said : (ls : List (List ℕ)) (v : Network) (u n : ℕ) (w : Network)
      → length v.luts ≡ u
      → u ≤ max_cells
      → ask_lines d true at_luts v n ls ≡ network w
      → LutsSaid v u ls w
  unfolding ask_lines
  luts-said [] v u n w q c e = absurd (bad_network e)
  luts-said (l ∷ ls) v u n w q c e =
      elim (dec_lt u max_cells) as (λ _. LutsSaid v u (l ∷ ls) w) [
        | yes k ↦
            lut_by (read_lut d.bound u l) v u n l ls w refl q k
            (λ t f. luts-said ls (with_lut v t) (suc u) (suc n) w (omega (arith, length-append v.luts (t ∷ []))) k f) e
        | no k ↦ no_lut_said v u n l ls w q c (lut_many d v l (omega arith)) e
      ]

  -- ---- all lines
  all_said : (ls : List (List ℕ)) (w : Network) → LutsSaid nothing 0 ls w → NetworkFor d w × LinesSpelled d w (network_line ∷ ls)
  all_said ls w s =
      let u = length s.ts in
      let q : s.total ≡ u = omega (arith, s.total-is) in
      let said : Network = record { luts = s.ts; nodes = s.xs } in
      let well : NetworkFor d said =
      record { few_luts = omega (arith, s.few); lut_digits = s.digits; node_each = s.counted; node_fits = λ o i. rw (← q) (s.fits o i) } in
      let spelled : LinesSpelled d said (network_line ∷ ls) =
      record {
        luts = s.luts;
        nodes = s.nodes;
        luts_spelled = s.luts_spelled;
        nodes_spelled = s.nodes_spelled;
        are_lines =
            ap (λ (ks : List (List ℕ)). network_line ∷ ks)
            (s.lines_are ∙ ap (λ (m : ℕ). s.luts ++ (s.nodes ++ last_lines m)) q);
      } in
      (rw s.said at well, rw s.said at spelled)

  lines-said : (ls : List (List ℕ)) (w : Network) → ask_lines d true at_network nothing 1 ls ≡ network w → NetworkFor d w × LinesSpelled d w ls
  unfolding ask_line ask_lines
  lines-said [] w e = absurd (bad_network e)
  lines-said (l ∷ ls) w e =
      let (i, f) = fixed_line d at_network at_luts nothing w 1 l network_line ls refl e in
      let (x, y) = all_said ls w (luts-said ls nothing 0 2 w refl (omega arith) f) in
      (x, subst (λ (m : List ℕ). LinesSpelled d w (m ∷ ls)) (sym i) y)

  -- ---- a last line without 0x0A is bad
  never_ended : (ls : List (List ℕ)) (p : Place) (v w : Network) (n : ℕ) (l : List ℕ)
      → ask_lines d false p v n (l ∷ ls) ≡ network w
      → ⊥
  unfolding ask_lines
  never_ended [] p v w n l e = bad_network e
  never_ended (m ∷ ls) p v w n l e = go (ask_line d p v l) (λ q x f. never_ended ls q x w (suc n) m f) e
    where
      go : (s : Step)
          → ((q : Place) (x : Network) → ask_lines d false q x (suc n) (m ∷ ls) ≡ network w → ⊥)
          → follow s n (λ q x. ask_lines d false q x (suc n) (m ∷ ls)) ≡ network w
          → ⊥
      go misspelled f e = bad_network e
      go (next q x) f e = f q x e

  ended-said : (x : Bool) (ls : List (List ℕ)) (w : Network)
      → ask_lines d x at_network nothing 1 ls ≡ network w
      → x ≡ true
  unfolding ask_lines
  ended-said true ls w e = refl
  ended-said false [] w e = absurd (bad_network e)
  ended-said false (l ∷ ls) w e = absurd (never_ended ls at_network nothing w 1 l e)

  -- ---- the sheet
  sized-said : (x : Bool) (t : List ℕ) (w : Network)
      → pick x (ask_lines d (ends_line t) at_network nothing 1 (lines t)) (bad_line 0) ≡ network w
      → (x ≡ true) × (ask_lines d (ends_line t) at_network nothing 1 (lines t) ≡ network w)
  sized-said true t w e = (refl, e)
  sized-said false t w e = absurd (bad_network e)

pub spelling_of_said : (d : Design) (t : List ℕ) (w : Network)
    → 1 ≤ length d.outputs
    → read_network d t ≡ network w
    → NetworkFor d w × Spells d w t × (length t ≤ max_network)
unfolding read_network
spelling_of_said d t w h e =
    let (s, f) = sized-said d h (within 1 max_network (length t)) t w e in
    let x = ended-said d h (ends_line t) (lines t) w f in
    let (i, j) = lines-said d h (lines t) w (rw x at f) in
    let k = leb-true (length t) max_network (and_right (leb 1 (length t)) (leb (length t) max_network) s) in
    (i, record { lines = lines t; lines_spelled = j; is_text = ended_of_lines t x }, k)
