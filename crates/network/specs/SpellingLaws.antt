-- The print of a network spells it; and no line of a spelling has 0x0A in it, so that the lines of its text are those that
-- spell the network. Assumes nothing.
use Rattle.std.specs.Prelude.{◌≡◌, Bool, List, [], ◌∷◌, ◌++◌, ℕ, suc, ◌<◌}
use Rattle.std.proofs.Math.Path.{refl, sym, ap}
use Rattle.std.proofs.Common.{subst, ◌∙◌, arith}
use Rattle.std.proofs.Math.Bool.{true}
use Rattle.std.proofs.Math.ListN.{length}
use Rattle.bits.specs.LogicLaws.{and_left, and_right, and_both}
use Rattle.text.specs.Line.{lines, ended_lines, ends_line}
use Rattle.text.specs.Unbroken.{unbroken, all_unbroken}
use Rattle.text.specs.EndedLaws.{lines_of_ended, ended-ends, ended_some}
use Rattle.names.specs.Name.{Name, is_name}
use Rattle.names.specs.Names.{all_names}
use Rattle.names.specs.SameLaws.{same_name_self}
use Rattle.names.specs.SameNamesLaws.{same_names_self, same_is_name, same_all_names}
use Rattle.sheet.specs.Examine.{Design}
use Rattle.network.specs.Network.{Network, Node}
use Rattle.network.specs.Printer.{network_line, lut_lines, node_lines, network_lines, print_network}
use Rattle.network.specs.Parts.{free_of, names_of, last_lines}
use Rattle.network.specs.Spelling.{LutsSpelled, no_lut, one_lut, NodesSpelled, no_node, one-node, LinesSpelled, Spells}
use Rattle.network.specs.NetworkFor.{Named}
use Rattle.network.specs.UnbrokenLaws.{all_append, lut_unbroken, node-unbroken, count-unbroken, fixed_unbroken}
use Rattle.network.specs.PartLaws.{free-named, names_count}

-- ---- the print
luts_printed : (bs : List Name) (i : ℕ) (ts : List (List Bool)) → LutsSpelled bs i ts (lut_lines bs i ts)
unfolding lut_lines
luts_printed bs i [] = no_lut
luts_printed bs i (t ∷ ts) =
    one_lut (record { names = bs; same_names_lem = same_names_self bs; is_line = refl }) (luts_printed bs (suc i) ts)

nodes_printed : (fs ns : List Name) (xs : List Node) → length xs ≡ length ns → NodesSpelled fs ns xs (node_lines fs ns xs)
unfolding node_lines
nodes_printed fs [] [] e = no_node
nodes_printed fs [] (x ∷ xs) e = absurd (omega arith)
nodes_printed fs (n ∷ ns) [] e = absurd (omega arith)
nodes_printed fs (n ∷ ns) (x ∷ xs) e =
    one-node
    (record { name = n; names = fs; same_name_lem = same_name_self n; same_names_lem = same_names_self fs; is_line = refl })
    (nodes_printed fs ns xs (omega arith))

module _ (d : Design) (w : Network) (e : length w.nodes ≡ length d.outputs) where
  pub print_lines_spelled : LinesSpelled d w (network_lines d w)
  unfolding network_lines
  print_lines_spelled =
      record {
        luts = lut_lines d.bound 0 w.luts;
        nodes = node_lines (free_of d) (names_of d) w.nodes;
        luts_spelled = luts_printed d.bound 0 w.luts;
        nodes_spelled = nodes_printed (free_of d) (names_of d) w.nodes (e ∙ sym (names_count d));
        are_lines = refl;
      }

  pub print_spells : Spells d w (print_network d w)
  unfolding print_network
  print_spells = record { lines = network_lines d w; lines_spelled = print_lines_spelled; is_text = refl }

-- ---- no line has a 0x0A in it
luts-unbroken : {bs : List Name} {i : ℕ} {ts : List (List Bool)} {ls : List (List ℕ)}
    → all_names bs ≡ true
    → LutsSpelled bs i ts ls
    → all_unbroken ls ≡ true
unfolding all_unbroken
luts-unbroken h no_lut = refl
luts-unbroken {bs = bs} h (one_lut {i = i} {t = t} {l = l} {ls = ls} p q) =
    and_both (unbroken l) (all_unbroken ls)
    (ap unbroken p.is_line ∙ lut_unbroken p.names i t (same_all_names bs p.names p.same_names_lem h))
    (luts-unbroken h q)

nodes-unbroken : {fs ns : List Name} {xs : List Node} {ls : List (List ℕ)}
    → all_names fs ≡ true
    → all_names ns ≡ true
    → NodesSpelled fs ns xs ls
    → all_unbroken ls ≡ true
unfolding all_unbroken all_names
nodes-unbroken h k no_node = refl
nodes-unbroken {fs = fs} h k (one-node {n = n} {ns = ns} {x = x} {l = l} {ls = ls} p q) =
    and_both (unbroken l) (all_unbroken ls)
    (ap unbroken p.is_line
    ∙ node-unbroken p.name p.names x
    (same_is_name n p.name p.same_name_lem (and_left (is_name n) (all_names ns) k))
    (same_all_names fs p.names p.same_names_lem h))
    (nodes-unbroken h (and_right (is_name n) (all_names ns) k) q)

module _ (d : Design) (named : Named d) (w : Network) where
  pub lines-unbroken : {ls : List (List ℕ)} → LinesSpelled d w ls → all_unbroken ls ≡ true
  unfolding all_unbroken
  lines-unbroken s =
      let u = length w.luts in
      let rest = s.nodes ++ last_lines u in
      let last : all_unbroken (last_lines u) ≡ true = rw (count-unbroken u, fixed_unbroken.1) refl in
      let luts = luts-unbroken named.bound-named s.luts_spelled in
      let nodes = nodes-unbroken (free-named d.inputs d.bound named.inputs_named) named.outputs_named s.nodes_spelled in
      ap all_unbroken s.are_lines
      ∙ and_both (unbroken network_line) (all_unbroken (s.luts ++ rest))
      fixed_unbroken.0
      (all_append s.luts rest luts (all_append s.nodes (last_lines u) nodes last))

  -- ---- the text of a spelling
  module _ (t : List ℕ) (s : Spells d w t) where
    pub spells_lines : LinesSpelled d w (lines t)
    spells_lines =
        subst (LinesSpelled d w)
        (sym (ap lines s.is_text ∙ lines_of_ended s.lines (lines-unbroken s.lines_spelled)))
        s.lines_spelled

    by_lines : t ≡ ended_lines (network_line ∷ (s.lines_spelled.luts ++ (s.lines_spelled.nodes ++ last_lines (length w.luts))))
    by_lines = s.is_text ∙ ap ended_lines s.lines_spelled.are_lines

    pub spells_some : 0 < length t
    spells_some = subst (λ (v : List ℕ). 0 < length v) (sym by_lines) (ended_some network_line _)

    pub spells_ends : ends_line t ≡ true
    spells_ends = ap ends_line by_lines ∙ ended-ends network_line _
