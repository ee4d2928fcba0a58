-- A spelling of a network differs from its print in the case of letters alone, and so it is as long. Assumes nothing.
use Rattle.std.specs.Prelude.{◌≡◌, refl, Bool, true, false, ℕ, length}
use Rattle.std.proofs.Math.Path.{sym, ap, ap₂}
use Rattle.std.proofs.Common.{◌∙◌}
use mathlib.Core.List.{List, [], ◌∷◌, ◌++◌, map, map-append}
use Rattle.std.proofs.lemmas.List.{length-map}
use Rattle.bits.specs.LogicLaws.{true_false, and_left, and_right}
use Rattle.text.specs.Bytes.{bytes, newline, close_bracket}
use Rattle.text.specs.Line.{ended_lines}
use Rattle.names.specs.Case.{lower, lowered}
use Rattle.names.specs.Name.{Name, same_name}
use Rattle.names.specs.SameLaws.{same_name_lowered}
use Rattle.names.specs.Spelled.{same_names}
use Rattle.sheet.specs.Examine.{Design}
use Rattle.network.specs.Network.{Network, Node}
use Rattle.network.specs.Printer.{led_all, lut_name, print_digits, network_line, lut_head, print_lut, node_head, print_node, lut_lines, node_lines, network_lines, print_network}
use Rattle.network.specs.Parts.{free_of, names_of, last_lines}
use Rattle.network.specs.Spelling.{LutsSpelled, no_lut, one_lut, NodesSpelled, no_node, one-node, LinesSpelled, Spells}

-- ---- texts in parts
-- two texts that differ in the case of letters alone
record Recased (s t : List ℕ) : Type 0 where
  pub same_letters : lowered s ≡ lowered t

itself : (s : List ℕ) → Recased s s
itself s = record { same_letters = refl }

parts_recased : {s t u v : List ℕ} → Recased s t → Recased u v → Recased (s ++ u) (t ++ v)
parts_recased {s} {t} {u} {v} p q =
    record { same_letters = map-append lower s u ∙ ap₂ ◌++◌ p.same_letters q.same_letters ∙ sym (map-append lower t v) }

list_lowered : (first : Bool) (items : List (List ℕ)) → lowered (led_all first items) ≡ led_all first (map lowered items)
unfolding led_all lower
list_lowered first [] = refl
list_lowered true (item ∷ items) =
    map-append lower item (led_all false items) ∙ ap (λ (t : List ℕ). lowered item ++ t) (list_lowered false items)
list_lowered false (item ∷ items) =
    ap (λ (t : List ℕ). 0x20 ∷ t)
    (map-append lower item (led_all false items) ∙ ap (λ (t : List ℕ). lowered item ++ t) (list_lowered false items))

ended-lowered : (ls : List (List ℕ)) → lowered (ended_lines ls) ≡ ended_lines (map lowered ls)
unfolding ended_lines lower
ended-lowered [] = refl
ended-lowered (l ∷ ls) =
    map-append lower l (newline ∷ ended_lines ls) ∙ ap (λ (t : List ℕ). lowered l ++ (newline ∷ t)) (ended-lowered ls)

-- ---- names that are the same, in a list after other items
names_lowered : (ns ms : List Name) → same_names ns ms ≡ true → map lowered ns ≡ map lowered ms
unfolding same_names
names_lowered [] [] e = refl
names_lowered [] (m ∷ ms) e = absurd (true_false (sym e))
names_lowered (n ∷ ns) [] e = absurd (true_false (sym e))
names_lowered (n ∷ ns) (m ∷ ms) e =
    ap₂ (λ (x : Name) (xs : List Name). x ∷ xs)
    (same_name_lowered n m (and_left (same_name n m) (same_names ns ms) e))
    (names_lowered ns ms (and_right (same_name n m) (same_names ns ms) e))

inputs_recased : (items : List (List ℕ)) (ns ms : List Name)
    → same_names ns ms ≡ true
    → Recased (led_all true (items ++ ns)) (led_all true (items ++ ms))
inputs_recased items ns ms e =
    record {
      same_letters = list_lowered true (items ++ ns)
          ∙ ap (led_all true)
          (map-append lowered items ns ∙ ap (λ (l : List (List ℕ)). map lowered items ++ l) (names_lowered ns ms e)
          ∙ sym (map-append lowered items ms))
          ∙ sym (list_lowered true (items ++ ms));
    }

-- ---- the lines
lut_recased : (bs ms : List Name) (i : ℕ) (t : List Bool) → same_names bs ms ≡ true → Recased (print_lut bs i t) (print_lut ms i t)
unfolding print_lut lut_head
lut_recased bs ms i t e =
    parts_recased
    (parts_recased (itself (bytes "(lut "))
    (parts_recased (itself (lut_name i))
    (parts_recased (itself (bytes " ("))
    (parts_recased (inputs_recased [] bs ms e) (itself (bytes ") "))))))
    (itself (print_digits t ++ (close_bracket ∷ [])))

node_recased : (n m : Name) (fs gs : List Name) (x : Node)
    → same_name n m ≡ true
    → same_names fs gs ≡ true
    → Recased (print_node n fs x) (print_node m gs x)
unfolding print_node node_head
node_recased n m fs gs x e f =
    let name : Recased n m = record { same_letters = same_name_lowered n m e } in
    parts_recased
    (parts_recased (itself (bytes "(node ")) (parts_recased name (itself (bytes " ("))))
    (parts_recased (inputs_recased (map lut_name x.reads) fs gs f)
    (itself (bytes ") " ++ (print_digits x.digits ++ (close_bracket ∷ [])))))

luts-lowered : {bs : List Name} {i : ℕ} {ts : List (List Bool)} {ls : List (List ℕ)}
    → LutsSpelled bs i ts ls
    → map lowered ls ≡ map lowered (lut_lines bs i ts)
unfolding lut_lines
luts-lowered no_lut = refl
luts-lowered {bs = bs} (one_lut {i = i} {t = t} p q) =
    ap₂ (λ (x : List ℕ) (xs : List (List ℕ)). x ∷ xs)
    (ap lowered p.is_line ∙ sym (lut_recased bs p.names i t p.same_names_lem).same_letters)
    (luts-lowered q)

nodes-lowered : {fs ns : List Name} {xs : List Node} {ls : List (List ℕ)}
    → NodesSpelled fs ns xs ls
    → map lowered ls ≡ map lowered (node_lines fs ns xs)
unfolding node_lines
nodes-lowered no_node = refl
nodes-lowered {fs = fs} (one-node {n = n} {x = x} p q) =
    ap₂ (λ (y : List ℕ) (ys : List (List ℕ)). y ∷ ys)
    (ap lowered p.is_line ∙ sym (node_recased n p.name fs p.names x p.same_name_lem p.same_names_lem).same_letters)
    (nodes-lowered q)

-- ---- the sheet
module _ (d : Design) (w : Network) where
  lines-lowered : (ls : List (List ℕ)) → LinesSpelled d w ls → map lowered ls ≡ map lowered (network_lines d w)
  unfolding network_lines
  lines-lowered ls s =
      let last = last_lines (length w.luts) in
      let luts = lut_lines d.bound 0 w.luts in
      let nodes = node_lines (free_of d) (names_of d) w.nodes in
      let lower-all : List (List ℕ) → List (List ℕ) = λ xs. map lowered xs in
      ap lower-all s.are_lines
      ∙ ap (λ (xs : List (List ℕ)). lowered network_line ∷ xs)
      (map-append lowered s.luts (s.nodes ++ last)
      ∙ ap₂ ◌++◌ (luts-lowered s.luts_spelled)
      (map-append lowered s.nodes last
      ∙ ap (λ (xs : List (List ℕ)). xs ++ map lowered last) (nodes-lowered s.nodes_spelled)
      ∙ sym (map-append lowered nodes last))
      ∙ sym (map-append lowered luts (nodes ++ last)))

  pub spells_lowered : (t : List ℕ) → Spells d w t → lowered t ≡ lowered (print_network d w)
  unfolding print_network
  spells_lowered t s =
      ap lowered s.is_text
      ∙ ended-lowered s.lines
      ∙ ap ended_lines (lines-lowered s.lines s.lines_spelled)
      ∙ sym (ended-lowered (network_lines d w))

  pub spells_length : (t : List ℕ) → Spells d w t → length t ≡ length (print_network d w)
  spells_length t s = sym (length-map t lower) ∙ ap length (spells_lowered t s) ∙ length-map (print_network d w) lower
