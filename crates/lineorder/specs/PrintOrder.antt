-- Two networks of one design with as many shared tables: the digits of the tables decide first, in order, then the nodes,
-- line by line. Assumes nothing.
use Rattle.std.specs.Prelude.{◌≡◌, refl, Bool, true, false, length, get_or}
use Rattle.std.proofs.Math.Path.{sym, ap, ap₂}
use Rattle.std.proofs.Common.{◌∙◌, subst, arith}
use mathlib.Core.List.{List, [], ◌∷◌, ◌++◌, append_assoc}
use Prim.Native.Nat.{ℕ, suc, ◌<◌, Ordering, compare}
use Rattle.std.proofs.lemmas.List.{length-map}
use Rattle.order.specs.Total.{NotLess}
use Rattle.text.specs.Bytes.{newline, close_bracket}
use Rattle.names.specs.Name.{Name}
use Rattle.rows.specs.Digits.{digit}
use Rattle.sheet.specs.Examine.{Design}
use Rattle.network.specs.Network.{Network, Node}
use Rattle.network.specs.Printer.{print_digits, network_line, lut_head, print_lut, print_node, lut_lines, node_lines, network_lines, print_network}
use Rattle.network.specs.Parts.{free_of, names_of, last_lines}
use Rattle.network.specs.NetworkFor.{NetworkFor, Named, node_at}
use Rattle.network.specs.SpellingLaws.{print_lines_spelled, lines-unbroken}
use Rattle.order.specs.Order.{then, list_order, byte_order, bit_order, table_order, tables_order}
use Rattle.order.specs.OrderLaws.{compare_total, same-front, front_first, map_order}
use Rattle.order.proofs.TotalLaws.{bytes_total}
use Rattle.order.specs.OrderLaws.{then-eq, then_not_less, not_less_eq}
use Rattle.order.specs.Tables.{SameLengths, alike_none, alike_more}
use Rattle.lineorder.specs.LineOrder.{line_order, line_self, lines_self, ended_order}

-- ======== definitions
-- the node lines of two networks
abbrev pub nodes_order : Design → List Node → List Node → Ordering
nodes_order d xs ys = list_order line_order (node_lines (free_of d) (names_of d) xs) (node_lines (free_of d) (names_of d) ys)

-- ======== laws
-- ---- digits
digit_order : (a b : Bool) → compare (digit a) (digit b) ≡ bit_order a b
digit_order false false = refl
digit_order false true = refl
digit_order true false = refl
digit_order true true = refl

digits_order : (a b : List Bool) → byte_order (print_digits a) (print_digits b) ≡ table_order a b
unfolding print_digits
digits_order a b = map_order bit_order compare digit digit_order a b

pub digits_alike : (a b : List Bool) → length a ≡ length b → length (print_digits a) ≡ length (print_digits b)
unfolding print_digits
digits_alike a b e = length-map a digit ∙ e ∙ sym (length-map b digit)

-- digits with a common beginning and a common end
digits_between : (p e : List ℕ) (a b : List Bool)
    → length a ≡ length b
    → byte_order (p ++ (print_digits a ++ e)) (p ++ (print_digits b ++ e)) ≡ table_order a b
digits_between p e a b l =
    same-front compare compare_total p (print_digits a ++ e) (print_digits b ++ e)
    ∙ front_first compare (print_digits a) (print_digits b) e e (digits_alike a b l)
    ∙ ap₂ then (digits_order a b) (bytes_total.self e)
    ∙ then-eq (table_order a b)

-- ---- lut lines
ended_lut : (bs : List Name) (i : ℕ) (a : List Bool)
    → print_lut bs i a ++ (newline ∷ []) ≡ lut_head bs i ++ (print_digits a ++ (close_bracket ∷ newline ∷ []))
unfolding print_lut
ended_lut bs i a =
    append_assoc (lut_head bs i) (print_digits a ++ (close_bracket ∷ [])) (newline ∷ [])
    ∙ ap (λ (l : List ℕ). lut_head bs i ++ l) (append_assoc (print_digits a) (close_bracket ∷ []) (newline ∷ []))

lut_order : (bs : List Name) (i : ℕ) (a b : List Bool) → length a ≡ length b → line_order (print_lut bs i a) (print_lut bs i b) ≡ table_order a b
unfolding line_order
lut_order bs i a b e =
    ap₂ byte_order (ended_lut bs i a) (ended_lut bs i b) ∙ digits_between (lut_head bs i) (close_bracket ∷ newline ∷ []) a b e

luts_order : (bs : List Name) (i : ℕ) {ts us : List (List Bool)}
    → SameLengths ts us
    → list_order line_order (lut_lines bs i ts) (lut_lines bs i us) ≡ tables_order ts us
unfolding list_order lut_lines
luts_order bs i alike_none = refl
luts_order bs i (alike_more {a = a} {b = b} e s) = ap₂ then (lut_order bs i a b e) (luts_order bs (suc i) s)

luts-count : (bs : List Name) (i : ℕ) (ts : List (List Bool)) → length (lut_lines bs i ts) ≡ length ts
unfolding lut_lines
luts-count bs i [] = refl
luts-count bs i (t ∷ ts) = ap suc (luts-count bs (suc i) ts)

nodes-count : (fs ns : List Name) (xs ys : List Node) → length xs ≡ length ys → length (node_lines fs ns xs) ≡ length (node_lines fs ns ys)
unfolding node_lines
nodes-count fs [] xs ys e = refl
nodes-count fs (n ∷ ns) [] [] e = refl
nodes-count fs (n ∷ ns) [] (y ∷ ys) e = absurd (omega (arith, e))
nodes-count fs (n ∷ ns) (x ∷ xs) [] e = absurd (omega (arith, e))
nodes-count fs (n ∷ ns) (x ∷ xs) (y ∷ ys) e =
    ap suc (nodes-count fs ns xs ys (let g : suc (length xs) ≡ suc (length ys) = e in omega arith))

luts-alike : (ts us : List (List Bool))
    → length ts ≡ length us
    → ((j : ℕ) → j < length ts → length (get_or ts j []) ≡ length (get_or us j []))
    → SameLengths ts us
luts-alike [] [] e h = alike_none
luts-alike [] (u ∷ us) e h = absurd (omega (arith, e))
luts-alike (t ∷ ts) [] e h = absurd (omega (arith, e))
luts-alike (t ∷ ts) (u ∷ us) e h =
    alike_more {a = t} {b = u} (h 0 (omega arith))
    (luts-alike ts us (let g : suc (length ts) ≡ suc (length us) = e in omega arith) (λ j k. h (suc j) (omega arith)))

-- ---- whole networks
module _ (d : Design) (h : Named d) (v w : Network) (f : NetworkFor d v) (g : NetworkFor d w)
    (e : length v.luts ≡ length w.luts) where
  lines_order : list_order line_order (network_lines d v) (network_lines d w)
      ≡ then (tables_order v.luts w.luts) (nodes_order d v.nodes w.nodes)
  unfolding list_order network_lines
  lines_order =
      let fs = free_of d in
      let ns = names_of d in
      let ls : Network → List (List ℕ) = λ x. lut_lines d.bound 0 x.luts in
      let xs : Network → List (List ℕ) = λ x. node_lines fs ns x.nodes in
      let tail : Network → List (List ℕ) = λ x. last_lines (length x.luts) in
      ap (λ (o : Ordering). then o (list_order line_order (ls v ++ (xs v ++ tail v)) (ls w ++ (xs w ++ tail w)))) (line_self network_line)
      ∙ front_first line_order (ls v) (ls w) (xs v ++ tail v) (xs w ++ tail w)
      (luts-count d.bound 0 v.luts ∙ e ∙ sym (luts-count d.bound 0 w.luts))
      ∙ ap₂ then
      (luts_order d.bound 0
      (luts-alike v.luts w.luts e (λ j k. f.lut_digits j k ∙ sym (g.lut_digits j (subst (λ (n : ℕ). j < n) e k)))))
      (front_first line_order (xs v) (xs w) (tail v) (tail w)
      (nodes-count fs ns v.nodes w.nodes (f.node_each ∙ sym g.node_each))
      ∙ ap (then (list_order line_order (xs v) (xs w)))
      (ap (λ (n : ℕ). list_order line_order (last_lines n) (tail w)) e ∙ lines_self (tail w))
      ∙ then-eq (list_order line_order (xs v) (xs w)))

  pub print_order : byte_order (print_network d v) (print_network d w)
      ≡ then (tables_order v.luts w.luts) (nodes_order d v.nodes w.nodes)
  unfolding print_network
  print_order =
      ended_order (network_lines d v) (network_lines d w)
      (lines-unbroken d h v (print_lines_spelled d v f.node_each))
      (lines-unbroken d h w (print_lines_spelled d w g.node_each))
      ∙ lines_order

-- ---- each node line is not less, so all together are not
pub nodes_not_less : (fs ns : List Name) (xs ys : List Node)
    → length xs ≡ length ys
    → ((o : ℕ)
    → o < length ns
    → o < length xs
    → NotLess (line_order (print_node (get_or ns o []) fs (node_at xs o)) (print_node (get_or ns o []) fs (node_at ys o))))
    → NotLess (list_order line_order (node_lines fs ns xs) (node_lines fs ns ys))
unfolding list_order node_lines
nodes_not_less fs [] xs ys e h = not_less_eq
nodes_not_less fs (n ∷ ns) [] [] e h = not_less_eq
nodes_not_less fs (n ∷ ns) [] (y ∷ ys) e h = absurd (omega (arith, e))
nodes_not_less fs (n ∷ ns) (x ∷ xs) [] e h = absurd (omega (arith, e))
nodes_not_less fs (n ∷ ns) (x ∷ xs) (y ∷ ys) e h =
    then_not_less (line_order (print_node n fs x) (print_node n fs y)) (list_order line_order (node_lines fs ns xs) (node_lines fs ns ys))
    (h 0 (omega arith) (omega arith))
    (λ q.
    nodes_not_less fs ns xs ys (let g : suc (length xs) ≡ suc (length ys) = e in omega arith)
    (λ o k l. h (suc o) (omega arith) (omega arith)))
