-- The length of a print follows from the design and U (clause 7.13): two networks with as many shared tables, whose nodes read as many of them,
-- have sheets of one length. So all permitted networks of a design have. Assumes nothing.
use Rattle.std.specs.Prelude.{◌≡◌, Bool, true, false, List, [], ◌∷◌, ◌++◌, map, ℕ, suc, ◌+◌, ◌^◌, ◌≤◌, ◌<◌, get_or}
use Rattle.std.proofs.Math.Path.{refl, sym}
use Rattle.std.proofs.Common.{ap, ap₂, ◌∙◌, subst, arith, length-append}
use Rattle.std.proofs.Math.ListN.{length}
use Rattle.order.specs.Tables.{SameLengths, alike_none, alike_more}
use Rattle.text.specs.Bytes.{bytes, newline, close_bracket}
use Rattle.text.specs.Line.{ended_lines}
use Rattle.text.specs.FigureLaws.{print_digit}
use Rattle.names.specs.Name.{Name}
use Rattle.sheet.specs.Lines.{end_line}
use Rattle.sheet.specs.Examine.{Design, output_names}
use Rattle.classes.specs.Columns.{free}
use Rattle.classes.specs.Proper.{Proper}
use Rattle.network.specs.Network.{Network, Node}
use Rattle.network.specs.Printer.{led, led_all, lut_name, print_digits, network_line, lut_head, print_lut, node_head, print_node}
use Rattle.network.specs.Printer.{print_count, lut_lines, node_lines, network_lines, print_network}
use Rattle.network.specs.Reads.{Rising, rising_none, rising_more}
use Rattle.network.specs.NetworkFor.{NetworkFor, node_at}
use Rattle.network.specs.Answers.{read_count}
use Rattle.lineorder.specs.PrintOrder.{digits_alike}
use Rattle.mapper.specs.Map.{Permitted}
use Rattle.mapper.specs.PermittedLaws.{permitted_count, permitted_reads}

-- ---- as many items, each as long
alike_self : (ps : List (List ℕ)) → SameLengths ps ps
alike_self [] = alike_none
alike_self (a ∷ ps) = alike_more {a = a} {b = a} refl (alike_self ps)

alike-append : {ps qs rs ss : List (List ℕ)} → SameLengths ps qs → SameLengths rs ss → SameLengths (ps ++ rs) (qs ++ ss)
alike-append alike_none t = t
alike-append (alike_more {a = a} {b = b} e s) t = alike_more {a = a} {b = b} e (alike-append s t)

append-alike : (a b c d : List ℕ) → length a ≡ length b → length c ≡ length d → length (a ++ c) ≡ length (b ++ d)
append-alike a b c d e f = length-append a c ∙ ap₂ (λ (m n : ℕ). m + n) e f ∙ sym (length-append b d)

led_one : (first : Bool) (a b : List ℕ) → length a ≡ length b → length (led first a) ≡ length (led first b)
led_one true a b e = e
led_one false a b e = ap suc e

led-alike : (first : Bool) {ps qs : List (List ℕ)} → SameLengths ps qs → length (led_all first ps) ≡ length (led_all first qs)
unfolding led_all
led-alike first alike_none = refl
led-alike first (alike_more {a = a} {b = b} {ps = ps} {qs = qs} e s) =
    append-alike (led first a) (led first b) (led_all false ps) (led_all false qs) (led_one first a b e) (led-alike false s)

ended-alike : {ps qs : List (List ℕ)} → SameLengths ps qs → length (ended_lines ps) ≡ length (ended_lines qs)
unfolding ended_lines
ended-alike alike_none = refl
ended-alike (alike_more {a = a} {b = b} {ps = ps} {qs = qs} e s) =
    append-alike a b (newline ∷ ended_lines ps) (newline ∷ ended_lines qs) e (ap suc (ended-alike s))

-- ---- the names of shared tables have two bytes
lut_name_lem : (i : ℕ) → i < 10 → length (lut_name i) ≡ 2
unfolding lut_name
lut_name_lem i h = ap (λ (s : List ℕ). suc (length s)) (print_digit i h)

reads-alike : {i j u v : ℕ} {is js : List ℕ} → Rising i u is → Rising j v js → u ≤ 10 → v ≤ 10 → length is ≡ length js → SameLengths (map lut_name is) (map lut_name js)
reads-alike rising_none rising_none a b e = alike_none
reads-alike rising_none (rising_more {j = j} k l s) a b e = absurd (omega (arith, e))
reads-alike (rising_more {j = i} m n r) rising_none a b e = absurd (omega (arith, e))
reads-alike (rising_more {j = i} {js = is} m n r) (rising_more {j = j} {js = js} k l s) a b e =
    alike_more {a = lut_name i} {b = lut_name j} (lut_name_lem i (omega arith) ∙ sym (lut_name_lem j (omega arith)))
    (reads-alike r s a b (let g : suc (length is) ≡ suc (length js) = e in omega arith))

-- ---- lines
lut_alike : (bs : List Name) (i : ℕ) (ds es : List Bool) → length ds ≡ length es → length (print_lut bs i ds) ≡ length (print_lut bs i es)
unfolding print_lut
lut_alike bs i ds es e =
    append-alike (lut_head bs i) (lut_head bs i) (print_digits ds ++ (close_bracket ∷ [])) (print_digits es ++ (close_bracket ∷ [])) refl
    (append-alike (print_digits ds) (print_digits es) (close_bracket ∷ []) (close_bracket ∷ []) (digits_alike ds es e) refl)

lut_lines_alike : (bs : List Name) (i : ℕ) (ts us : List (List Bool))
    → length ts ≡ length us
    → ((j : ℕ) → j < length ts → length (get_or ts j []) ≡ length (get_or us j []))
    → SameLengths (lut_lines bs i ts) (lut_lines bs i us)
unfolding lut_lines
lut_lines_alike bs i [] [] e h = alike_none
lut_lines_alike bs i [] (u ∷ us) e h = absurd (omega (arith, e))
lut_lines_alike bs i (t ∷ ts) [] e h = absurd (omega (arith, e))
lut_lines_alike bs i (t ∷ ts) (u ∷ us) e h =
    alike_more {a = print_lut bs i t} {b = print_lut bs i u} (lut_alike bs i t u (h 0 (omega arith)))
    (lut_lines_alike bs (suc i) ts us (let g : suc (length ts) ≡ suc (length us) = e in omega arith) (λ j k. h (suc j) (omega arith)))

node_alike : (n : Name) (fs : List Name) (x y : Node)
    → SameLengths (map lut_name x.reads) (map lut_name y.reads)
    → length x.digits ≡ length y.digits
    → length (print_node n fs x) ≡ length (print_node n fs y)
unfolding print_node
node_alike n fs x y r e =
    let last : List Bool → List ℕ = λ ds. print_digits ds ++ (close_bracket ∷ []) in
    append-alike (node_head n) (node_head n)
    (led_all true (map lut_name x.reads ++ fs) ++ (bytes ") " ++ last x.digits))
    (led_all true (map lut_name y.reads ++ fs) ++ (bytes ") " ++ last y.digits)) refl
    (append-alike (led_all true (map lut_name x.reads ++ fs)) (led_all true (map lut_name y.reads ++ fs))
    (bytes ") " ++ last x.digits) (bytes ") " ++ last y.digits) (led-alike true (alike-append r (alike_self fs)))
    (append-alike (bytes ") ") (bytes ") ") (last x.digits) (last y.digits) refl
    (append-alike (print_digits x.digits) (print_digits y.digits) (close_bracket ∷ []) (close_bracket ∷ []) (digits_alike x.digits y.digits e) refl)))

record NodesAlike (x y : Node) : Type 0 where
  pub names : SameLengths (map lut_name x.reads) (map lut_name y.reads)
  pub digits : length x.digits ≡ length y.digits

node_lines_alike : (fs ns : List Name) (xs ys : List Node)
    → length xs ≡ length ys
    → ((o : ℕ) → o < length xs → NodesAlike (node_at xs o) (node_at ys o))
    → SameLengths (node_lines fs ns xs) (node_lines fs ns ys)
unfolding node_lines
node_lines_alike fs [] xs ys e h = alike_none
node_lines_alike fs (n ∷ ns) [] [] e h = alike_none
node_lines_alike fs (n ∷ ns) [] (y ∷ ys) e h = absurd (omega (arith, e))
node_lines_alike fs (n ∷ ns) (x ∷ xs) [] e h = absurd (omega (arith, e))
node_lines_alike fs (n ∷ ns) (x ∷ xs) (y ∷ ys) e h =
    alike_more {a = print_node n fs x} {b = print_node n fs y} (node_alike n fs x y (h 0 (omega arith)).names (h 0 (omega arith)).digits)
    (node_lines_alike fs ns xs ys (let g : suc (length xs) ≡ suc (length ys) = e in omega arith) (λ o k. h (suc o) (omega arith)))

-- ---- the whole sheet
module _ (d : Design) (v w : Network) (f : NetworkFor d v) (g : NetworkFor d w) (e : length v.luts ≡ length w.luts) where
  nodes-alike : (o : ℕ) → o < length v.nodes → read_count v o ≡ read_count w o → NodesAlike (node_at v.nodes o) (node_at w.nodes o)
  nodes-alike o h r =
      let x = f.node_fits o h in
      let y = g.node_fits o (subst (λ (n : ℕ). o < n) (f.node_each ∙ sym g.node_each) h) in
      let fs = free d.inputs d.bound in
      record {
        names = reads-alike x.rises y.rises (let k : length v.luts ≤ 6 = f.few_luts in omega arith) (let k : length w.luts ≤ 6 = g.few_luts in omega arith) r;
        digits = x.counted ∙ ap (λ (n : ℕ). 2 ^ (n + length fs)) r ∙ sym y.counted;
      }

  same_length : ((o : ℕ) → o < length v.nodes → read_count v o ≡ read_count w o) → length (print_network d v) ≡ length (print_network d w)
  unfolding print_network network_lines
  same_length r =
      ended-alike
      (alike_more {a = network_line} {b = network_line} refl
      (alike-append (lut_lines_alike d.bound 0 v.luts w.luts e (λ j h. f.lut_digits j h ∙ sym (g.lut_digits j (subst (λ (n : ℕ). j < n) e h))))
      (alike-append (node_lines_alike (free d.inputs d.bound) (output_names d.outputs) v.nodes w.nodes (f.node_each ∙ sym g.node_each) (λ o h. nodes-alike o h (r o h)))
      (alike_more {a = print_count (length v.luts)} {b = print_count (length w.luts)} (ap (λ (n : ℕ). length (print_count n)) e)
      (alike_self (end_line ∷ []))))))

-- ---- permitted networks of one design have sheets of one length
pub permitted_length : (d : Design) (v w : Network)
    → Proper d
    → Permitted d v
    → Permitted d w
    → length (print_network d v) ≡ length (print_network d w)
permitted_length d v w f p q =
    same_length d v w p.wellformed q.wellformed (permitted_count d v w p q)
    (λ o h. permitted_reads d v w o f p q (subst (λ (n : ℕ). o < n) p.wellformed.node_each h))
