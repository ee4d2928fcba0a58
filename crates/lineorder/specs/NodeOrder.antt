-- Node lines of one output whose nodes read equally many shared tables: the first table in which they differ decides, then the
-- digits. The bytes of names decide nothing: the lines have the same names at the same places, and as the lists are of equal
-- length, the name of a table never stands against a free name, which may be above it or below. Assumes nothing.
use Rattle.std.specs.Prelude.{◌≡◌, refl, Bool, true, false, List, [], ◌∷◌, ◌++◌, map, length}
use Rattle.std.proofs.Common.{sym, ap, ap₂, ◌∙◌, append_assoc, arith}
use Prim.Native.Nat.{ℕ, suc, ◌+◌, ◌≤◌, ◌<◌, Ordering, compare}
use Rattle.text.specs.Bytes.{newline, close_bracket}
use Rattle.text.specs.FigureLaws.{print_digit}
use Rattle.names.specs.Name.{Name}
use Rattle.network.specs.Network.{Node}
use Rattle.network.specs.Printer.{led, led_all, lut_name, print_digits, node_head, print_node}
use Rattle.network.specs.Reads.{Rising, rising_none, rising_more}
use Rattle.order.specs.Order.{then, list_order, byte_order}
use Rattle.order.specs.OrderLaws.{compare_total, compare_shift, same-front, front_first}
use Rattle.order.specs.OrderLaws.{then_then, then-eq, then_equal, lt_not_eq, gt_not_eq}
use Rattle.lineorder.specs.LineOrder.{line_order}

-- ======== definitions
-- the first table that differs decides; the end of a list comes after any table
unfoldable pub reads_order : List ℕ → List ℕ → Ordering
reads_order [] [] = Ordering.eq
reads_order [] (j ∷ js) = Ordering.gt
reads_order (i ∷ is) [] = Ordering.lt
reads_order (i ∷ is) (j ∷ js) =
    let rest = reads_order is js in
    then (compare i j) rest

-- the line from the end of its list on, after the bracket
abbrev pub line_rest : Node → List ℕ
line_rest x = 0x20 ∷ (print_digits x.digits ++ (close_bracket ∷ newline ∷ []))

-- ======== laws
pub reads_equal : (is js : List ℕ) → reads_order is js ≡ Ordering.eq → is ≡ js
unfolding reads_order
reads_equal [] [] e = refl
reads_equal [] (j ∷ js) e = absurd (gt_not_eq e)
reads_equal (i ∷ is) [] e = absurd (lt_not_eq e)
reads_equal (i ∷ is) (j ∷ js) e =
    let p = then_equal (compare i j) (reads_order is js) e in
    ap₂ (λ (z : ℕ) (l : List ℕ). z ∷ l) (compare_total.equal i j p.0) (reads_equal is js p.1)

-- ---- the names of shared tables
name-bytes : (i : ℕ) → i < 10 → lut_name i ≡ 0x5F ∷ (48 + i) ∷ []
unfolding lut_name
name-bytes i l = ap (λ (s : List ℕ). 0x5F ∷ s) (print_digit i l)

led_long : (first : Bool) (i j : ℕ) → i < 10 → j < 10 → length (led first (lut_name i)) ≡ length (led first (lut_name j))
led_long true i j a b = ap length (name-bytes i a) ∙ sym (ap length (name-bytes j b))
led_long false i j a b = ap (λ (l : List ℕ). suc (length l)) (name-bytes i a) ∙ sym (ap (λ (l : List ℕ). suc (length l)) (name-bytes j b))

led_order : (first : Bool) (i j : ℕ) → i < 10 → j < 10 → byte_order (led first (lut_name i)) (led first (lut_name j)) ≡ compare i j
unfolding list_order
led_order true i j a b = ap₂ byte_order (name-bytes i a) (name-bytes j b) ∙ then-eq (compare (48 + i) (48 + j)) ∙ compare_shift 48 i j
led_order false i j a b =
    ap₂ (λ (x y : List ℕ). byte_order (0x20 ∷ x) (0x20 ∷ y)) (name-bytes i a) (name-bytes j b)
    ∙ then-eq (compare (48 + i) (48 + j)) ∙ compare_shift 48 i j

-- ---- lists of tables and free names
list_order_lem : (first : Bool) (fs : List Name) {m k u v : ℕ} {is js : List ℕ} (s t : List ℕ)
    → length is ≡ length js
    → Rising m u is
    → Rising k v js
    → u ≤ 10
    → v ≤ 10
    → byte_order (led_all first (map lut_name is ++ fs) ++ (close_bracket ∷ s)) (led_all first (map lut_name js ++ fs) ++ (close_bracket ∷ t))
    ≡ then (reads_order is js) (byte_order s t)
unfolding reads_order led_all list_order
list_order_lem first fs s t e rising_none rising_none a b =
    same-front compare compare_total (led_all first fs) (close_bracket ∷ s) (close_bracket ∷ t)
list_order_lem first fs s t e rising_none (rising_more x y r) a b = absurd (omega (arith, e))
list_order_lem first fs s t e (rising_more x y r) rising_none a b = absurd (omega (arith, e))
list_order_lem first fs s t e (rising_more {j = i} {js = is} x y r) (rising_more {j = j} {js = js} p q z) a b =
    let A = led_all false (map lut_name is ++ fs) in
    let B = led_all false (map lut_name js ++ fs) in
    ap₂ byte_order (append_assoc (led first (lut_name i)) A (close_bracket ∷ s)) (append_assoc (led first (lut_name j)) B (close_bracket ∷ t))
    ∙ front_first compare (led first (lut_name i)) (led first (lut_name j)) (A ++ (close_bracket ∷ s)) (B ++ (close_bracket ∷ t))
    (led_long first i j (omega arith) (omega arith))
    ∙ ap₂ then (led_order first i j (omega arith) (omega arith))
    (list_order_lem false fs s t (let g : suc (length is) ≡ suc (length js) = e in omega arith) r z a b)
    ∙ sym (then_then (compare i j) (reads_order is js) (byte_order s t))

-- ---- node lines
ended-node : (n : Name) (fs : List Name) (x : Node)
    → print_node n fs x ++ (newline ∷ []) ≡ node_head n ++ (led_all true (map lut_name x.reads ++ fs) ++ (close_bracket ∷ line_rest x))
unfolding print_node
ended-node n fs x =
    let L = led_all true (map lut_name x.reads ++ fs) in
    let D = print_digits x.digits in
    append_assoc (node_head n) (L ++ (close_bracket ∷ 0x20 ∷ (D ++ (close_bracket ∷ [])))) (newline ∷ [])
    ∙ ap (λ (l : List ℕ). node_head n ++ l)
    (append_assoc L (close_bracket ∷ 0x20 ∷ (D ++ (close_bracket ∷ []))) (newline ∷ [])
    ∙ ap (λ (l : List ℕ). L ++ (close_bracket ∷ 0x20 ∷ l)) (append_assoc D (close_bracket ∷ []) (newline ∷ [])))

pub node_order : (n : Name) (fs : List Name) (u : ℕ) (x y : Node)
    → length x.reads ≡ length y.reads
    → Rising 0 u x.reads
    → Rising 0 u y.reads
    → u ≤ 10
    → line_order (print_node n fs x) (print_node n fs y)
    ≡ then (reads_order x.reads y.reads) (byte_order (line_rest x) (line_rest y))
unfolding line_order
node_order n fs u x y e r z a =
    ap₂ byte_order (ended-node n fs x) (ended-node n fs y)
    ∙ same-front compare compare_total (node_head n)
    (led_all true (map lut_name x.reads ++ fs) ++ (close_bracket ∷ line_rest x))
    (led_all true (map lut_name y.reads ++ fs) ++ (close_bracket ∷ line_rest y))
    ∙ list_order_lem true fs (line_rest x) (line_rest y) e r z a a
