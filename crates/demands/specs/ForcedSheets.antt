-- Sheets A, F and H: their networks are forced. With U known, each node reads every table that there is; the first table is
-- 0 at vertex 0, a vertex whose value differs from a known one's has the other digit, and the nodes' digits follow.
-- Assumes nothing.
use Rattle.std.specs.Prelude.{◌≡◌, refl, Bool, true, false, not, List, [], ◌∷◌, ℕ, ◌+◌, ◌^◌, ◌<◌, length, get_or}
use Rattle.std.proofs.Common.{sym, ap, ap₂, ◌∙◌, subst, arith, lit<, lit≤}
use Rattle.bits.specs.LogicLaws.{true_false}
use Rattle.rows.specs.Row.{row_of}
use Rattle.sheet.specs.Examine.{Design}
use Rattle.design.specs.Sheets.{design_a}
use Rattle.classes.specs.Columns.{free}
use Rattle.network.specs.Network.{Network}
use Rattle.network.specs.Reads.{Rising, rising_none, rising_more}
use Rattle.network.specs.NetworkFor.{node_at}
use Rattle.network.specs.Answers.{Computes, read_count}
use Rattle.demands.specs.Each.{digits_are}
use Rattle.demands.specs.Computing.{computing}
use Rattle.demands.specs.NeededCells.{AtLeast, one-needed}
use Rattle.demands.specs.FirstTest.{Plain, testing}
use Rattle.mapper.specs.Map.{Permitted}
use Rattle.demands.specs.Designs.{design_f, design_h, bits, node, network}
use Rattle.demands.specs.Worked.{sheet_a, network_a, sheet_f, network_f, sheet_h, network_h, Prints}
use Rattle.demands.specs.WorkedLaws.{Fewest, fewest_of, count_of, reads_of, prints_only}

-- ---- lists of one and two
none_of : {A : Type 0} (l : List A) → length l ≡ 0 → l ≡ []
none_of [] e = refl
none_of (a ∷ l) e = absurd (omega (arith, e))

one_of : {A : Type 0} (a : A) (l : List A) → length l ≡ 1 → l ≡ get_or l 0 a ∷ []
one_of a [] e = absurd (omega (arith, e))
one_of a (b ∷ []) e = refl
one_of a (b ∷ c ∷ l) e = absurd (omega (arith, e))

two_of : {A : Type 0} (a : A) (l : List A) → length l ≡ 2 → l ≡ get_or l 0 a ∷ get_or l 1 a ∷ []
two_of a [] e = absurd (omega (arith, e))
two_of a (b ∷ []) e = absurd (omega (arith, e))
two_of a (b ∷ c ∷ []) e = refl
two_of a (b ∷ c ∷ d ∷ l) e = absurd (omega (arith, e))

-- a node that reads one of one table reads table 0
first_read : {is : List ℕ} → Rising 0 1 is → length is ≡ 1 → is ≡ 0 ∷ []
first_read rising_none e = absurd (omega (arith, e))
first_read (rising_more {j = j} a b rising_none) e = ap (λ (i : ℕ). i ∷ []) (let q : j ≡ 0 = omega (arith, a, b) in q)
first_read (rising_more a b (rising_more c d r)) e = absurd (omega (arith, e))

-- ---- a digit by what is looked up with it
other_than_false : (look : Bool → Bool) (b c : Bool) → look b ≡ true → look c ≡ false → b ≡ not c
other_than_false look true true e f = absurd (true_false (sym e ∙ f))
other_than_false look true false e f = refl
other_than_false look false true e f = refl
other_than_false look false false e f = absurd (true_false (sym e ∙ f))

other_than_true : (look : Bool → Bool) (b c : Bool) → look b ≡ false → look c ≡ true → b ≡ not c
other_than_true look true true e f = absurd (true_false (sym f ∙ e))
other_than_true look true false e f = refl
other_than_true look false true e f = refl
other_than_true look false false e f = absurd (true_false (sym f ∙ e))

-- ---- F
f_cells : AtLeast 0 design_f
f_cells = record { cells = λ l s. omega arith }

abbrev f_network : Network
f_network = network [] (node [] (bits "0111") ∷ [])

f_fewest : Fewest sheet_f network_f design_f f_network
unfolding computing
f_fewest = fewest_of refl refl refl refl (lit≤ tt) f_cells

f_node : (ds : List Bool) → length ds ≡ 4 → Computes design_f (network [] (node [] ds ∷ [])) → ds ≡ bits "0111"
unfolding computing
f_node ds e c =
    digits_are ds (bits "0111") e (
      c.agrees 0 0 (lit< tt) (lit< tt),
      (c.agrees 0 1 (lit< tt) (lit< tt), (c.agrees 0 2 (lit< tt) (lit< tt), (c.agrees 0 3 (lit< tt) (lit< tt), tt))),
    )

f_shape : (w : Network) → length w.luts ≡ 0 → length w.nodes ≡ 1 → length (node_at w.nodes 0).reads ≡ 0 → w ≡ network [] (node [] (node_at w.nodes 0).digits ∷ [])
f_shape w a b c =
    ap₂ network (none_of w.luts a)
    (one_of (node [] []) w.nodes b ∙ ap (λ (is : List ℕ). node is (node_at w.nodes 0).digits ∷ []) (none_of (node_at w.nodes 0).reads c))

f_only : (w : Network) → Permitted design_f w → w ≡ f_network
unfolding computing
f_only w p =
    let a = count_of sheet_f network_f design_f f_network f_fewest w p in
    let b = p.wellformed.node_each in
    let c : length (node_at w.nodes 0).reads ≡ 0 = reads_of sheet_f network_f design_f f_network f_fewest w p 0 (lit< tt) in
    let e = f_shape w a b c in
    let ds = (node_at w.nodes 0).digits in
    let n : length ds ≡ 4 = (p.wellformed.node_fits 0 (subst (λ (k : ℕ). 0 < k) (sym b) (lit< tt))).counted ∙ ap (λ (k : ℕ). 2 ^ (k + 2)) c in
    e ∙ ap (λ (x : List Bool). network [] (node [] x ∷ [])) (f_node ds n (subst (Computes design_f) e p.computes))

f_plain : Plain design_f f_network
unfolding computing testing
f_plain = record { zero_first = tt; entries = (refl, tt) }

pub f_printed : Prints sheet_f 0 network_f
unfolding computing
f_printed = prints_only sheet_f network_f design_f f_network f_fewest refl f_plain f_only

-- ---- H
h_cells : AtLeast 1 design_h
unfolding computing
h_cells = one-needed design_h 0 0 3 refl

abbrev h_network : Network
h_network = network (bits "0001" ∷ []) (node (0 ∷ []) (bits "01") ∷ [])

h_fewest : Fewest sheet_h network_h design_h h_network
unfolding computing
h_fewest = fewest_of refl refl refl refl (lit≤ tt) h_cells

-- a network of one table and one node that reads it
abbrev one_node : List Bool → List Bool → Network
one_node t fs = network (t ∷ []) (node (0 ∷ []) fs ∷ [])

h_tables : (t fs : List Bool)
    → length t ≡ 4
    → length fs ≡ 2
    → get_or t 0 false ≡ false
    → Computes design_h (one_node t fs)
    → one_node t fs ≡ h_network
unfolding computing
h_tables t fs m n z c =
    let look : Bool → Bool = λ b. get_or fs (row_of (b ∷ [])) false in
    let e0 : look false ≡ false = subst (λ (b : Bool). look b ≡ false) z (c.agrees 0 0 (lit< tt) (lit< tt)) in
    let t3 : get_or t 3 false ≡ true = other_than_false look (get_or t 3 false) false (c.agrees 0 3 (lit< tt) (lit< tt)) e0 in
    let e3 : look true ≡ true = subst (λ (b : Bool). look b ≡ true) t3 (c.agrees 0 3 (lit< tt) (lit< tt)) in
    let t1 : get_or t 1 false ≡ false = other_than_true look (get_or t 1 false) true (c.agrees 0 1 (lit< tt) (lit< tt)) e3 in
    let t2 : get_or t 2 false ≡ false = other_than_true look (get_or t 2 false) true (c.agrees 0 2 (lit< tt) (lit< tt)) e3 in
    ap₂ one_node (digits_are t (bits "0001") m (z, (t1, (t2, (t3, tt))))) (digits_are fs (bits "01") n (e0, (e3, tt)))

h_shape : (w : Network) → length w.luts ≡ 1 → length w.nodes ≡ 1 → (node_at w.nodes 0).reads ≡ 0 ∷ [] → w ≡ one_node (get_or w.luts 0 []) (node_at w.nodes 0).digits
h_shape w a b c =
    ap₂ network (one_of [] w.luts a)
    (one_of (node [] []) w.nodes b ∙ ap (λ (is : List ℕ). node is (node_at w.nodes 0).digits ∷ []) c)

-- what a node reads, and how many digits it has, where there is one table and it reads one
one_read : (d : Design) (w : Network) (o : ℕ)
    → Permitted d w
    → length w.luts ≡ 1
    → o < length d.outputs
    → read_count w o ≡ 1
    → (node_at w.nodes o).reads ≡ 0 ∷ []
one_read d w o p a h e =
    let k = subst (λ (n : ℕ). o < n) (sym p.wellformed.node_each) h in
    first_read (subst (λ (n : ℕ). Rising 0 n (node_at w.nodes o).reads) a (p.wellformed.node_fits o k).rises) e

node_digits : (d : Design) (w : Network) (o : ℕ) → Permitted d w → o < length d.outputs
    → (node_at w.nodes o).reads ≡ 0 ∷ []
    → length (node_at w.nodes o).digits ≡ 2 ^ (1 + length (free d.inputs d.bound))
node_digits d w o p h e =
    (p.wellformed.node_fits o (subst (λ (n : ℕ). o < n) (sym p.wellformed.node_each) h)).counted
    ∙ ap (λ (is : List ℕ). 2 ^ (length is + length (free d.inputs d.bound))) e

h_only : (w : Network) → Permitted design_h w → w ≡ h_network
unfolding computing
h_only w p =
    let a = count_of sheet_h network_h design_h h_network h_fewest w p in
    let r = one_read design_h w 0 p a (lit< tt) (reads_of sheet_h network_h design_h h_network h_fewest w p 0 (lit< tt)) in
    let e = h_shape w a p.wellformed.node_each r in
    let k : 0 < length w.luts = subst (λ (n : ℕ). 0 < n) (sym a) (lit< tt) in
    e
    ∙ h_tables (get_or w.luts 0 []) (node_at w.nodes 0).digits (p.wellformed.lut_digits 0 k) (node_digits design_h w 0 p (lit< tt) r)
    (p.zero_first 0 k) (subst (Computes design_h) e p.computes)

h_plain : Plain design_h h_network
unfolding computing testing
h_plain = record { zero_first = (refl, tt); entries = (refl, tt) }

pub h_printed : Prints sheet_h 1 network_h
unfolding computing
h_printed = prints_only sheet_h network_h design_h h_network h_fewest refl h_plain h_only

-- ---- A
a_cells : AtLeast 1 design_a
unfolding computing
a_cells = one-needed design_a 0 0 1 refl

-- a network of one table and two nodes that read it
abbrev two_nodes : List Bool → List Bool → List Bool → Network
two_nodes t fs gs = network (t ∷ []) (node (0 ∷ []) fs ∷ node (0 ∷ []) gs ∷ [])

abbrev a_network : Network
a_network = two_nodes (bits "01101001") (bits "0110") (bits "0001")

a_fewest : Fewest sheet_a network_a design_a a_network
unfolding computing
a_fewest = fewest_of refl refl refl refl (lit≤ tt) a_cells

-- f without d is the parity of the vertex: the table has f's value there, since it is 0 at vertex 0
a_table : (t fs gs : List Bool) → length t ≡ 8 → get_or t 0 false ≡ false → Computes design_a (two_nodes t fs gs) → t ≡ bits "01101001"
unfolding computing
a_table t fs gs m z c =
    let look : Bool → Bool = λ b. get_or fs (row_of (b ∷ false ∷ [])) false in
    let at : ℕ → Bool = λ x. get_or t x false in
    let e0 : look false ≡ false = subst (λ (b : Bool). look b ≡ false) z (c.agrees 0 0 (lit< tt) (lit< tt)) in
    let t1 : at 1 ≡ true = other_than_false look (at 1) false (c.agrees 0 2 (lit< tt) (lit< tt)) e0 in
    let e1 : look true ≡ true = subst (λ (b : Bool). look b ≡ true) t1 (c.agrees 0 2 (lit< tt) (lit< tt)) in
    let t2 : at 2 ≡ true = other_than_false look (at 2) false (c.agrees 0 4 (lit< tt) (lit< tt)) e0 in
    let t3 : at 3 ≡ false = other_than_true look (at 3) true (c.agrees 0 6 (lit< tt) (lit< tt)) e1 in
    let t4 : at 4 ≡ true = other_than_false look (at 4) false (c.agrees 0 8 (lit< tt) (lit< tt)) e0 in
    let t5 : at 5 ≡ false = other_than_true look (at 5) true (c.agrees 0 10 (lit< tt) (lit< tt)) e1 in
    let t6 : at 6 ≡ false = other_than_true look (at 6) true (c.agrees 0 12 (lit< tt) (lit< tt)) e1 in
    let t7 : at 7 ≡ true = other_than_false look (at 7) false (c.agrees 0 14 (lit< tt) (lit< tt)) e0 in
    digits_are t (bits "01101001") m (z, (t1, (t2, (t3, (t4, (t5, (t6, (t7, tt))))))))

-- vertices 0 and 1, with and without d, give every digit of the nodes
a_nodes : (fs gs : List Bool) → length fs ≡ 4 → length gs ≡ 4 → Computes design_a (two_nodes (bits "01101001") fs gs) → two_nodes (bits "01101001") fs gs ≡ a_network
unfolding computing
a_nodes fs gs m n c =
    ap₂ (two_nodes (bits "01101001"))
    (digits_are fs (bits "0110") m
    (c.agrees 0 0 (lit< tt) (lit< tt), (c.agrees 0 1 (lit< tt) (lit< tt), (c.agrees 0 2 (lit< tt) (lit< tt), (c.agrees 0 3 (lit< tt) (lit< tt), tt)))))
    (digits_are gs (bits "0001") n
    (c.agrees 1 0 (lit< tt) (lit< tt), (c.agrees 1 1 (lit< tt) (lit< tt), (c.agrees 1 2 (lit< tt) (lit< tt), (c.agrees 1 3 (lit< tt) (lit< tt), tt)))))

a_tables : (t fs gs : List Bool) → length t ≡ 8 → length fs ≡ 4 → length gs ≡ 4 → get_or t 0 false ≡ false → Computes design_a (two_nodes t fs gs) → two_nodes t fs gs ≡ a_network
a_tables t fs gs k m n z c =
    let e = ap (λ (x : List Bool). two_nodes x fs gs) (a_table t fs gs k z c) in
    e ∙ a_nodes fs gs m n (subst (Computes design_a) e c)

a_shape : (w : Network)
    → length w.luts ≡ 1
    → length w.nodes ≡ 2
    → (node_at w.nodes 0).reads ≡ 0 ∷ []
    → (node_at w.nodes 1).reads ≡ 0 ∷ []
    → w ≡ two_nodes (get_or w.luts 0 []) (node_at w.nodes 0).digits (node_at w.nodes 1).digits
a_shape w a b c d =
    ap₂ network (one_of [] w.luts a)
    (two_of (node [] []) w.nodes b
    ∙ ap₂ (λ (is js : List ℕ). node is (node_at w.nodes 0).digits ∷ node js (node_at w.nodes 1).digits ∷ []) c d)

a_only : (w : Network) → Permitted design_a w → w ≡ a_network
unfolding computing
a_only w p =
    let a = count_of sheet_a network_a design_a a_network a_fewest w p in
    let r = one_read design_a w 0 p a (lit< tt) (reads_of sheet_a network_a design_a a_network a_fewest w p 0 (lit< tt)) in
    let q = one_read design_a w 1 p a (lit< tt) (reads_of sheet_a network_a design_a a_network a_fewest w p 1 (lit< tt)) in
    let e = a_shape w a p.wellformed.node_each r q in
    let k : 0 < length w.luts = subst (λ (n : ℕ). 0 < n) (sym a) (lit< tt) in
    e
    ∙ a_tables (get_or w.luts 0 []) (node_at w.nodes 0).digits (node_at w.nodes 1).digits (p.wellformed.lut_digits 0 k)
    (node_digits design_a w 0 p (lit< tt) r) (node_digits design_a w 1 p (lit< tt) q) (p.zero_first 0 k)
    (subst (Computes design_a) e p.computes)

a_plain : Plain design_a a_network
unfolding computing testing
a_plain = record { zero_first = (refl, tt); entries = (refl, (refl, tt)) }

pub a_printed : Prints sheet_a 1 network_a
unfolding computing
a_printed = prints_only sheet_a network_a design_a a_network a_fewest refl a_plain a_only
