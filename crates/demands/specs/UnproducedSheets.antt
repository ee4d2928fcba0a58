-- What WorkedUnproduced says of sheet G at limit 2, and of the sheet with g and h, holds of the definitions: g reads one table,
-- which is 0 at vertex 0 and so must be (xor a b), h reads one, which must be (and a b), and no vertex has 1 in both.
-- Assumes nothing.
use Rattle.std.specs.Prelude.{◌≡◌, refl, ◌⊎◌, ℕ, zero, suc, ◌+◌, ◌*◌, ◌/◌, ◌≤◌, ◌<◌, length}
use Rattle.std.proofs.Common.{sym, ◌∙◌, inl, inr, lit<, lit≤}
use Rattle.std.proofs.Math.Path.{ap, subst}
use Rattle.std.proofs.Math.Bool.{Bool, true, false}
use mathlib.Core.List.{List, [], ◌∷◌}
use Rattle.std.proofs.Math.Logic.{⊎_elim}
use native.Mathlib.Omega.{arith}
use Rattle.std.proofs.Math.ListN.{get_or}
use Rattle.bits.specs.LogicLaws.{true_false}
use Rattle.rows.specs.Row.{row_of}
use Rattle.sheet.specs.Value.{output_on}
use Rattle.network.specs.Network.{Network}
use Rattle.network.specs.Reads.{Rising, rising_none, rising_more}
use Rattle.network.specs.NetworkFor.{node_at}
use Rattle.network.specs.Value.{lut_at, code_at, node_row}
use Rattle.demands.specs.Computing.{computing}
use Rattle.demands.specs.NeededCells.{two-needed}
use Rattle.mapper.specs.Map.{Permitted}
use Rattle.demands.specs.Designs.{design_g, design_forced, bits, node, network}
use Rattle.demands.specs.FirstTest.{Ask, asking, Tested, Plain, testing}
use Rattle.demands.specs.Worked.{sheet_g, Prints}
use Rattle.demands.specs.WorkedUnproduced.{Unproduced, network_g, rival_g, sheet_forced, network_forced, WorkedUnproduced}
use Rattle.demands.specs.WorkedLaws.{Fewest, fewest_of, prints_tested}

abbrev g_network : Network
g_network = network (bits "0001" ∷ bits "0110" ∷ []) (node (0 ∷ 1 ∷ []) (bits "0000010100110000") ∷ [])

-- a vertex is one of four
four_vertices : (P : ℕ → Type 0) → P 0 → P 1 → P 2 → P 3 → (x : ℕ) → x < 4 → P x
four_vertices P p q r s zero h = p
four_vertices P p q r s (suc zero) h = q
four_vertices P p q r s (suc (suc zero)) h = r
four_vertices P p q r s (suc (suc (suc zero))) h = s
four_vertices P p q r s (suc (suc (suc (suc x)))) h = absurd (omega arith)

g_fewest : Fewest (sheet_g "2") (network_g "0000") (design_g 2) g_network
unfolding computing
g_fewest = fewest_of refl refl refl refl (lit≤ tt) (two-needed (design_g 2) 0 0 0 0 1 3 refl refl refl)

-- f has to tell its three classes apart: vertex 0, vertices 1 and 2, vertex 3
abbrev g_asks : List Ask
g_asks = asking 2 ((0, 1) ∷ (0, 2) ∷ (0, 3) ∷ (1, 3) ∷ (2, 3) ∷ []) ∷ []

g_tested : Tested (design_g 2) 3 g_network g_asks
unfolding computing testing
g_tested =
    record {
      vertices = refl;
      counted = refl;
      asked = (record { reads = refl; tells = refl }, tt);
      tables = refl;
      reads = (refl, tt);
    }

g_plain : Plain (design_g 2) g_network
unfolding computing testing
g_plain = record { zero_first = (refl, (refl, tt)); entries = (refl, tt) }

g_printed : Prints (sheet_g "2") 2 (network_g "0000")
unfolding computing
g_printed = prints_tested (sheet_g "2") (network_g "0000") (design_g 2) g_network g_fewest refl 3 g_asks g_plain g_tested

g_zero : (w : Network)
    → Permitted (design_g 2) w
    → (code y : ℕ)
    → y < 4
    → Unproduced (design_g 2) w 0 code
    → get_or (node_at w.nodes 0).digits (code * 4 + y) false ≡ false
unfolding computing
g_zero w p code y h n =
    let q : (code * 4 + y) / 4 ≡ code = omega arith in
    p.unproduced 0 (code * 4 + y) (lit< tt) (λ x l e. n x l (e ∙ q))

rival_unproduced : Unproduced (design_g 2) rival_g 0 3
unfolding computing
rival_unproduced =
    four_vertices (λ (x : ℕ). code_at rival_g (0 ∷ 1 ∷ []) x ≡ 3 → ⊥)
    (λ e. omega (arith, e)) (λ e. omega (arith, e)) (λ e. omega (arith, e)) (λ e. omega (arith, e))

rival_no : Permitted (design_g 2) rival_g → ⊥
unfolding computing
rival_no p = true_false (g_zero rival_g p 3 0 (lit< tt) rival_unproduced)

-- ---- G with g and h: these force the tables
abbrev forced_network : Network
forced_network =
    network (bits "0001" ∷ bits "0110" ∷ [])
    (node (0 ∷ 1 ∷ []) (bits "0000010100110000")
    ∷ node (1 ∷ []) (bits "00111100")
    ∷ node (0 ∷ []) (bits "00111100")
    ∷ [])

forced_fewest : Fewest sheet_forced (network_forced "0000") design_forced forced_network
unfolding computing
forced_fewest =
    fewest_of refl refl refl refl (lit≤ tt) (two-needed design_forced 0 0 0 0 1 3 refl refl refl)

-- g has to tell vertices with different (xor a b) apart, h vertex 3 from the others
abbrev forced_asks : List Ask
forced_asks =
    asking 2 ((0, 1) ∷ (0, 2) ∷ (0, 3) ∷ (1, 3) ∷ (2, 3) ∷ [])
    ∷ asking 1 ((0, 1) ∷ (0, 2) ∷ (3, 1) ∷ (3, 2) ∷ [])
    ∷ asking 1 ((0, 3) ∷ (1, 3) ∷ (2, 3) ∷ [])
    ∷ []

forced_tested : Tested design_forced 3 forced_network forced_asks
unfolding computing testing
forced_tested =
    record {
      vertices = refl;
      counted = refl;
      asked = (record { reads = refl; tells = refl }, (record { reads = refl; tells = refl }, (record { reads = refl; tells = refl }, tt)));
      tables = refl;
      reads = (refl, (refl, (refl, tt)));
    }

forced_plain : Plain design_forced forced_network
unfolding computing testing
forced_plain = record { zero_first = (refl, (refl, tt)); entries = (refl, (refl, (refl, tt))) }

forced_printed : Prints sheet_forced 2 (network_forced "0000")
unfolding computing
forced_printed =
    prints_tested sheet_forced (network_forced "0000") design_forced forced_network forced_fewest refl 3 forced_asks forced_plain forced_tested

-- an output of width 1 reads one table or none
one_or_none : {u : ℕ} {is : List ℕ}
    → Rising 0 u is
    → length is ≤ 1
    → (is ≡ []) ⊎ ((i : ℕ) × (i < u) × (is ≡ i ∷ []))
one_or_none rising_none h = inl refl
one_or_none (rising_more {j = j} a b rising_none) h = inr (j, b, refl)
one_or_none (rising_more a b (rising_more c d r)) h = absurd (omega (arith, h))

-- what a digit is that is looked up with another value than false
told_true : (look : Bool → Bool) (b : Bool) → look false ≡ false → look b ≡ true → b ≡ true
told_true look true e f = refl
told_true look false e f = absurd (true_false (sym f ∙ e))

told_false : (look : Bool → Bool) (b : Bool) → look true ≡ true → look b ≡ false → b ≡ false
told_false look true e f = absurd (true_false (sym e ∙ f))
told_false look false e f = refl

module _ (w : Network) (p : Permitted design_forced w) where
  abbrev reads : ℕ → List ℕ
  reads o = (node_at w.nodes o).reads

  -- output o where its node reads the tables is
  valued : (o r : ℕ) (is : List ℕ)
      → o < 3
      → r < 16
      → reads o ≡ is
      → get_or (node_at w.nodes o).digits (node_row design_forced w is r) false ≡ output_on design_forced o r
  unfolding computing
  valued o r is h k e =
      ap (λ (js : List ℕ). get_or (node_at w.nodes o).digits (node_row design_forced w js r) false) (sym e) ∙ p.computes.agrees o r h k

  few : length w.luts ≤ 2
  few = p.within.luts-within

  rises : (o : ℕ) → o < 3 → Rising 0 (length w.luts) (reads o)
  rises o h = (p.wellformed.node_fits o (subst (λ (n : ℕ). o < n) (sym p.wellformed.node_each) h)).rises

  -- g's table: 0110
  record XorTable (i : ℕ) : Type 0 where
    pub is_table : i < length w.luts
    pub at-0 : lut_at w i 0 ≡ false
    pub at-3 : lut_at w i 3 ≡ false

  -- h's table: 0001
  record AndTable (i : ℕ) : Type 0 where
    pub is_table : i < length w.luts
    pub at_1 : lut_at w i 1 ≡ false
    pub at-2 : lut_at w i 2 ≡ false

  g_reads : (i : ℕ) → i < length w.luts → reads 1 ≡ i ∷ [] → XorTable i
  unfolding computing
  g_reads i h e =
      let look : Bool → Bool = λ b. get_or (node_at w.nodes 1).digits (row_of (b ∷ false ∷ false ∷ [])) false in
      let z = p.zero_first i h in
      let e0 : look false ≡ false = subst (λ (b : Bool). look b ≡ false) z (valued 1 0 (i ∷ []) (lit< tt) (lit< tt) e) in
      let t1 : lut_at w i 1 ≡ true = told_true look (lut_at w i 1) e0 (valued 1 4 (i ∷ []) (lit< tt) (lit< tt) e) in
      let e1 : look true ≡ true = subst (λ (b : Bool). look b ≡ true) t1 (valued 1 4 (i ∷ []) (lit< tt) (lit< tt) e) in
      record {
        is_table = h;
        at-0 = z;
        at-3 = told_false look (lut_at w i 3) e1 (valued 1 12 (i ∷ []) (lit< tt) (lit< tt) e);
      }

  h_reads : (i : ℕ) → i < length w.luts → reads 2 ≡ i ∷ [] → AndTable i
  unfolding computing
  h_reads i h e =
      let look : Bool → Bool = λ b. get_or (node_at w.nodes 2).digits (row_of (b ∷ false ∷ false ∷ [])) false in
      let e0 : look false ≡ false = subst (λ (b : Bool). look b ≡ false) (p.zero_first i h) (valued 2 0 (i ∷ []) (lit< tt) (lit< tt) e) in
      let t3 : lut_at w i 3 ≡ true = told_true look (lut_at w i 3) e0 (valued 2 12 (i ∷ []) (lit< tt) (lit< tt) e) in
      let e3 : look true ≡ true = subst (λ (b : Bool). look b ≡ true) t3 (valued 2 12 (i ∷ []) (lit< tt) (lit< tt) e) in
      record {
        is_table = h;
        at_1 = told_false look (lut_at w i 1) e3 (valued 2 4 (i ∷ []) (lit< tt) (lit< tt) e);
        at-2 = told_false look (lut_at w i 2) e3 (valued 2 8 (i ∷ []) (lit< tt) (lit< tt) e);
      }

  -- without a table g and h would have one value where a, b and c are 0 and where a or both are 1
  xor_table : (i : ℕ) × XorTable i
  unfolding computing
  xor_table =
      ⊎_elim
      (λ e. absurd (true_false (sym (valued 1 4 [] (lit< tt) (lit< tt) e) ∙ valued 1 0 [] (lit< tt) (lit< tt) e)))
      (λ (i, h, e). (i, g_reads i h e))
      (one_or_none (rises 1 (lit< tt)) (p.within.reads-within 1 (subst (λ (n : ℕ). 1 < n) (sym p.wellformed.node_each) (lit< tt))))

  and_table : (i : ℕ) × AndTable i
  unfolding computing
  and_table =
      ⊎_elim
      (λ e. absurd (true_false (sym (valued 2 12 [] (lit< tt) (lit< tt) e) ∙ valued 2 0 [] (lit< tt) (lit< tt) e)))
      (λ (i, h, e). (i, h_reads i h e))
      (one_or_none (rises 2 (lit< tt)) (p.within.reads-within 2 (subst (λ (n : ℕ). 2 < n) (sym p.wellformed.node_each) (lit< tt))))

  -- ---- no vertex has 1 in two tables
  either_table : (P : ℕ → Type 0) → P 0 → P 1 → (i : ℕ) → i < length w.luts → P i
  either_table P a b zero h = a
  either_table P a b (suc zero) h = b
  either_table P a b (suc (suc i)) h = absurd (omega (arith, few))

  not_both : (x : ℕ) → x < 4 → lut_at w 0 x ≡ true → lut_at w 1 x ≡ true → ⊥
  not_both =
      let (i, t) = xor_table in
      let (j, u) = and_table in
      four_vertices (λ (x : ℕ). lut_at w 0 x ≡ true → lut_at w 1 x ≡ true → ⊥)
      (λ a b. true_false (sym (either_table (λ k. lut_at w k 0 ≡ true) a b i t.is_table) ∙ t.at-0))
      (λ a b. true_false (sym (either_table (λ k. lut_at w k 1 ≡ true) a b j u.is_table) ∙ u.at_1))
      (λ a b. true_false (sym (either_table (λ k. lut_at w k 2 ≡ true) a b j u.is_table) ∙ u.at-2))
      (λ a b. true_false (sym (either_table (λ k. lut_at w k 3 ≡ true) a b i t.is_table) ∙ t.at-3))

  both_digits : (a b : Bool) → row_of (a ∷ b ∷ []) ≡ 3 → (a ≡ true) × (b ≡ true)
  unfolding row_of
  both_digits true true e = (refl, refl)
  both_digits true false e = absurd (omega (arith, e))
  both_digits false true e = absurd (omega (arith, e))
  both_digits false false e = absurd (omega (arith, e))

  one-digit : (a : Bool) → row_of (a ∷ []) ≡ 3 → ⊥
  unfolding row_of
  one-digit true e = omega (arith, e)
  one-digit false e = omega (arith, e)

  code_3 : (is : List ℕ) → Rising 0 (length w.luts) is → (x : ℕ) → x < 4 → code_at w is x ≡ 3 → ⊥
  unfolding row_of
  code_3 [] rising_none x h e = omega (arith, e)
  code_3 (i ∷ []) (rising_more a b rising_none) x h e = one-digit (lut_at w i x) e
  code_3 (i ∷ j ∷ []) (rising_more a b (rising_more c d rising_none)) x h e =
      let zero_is : i ≡ 0 = omega (arith, few, a, b, c, d) in
      let one-is : j ≡ 1 = omega (arith, few, a, b, c, d) in
      let (f, g) = both_digits (lut_at w i x) (lut_at w j x) e in
      not_both x h (subst (λ (k : ℕ). lut_at w k x ≡ true) zero_is f) (subst (λ (k : ℕ). lut_at w k x ≡ true) one-is g)
  code_3 (i ∷ j ∷ k ∷ is) (rising_more a b (rising_more c d (rising_more e' f r))) x h e = absurd (omega (arith, few, a, b, c, d, e', f))

  forced_zero : (y : ℕ) → y < 4 → get_or (node_at w.nodes 0).digits (12 + y) false ≡ false
  unfolding computing
  forced_zero y h =
      let q : (12 + y) / 4 ≡ 3 = omega arith in
      p.unproduced 0 (12 + y) (lit< tt) (λ x l e. code_3 (reads 0) (rises 0 (lit< tt)) x l (e ∙ q))

pub worked_unproduced : WorkedUnproduced
unfolding computing
worked_unproduced =
    record {
      said_g = refl;
      prints_g = g_printed;
      bytes_g = refl;
      zero_g = g_zero;
      same_g = refl;
      rival_g_lem = refl;
      rival_said = refl;
      not_permitted_g = rival_no;
      said_forced = refl;
      prints_forced = forced_printed;
      bytes_forced = refl;
      zero_forced = forced_zero;
      same_forced = refl;
      rival_forced = refl;
    }
