-- What the test says: a network that passes it is the first. Assumes nothing.
use Rattle.std.specs.Prelude.{◌≡◌, Bool, false, not, ℕ, zero, suc, ◌+◌, ◌/◌, ◌≤◌, ◌<◌, eqb, leb, get_or}
use Rattle.std.proofs.Math.Path.{refl, sym, subst}
use Rattle.std.proofs.Common.{ap, ap₂, ◌∙◌, ⊎_elim, arith, le-leb, ne_eqb}
use Rattle.std.proofs.Math.Bool.{true}
use mathlib.Core.List.{List, [], ◌∷◌}
use Rattle.std.proofs.Math.Decide.{dec_lt}
use Rattle.std.proofs.Math.ListN.{length, get_or-eq_default}
use Rattle.bits.specs.Logic.{andb, orb, xorb, bit}
use Rattle.bits.specs.LogicLaws.{true_false, and_left, and_right, and_both, complement_true, or_second}
use Rattle.bits.specs.Values.{values_upto}
use Rattle.bits.specs.ValuesLaws.{values_at}
use Rattle.bits.specs.Every.{every}
use Rattle.bits.specs.EveryLaws.{every_at}
use Rattle.order.specs.Total.{NotLess}
use Rattle.order.specs.TablesLaws.{shaped_of}
use Rattle.order.specs.Order.{is_less, table_order, tables_order}
use Rattle.order.specs.Tables.{Shaped, shaped_none, shaped_more}
use Rattle.sheet.specs.Examine.{Design}
use Rattle.sheet.specs.WellFormed.{WellFormed}
use Rattle.classes.specs.ProperLaws.{proper_of}
use Rattle.classes.specs.Columns.{vertex_count, free_count}
use Rattle.network.specs.Network.{Network}
use Rattle.network.specs.NetworkFor.{node_at}
use Rattle.network.specs.NamedLaws.{design-named}
use Rattle.network.specs.Value.{code_at}
use Rattle.cells.specs.Core.{Cell, Apart, reading}
use Rattle.cells.specs.Written.{tables_of, reads_of}
use Rattle.serving.specs.NetworkCore.{network_core, ServesDesign}
use Rattle.serving.specs.Tells.{core-length}
use Rattle.serving.specs.TheoremA.{parts_of}
use Rattle.serving.proofs.Serves.{drawn_serves}
use Rattle.lineorder.specs.NodeOrder.{reads_order}
use Rattle.lineorder.proofs.ChosenOrder.{chosen_order}
use Rattle.lineorder.specs.CoreDigits.{network_tables, reads-length, network-reads}
use Rattle.lineorder.proofs.FirstReads.{first_from_reads}
use Rattle.mapper.specs.Map.{Permitted, First}
use Rattle.mapper.specs.PermittedLaws.{permitted_count}
use Rattle.mapper.specs.FirstLaws.{permitted_settled}
use Rattle.demands.specs.Each.{each_below}
use Rattle.demands.specs.NeededCells.{conflicting, conflicting_below, told}
use Rattle.demands.specs.FirstTest.{every_digits, every_tables, Ask, ask_at, all_conflicting, Asks, ones, tells_pair, tells_all, meets, some_unmet}
use Rattle.demands.specs.FirstTest.{tables_first, reads_first, Tested, produced_or_zero, Plain}

-- ---- truth values
-- a or not b, where b holds
or_not : (a b : Bool) → orb a (not b) ≡ true → b ≡ true → a ≡ true
or_not true b e f = refl
or_not false true e f = absurd (true_false (sym e))
or_not false false e f = absurd (true_false (sym f))

or_none : (a b : Bool) → orb a b ≡ true → (a ≡ true → ⊥) → (b ≡ true → ⊥) → ⊥
or_none true b e f g = f refl
or_none false b e f g = g e

or_first : (a b : Bool) → orb a b ≡ true → (b ≡ true → ⊥) → a ≡ true
or_first true b e g = refl
or_first false b e g = absurd (g e)

-- ---- all lists
every_digits_lem : (n : ℕ) (p : List Bool → Bool) → every_digits n p ≡ true → (ds : List Bool) → length ds ≡ n → p ds ≡ true
unfolding every_digits
every_digits_lem zero p e [] h = e
every_digits_lem zero p e (b ∷ ds) h = absurd (omega (arith, h))
every_digits_lem (suc n) p e [] h = absurd (omega (arith, h))
every_digits_lem (suc n) p e (false ∷ ds) h =
    every_digits_lem n (λ es. p (false ∷ es)) (and_left (every_digits n (λ es. p (false ∷ es))) (every_digits n (λ es. p (true ∷ es))) e) ds
    (let q : suc (length ds) ≡ suc n = h in omega arith)
every_digits_lem (suc n) p e (true ∷ ds) h =
    every_digits_lem n (λ es. p (true ∷ es)) (and_right (every_digits n (λ es. p (false ∷ es))) (every_digits n (λ es. p (true ∷ es))) e) ds
    (let q : suc (length ds) ≡ suc n = h in omega arith)

every_tables_lem : (u n : ℕ) (p : List (List Bool) → Bool)
    → every_tables u n p ≡ true
    → (ts : List (List Bool))
    → Shaped (suc n) u ts
    → ((i : ℕ) → i < u → get_or (get_or ts i []) 0 false ≡ false)
    → p ts ≡ true
unfolding every_tables
every_tables_lem zero n p e ts shaped_none z = e
every_tables_lem (suc u) n p e ts (shaped_more {a = []} {ps = ps} g r) z = absurd (omega (arith, g))
every_tables_lem (suc u) n p e ts (shaped_more {a = true ∷ ds} {ps = ps} g r) z = absurd (true_false (z 0 (omega arith)))
every_tables_lem (suc u) n p e ts (shaped_more {a = false ∷ ds} {ps = ps} g r) z =
    every_tables_lem u n (λ qs. p ((false ∷ ds) ∷ qs))
    (every_digits_lem n (λ es. every_tables u n (λ qs. p ((false ∷ es) ∷ qs))) e ds (let q : suc (length ds) ≡ suc n = g in omega arith))
    ps r (λ i h. z (suc i) (omega arith))

-- ---- a core that serves does what is asked
ones-reading : (o : ℕ) (l : List Cell) → ones (reads_of o l) ≡ reading o l
unfolding ones reads_of reading
ones-reading o [] = refl
ones-reading o (c ∷ l) = ap (λ (n : ℕ). bit (c.readers o) + n) (ones-reading o l)

differ : (a b : Bool) → (a ≡ b → ⊥) → xorb a b ≡ true
differ true true n = absurd (n refl)
differ true false n = refl
differ false true n = refl
differ false false n = absurd (n refl)

apart_pair : (v o x y : ℕ) (l : List Cell) → x < v → y < v → Apart o x y l → tells_pair (reads_of o l) (tables_of v l) x y ≡ true
unfolding tells_pair reads_of tables_of
apart_pair v o x y [] h k a = absurd a
apart_pair v o x y (c ∷ l) h k a =
    let t = values_upto c.table v in
    let here = andb (c.readers o) (xorb (get_or t x false) (get_or t y false)) in
    let rest = tells_pair (reads_of o l) (tables_of v l) x y in
    ⊎_elim
    (λ q.
    ap (λ (b : Bool). orb b rest)
    (and_both (c.readers o) (xorb (get_or t x false) (get_or t y false)) q.0
    (differ (get_or t x false) (get_or t y false) (λ e. q.1 (sym (values_at c.table v x h) ∙ e ∙ values_at c.table v y k)))))
    (λ r. or_second here rest (apart_pair v o x y l h k r))
    a

module _ (d : Design) (o : ℕ) (l : List Cell) (s : ServesDesign d l) where
  serves_pairs : (ps : List (ℕ × ℕ)) → all_conflicting d o ps ≡ true → tells_all (reads_of o l) (tables_of (vertex_count d.bound) l) ps ≡ true
  unfolding all_conflicting tells_all
  serves_pairs [] e = refl
  serves_pairs (p ∷ ps) e =
      let v = vertex_count d.bound in
      let c = and_left (conflicting d o p.0 p.1) (all_conflicting d o ps) e in
      let (_, a, b) = conflicting_below d o p.0 p.1 c in
      and_both (tells_pair (reads_of o l) (tables_of v l) p.0 p.1) (tells_all (reads_of o l) (tables_of v l) ps)
      (apart_pair v o p.0 p.1 l a b (told d o p.0 p.1 c l s))
      (serves_pairs ps (and_right (conflicting d o p.0 p.1) (all_conflicting d o ps) e))

  serves_meets : (a : Ask) → Asks d o a → o < length d.outputs → meets (tables_of (vertex_count d.bound) l) a (reads_of o l) ≡ true
  unfolding meets
  serves_meets a q h =
      let few : ones (reads_of o l) ≤ a.width =
      subst (λ (n : ℕ). n ≤ a.width) (sym (ones-reading o l)) (subst (λ (n : ℕ). reading o l ≤ n) q.reads (s.within o h)) in
      and_both (leb (ones (reads_of o l)) a.width) (tells_all (reads_of o l) (tables_of (vertex_count d.bound) l) a.pairs)
      (le-leb (ones (reads_of o l)) a.width few) (serves_pairs a.pairs q.tells)

none_unmet : (ts : List (List Bool)) (ks : List Ask)
    → ((o : ℕ) → o < length ks → every_digits (length ts) (λ bs. not (meets ts (ask_at ks o) bs)) ≡ true → ⊥)
    → some_unmet ts ks ≡ true
    → ⊥
unfolding some_unmet
none_unmet ts [] h e = true_false (sym e)
none_unmet ts (a ∷ ks) h e =
    or_none (every_digits (length ts) (λ bs. not (meets ts a bs))) (some_unmet ts ks) e (h 0 (omega arith))
    (none_unmet ts ks (λ o k. h (suc o) (omega arith)))

-- ---- a permitted network that passes is the first
module _ (d : Design) (f : WellFormed d) (n : ℕ) (w : Network) (ks : List Ask) (p : Permitted d w) (t : Tested d n w ks) where
  asks : (o : ℕ) → o < length d.outputs → Asks d o (ask_at ks o)
  asks = each_below (length d.outputs) (λ (o : ℕ). Asks d o (ask_at ks o)) t.asked

  module _ (v : Network) (q : Permitted d v) where
    count : length v.luts ≡ length w.luts
    count = permitted_count d v w q p

    reads-count : (o : ℕ) → length (reads_of o (network_core v)) ≡ length v.luts
    reads-count o = reads-length o (network_core v) ∙ core-length v

    all_met : (o : ℕ) → o < length d.outputs → meets v.luts (ask_at ks o) (reads_of o (network_core v)) ≡ true
    all_met o h =
        subst (λ (ts : List (List Bool)). meets ts (ask_at ks o) (reads_of o (network_core v)) ≡ true) (network_tables d v q.wellformed)
        (serves_meets d o (network_core v) (drawn_serves d v (proper_of d f) q.wellformed q.within q.computes)
        (ask_at ks o) (asks o h) h)

    met : some_unmet v.luts ks ≡ true → ⊥
    met =
        none_unmet v.luts ks
        (λ o h e.
        (let bs = reads_of o (network_core v) in
        let m = all_met o (subst (λ (k : ℕ). o < k) t.counted h) in
        true_false (sym m ∙ complement_true (meets v.luts (ask_at ks o) bs)
        (every_digits_lem (length v.luts) (λ cs. not (meets v.luts (ask_at ks o) cs)) e bs (reads-count o)))))

    tables_after : NotLess (tables_order v.luts w.luts)
    unfolding tables_first
    tables_after =
        let shape : Shaped (suc n) (length w.luts) v.luts =
        subst (λ (u : ℕ). Shaped (suc n) u v.luts) count
        (shaped_of (suc n) v.luts (λ i h. q.wellformed.lut_digits i h ∙ t.vertices)) in
        let less = is_less (tables_order v.luts w.luts) in
        let e : orb (not less) (some_unmet v.luts ks) ≡ true =
        every_tables_lem (length w.luts) n (λ ts. orb (not (is_less (tables_order ts w.luts))) (some_unmet ts ks)) t.tables v.luts shape
        (λ i h. q.zero_first i (subst (λ (k : ℕ). i < k) (sym count) h)) in
        record { is_not = complement_true less (or_first (not less) (some_unmet v.luts ks) e met) }

    reads_after : (o : ℕ) → v.luts ≡ w.luts → o < length d.outputs
        → NotLess (reads_order (node_at v.nodes o).reads (node_at w.nodes o).reads)
    unfolding reads_first
    reads_after o e h =
        let bs = reads_of o (network_core v) in
        let cs = reads_of o (network_core w) in
        let less = is_less (table_order cs bs) in
        let long : length cs ≡ length w.luts = reads-length o (network_core w) ∙ core-length w in
        let m = subst (λ (ts : List (List Bool)). meets ts (ask_at ks o) bs ≡ true) e (all_met o h) in
        let tried : orb (not less) (not (meets w.luts (ask_at ks o) bs)) ≡ true =
        every_digits_lem (length w.luts) (λ es. orb (not (is_less (table_order cs es))) (not (meets w.luts (ask_at ks o) es)))
        (each_below (length d.outputs) (λ (k : ℕ). reads_first w ks k ≡ true) t.reads o h) bs (reads-count o ∙ count) in
        let after : NotLess (table_order cs bs) =
        record { is_not = complement_true less (or_not (not less) (meets w.luts (ask_at ks o) bs) tried m) } in
        let is = (node_at v.nodes o).reads in
        let js = (node_at w.nodes o).reads in
        let digits : reads_order is js ≡ table_order cs bs =
        sym (ap₂ reads_order (network-reads d v o q.wellformed h) (network-reads d w o p.wellformed h))
        ∙ chosen_order 0 bs cs (reads-count o ∙ count ∙ sym long) in
        subst NotLess (sym digits) after

  pub first_tested : First d w
  first_tested = record {
    permitted = p;
    none_before =
        first_from_reads (Permitted d) d (length w.luts) w (design-named d f)
        (parts_of d.inputs d.bound (proper_of d f).parted) (permitted_settled d w (proper_of d f) p) p
        tables_after (λ v o q e h. reads_after v q o e h);
  }

-- ---- entries whose code no vertex produces
every_all : (t : ℕ → Bool) (n : ℕ) → ((k : ℕ) → k < n → t k ≡ true) → every t n ≡ true
unfolding every
every_all t zero h = refl
every_all t (suc n) h = and_both (t n) (every t n) (h n (omega arith)) (every_all t n (λ k l. h k (omega arith)))

pub plain_unproduced : (d : Design) (w : Network) (o j : ℕ)
    → Plain d w
    → o < length d.outputs
    → ((x : ℕ) → x < vertex_count d.bound → code_at w (node_at w.nodes o).reads x ≡ j / free_count d.inputs d.bound → ⊥)
    → get_or (node_at w.nodes o).digits j false ≡ false
unfolding produced_or_zero
plain_unproduced d w o j p h g = at (dec_lt j (length ds))
  where
    ds : List Bool
    ds = (node_at w.nodes o).digits

    code : ℕ → ℕ
    code x = code_at w (node_at w.nodes o).reads x

    other : ℕ → ℕ → Bool
    other i x = not (eqb (code x) (i / free_count d.inputs d.bound))

    none : every (other j) (vertex_count d.bound) ≡ true
    none = every_all (other j) (vertex_count d.bound) (λ x l. ap not (ne_eqb (code x) (j / free_count d.inputs d.bound) (g x l)))

    at : Dec (j < length ds) → get_or ds j false ≡ false
    at (yes l) =
        complement_true (get_or ds j false)
        (or_not (not (get_or ds j false)) (every (other j) (vertex_count d.bound))
        (every_at (λ i. orb (not (get_or ds i false)) (not (every (other i) (vertex_count d.bound)))) (length ds)
        (each_below (length d.outputs) (λ (k : ℕ). produced_or_zero d w k ≡ true) p.entries o h) j l)
        none)
    at (no k) = get_or-eq_default ds false {n = j} (omega arith)
