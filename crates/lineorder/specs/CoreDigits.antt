-- A network and its core have one writing: the tables of the core are the network's, and the cells that an output reads are
-- the tables that its node reads. So it is for the core of a network, and for the network that is built of a core. Assumes
-- nothing.
use Rattle.std.specs.Prelude.{◌≡◌, refl, Bool, true, false, ◌||◌, List, [], ◌∷◌, ℕ, zero, suc, ◌+◌, ◌≤◌, ◌<◌, length, get_or}
use Rattle.std.proofs.Common.{sym, ap, ap₂, ◌∙◌, subst, arith, zero-add, eq-eqb, ne_eqb}
use Rattle.std.proofs.Math.Decide.{ℕ_discrete}
use Rattle.bits.specs.Logic.{pick}
use Rattle.bits.specs.Digit.{on}
use Rattle.bits.specs.Values.{values_upto}
use Rattle.bits.specs.ValuesLaws.{values_length, values_at}
use Rattle.sheet.specs.Examine.{Design}
use Rattle.classes.specs.Columns.{vertex_count}
use Rattle.cells.specs.Core.{Cell, ZeroFirst, cells_from, core_of}
use Rattle.cells.specs.Written.{tables_of, reads_of}
use Rattle.network.specs.Network.{Network, Node}
use Rattle.network.specs.Reads.{Rising, rising_none, rising_more}
use Rattle.network.specs.RisingLaws.{rising_wider}
use Rattle.network.specs.NetworkFor.{NetworkFor, node_at}
use Rattle.network.specs.Value.{lut_at}
use Rattle.serving.specs.NetworkCore.{has, cells_of, network_core}
use Rattle.network.specs.NumbersLaws.{numbers_from, numbers-from}
use Rattle.serving.specs.Compose.{one_on}
use Rattle.serving.specs.Build.{node_built, luts_built, built}
use Rattle.serving.specs.TheoremA.{built-node}
use Rattle.lineorder.specs.NodeDigits.{equal_items}
use Rattle.lineorder.specs.ReadingSets.{chosen}

-- ---- tables
list_values : (t : List Bool) (n : ℕ) → length t ≡ n → values_upto (λ x. get_or t x false) n ≡ t
list_values t n e =
    equal_items (values_upto (λ x. get_or t x false) n) t (values_length (λ x. get_or t x false) n ∙ sym e)
    (λ j h. values_at (λ x. get_or t x false) n j (subst (λ (k : ℕ). j < k) (values_length (λ x. get_or t x false) n) h))

tables_from : (w : Network) (n k i : ℕ) (ts : List (List Bool))
    → length ts ≡ k
    → ((j : ℕ) → j < k → get_or w.luts (i + j) [] ≡ get_or ts j [])
    → ((j : ℕ) → j < k → length (get_or ts j []) ≡ n)
    → tables_of n (cells_of w k i) ≡ ts
unfolding tables_of cells_of
tables_from w n zero i [] e f g = refl
tables_from w n zero i (t ∷ ts) e f g = absurd (omega (arith, e))
tables_from w n (suc k) i [] e f g = absurd (omega (arith, e))
tables_from w n (suc k) i (t ∷ ts) e f g =
    ap₂ (λ (x : List Bool) (l : List (List Bool)). x ∷ l)
    (ap (λ (s : List Bool). values_upto (λ x. get_or s x false) n) (ap (λ (j : ℕ). get_or w.luts j []) (sym (none_more i)) ∙ f 0 (omega arith))
    ∙ list_values t n (g 0 (omega arith)))
    (tables_from w n k (suc i) ts (let q : suc (length ts) ≡ suc k = e in omega arith)
    (λ j h. ap (λ (m : ℕ). get_or w.luts m []) (one_on i j) ∙ f (suc j) (omega arith))
    (λ j h. g (suc j) (omega arith)))
  where
    none_more : (i : ℕ) → i + 0 ≡ i
    none_more i = omega arith

pub network_tables : (d : Design) (w : Network) → NetworkFor d w → tables_of (vertex_count d.bound) (network_core w) ≡ w.luts
unfolding network_core
network_tables d w f =
    tables_from w (vertex_count d.bound) (length w.luts) 0 w.luts refl
    (λ j h. ap (λ (m : ℕ). get_or w.luts m []) (zero-add j)) f.lut_digits

tables_built : (d : Design) (rows codes : ℕ → ℕ) (k i : ℕ)
    → tables_of (vertex_count d.bound) (cells_from k i rows codes) ≡ luts_built d codes k i
unfolding tables_of cells_from luts_built
tables_built d rows codes zero i = refl
tables_built d rows codes (suc k) i =
    ap (λ (l : List (List Bool)). values_upto (λ x. on (codes x) i) (vertex_count d.bound) ∷ l) (tables_built d rows codes k (suc i))

pub built_tables : (d : Design) (u : ℕ) (rows codes : ℕ → ℕ)
    → tables_of (vertex_count d.bound) (core_of u rows codes) ≡ (built d u rows codes).luts
unfolding built
built_tables d u rows codes = tables_built d rows codes u 0

-- ---- tables 0 at vertex 0
zero-cells : (w : Network) (k i : ℕ) → ((j : ℕ) → j < i + k → lut_at w j 0 ≡ false) → ZeroFirst (cells_of w k i)
unfolding cells_of
zero-cells w zero i h = tt
zero-cells w (suc k) i h = (h i (omega arith), zero-cells w k (suc i) (λ j l. h j (omega arith)))

pub network_zero : (w : Network) → ((i : ℕ) → i < length w.luts → lut_at w i 0 ≡ false) → ZeroFirst (network_core w)
unfolding network_core
network_zero w h = zero-cells w (length w.luts) 0 (λ j l. h j (omega arith))

-- ---- what an output reads
pub reads-length : (o : ℕ) (l : List Cell) → length (reads_of o l) ≡ length l
unfolding reads_of
reads-length o [] = refl
reads-length o (c ∷ l) = ap suc (reads-length o l)

has_not_head : (i j : ℕ) (js : List ℕ) → (j ≡ i → ⊥) → has i (j ∷ js) ≡ has i js
unfolding has
has_not_head i j js h = ap (λ (b : Bool). b || has i js) (ne_eqb j i h)

has-head : (i j : ℕ) (js : List ℕ) → j ≡ i → has i (j ∷ js) ≡ true
unfolding has
has-head i j js e = ap (λ (b : Bool). b || has i js) (eq-eqb j i e)

has_none_below : {k u : ℕ} {js : List ℕ} (i : ℕ) → Rising k u js → i < k → has i js ≡ false
unfolding has
has_none_below i rising_none h = refl
has_none_below i (rising_more {j = j} {js = js} a b r) h =
    has_not_head i j js (apart i j (omega arith)) ∙ has_none_below i r (omega arith)
  where
    apart : (i j : ℕ) → i < j → j ≡ i → ⊥
    apart i j h e = omega arith

-- the cells from i on that output o reads are the rising numbers js, where those are what its node reads from i on
chosen-from : (w : Network) (o k i : ℕ) {u : ℕ} {js : List ℕ}
    → Rising i u js
    → i + k ≡ u
    → ((n : ℕ) → i ≤ n → has n (node_at w.nodes o).reads ≡ has n js)
    → chosen i (reads_of o (cells_of w k i)) ≡ js
unfolding chosen reads_of cells_of has
chosen-from w o zero i rising_none e f = refl
chosen-from w o zero i (rising_more {j = j} a b r) e f = absurd (omega (arith, a, b, e))
chosen-from w o (suc k) i {u} rising_none e f =
    let rest = chosen (suc i) (reads_of o (cells_of w k (suc i))) in
    ap (λ (b : Bool). pick b (i ∷ rest) rest) (f i (omega arith))
    ∙ chosen-from w o k (suc i) (rising_none {i = suc i} {u = u}) (omega (arith, e)) (λ n h. f n (omega arith))
chosen-from w o (suc k) i {u} (rising_more {j = j} {js = js} a b r) e f =
    elim (ℕ_discrete j i) as (λ _. pick (has i (node_at w.nodes o).reads) (i ∷ rest) rest ≡ j ∷ js) [
      | yes q ↦ ap (λ (b : Bool). pick b (i ∷ rest) rest) (f i (omega arith) ∙ has-head i j js q)
          ∙ ap₂ (λ (x : ℕ) (l : List ℕ). x ∷ l) (sym q)
          (chosen-from w o k (suc i) (rising_wider (suc i) u (omega arith) (omega arith) r) (omega (arith, e))
          (λ n h. f n (omega arith) ∙ has_not_head n j js (λ p. later n h q p)))
      | no q ↦ ap (λ (b : Bool). pick b (i ∷ rest) rest)
          (f i (omega arith) ∙ has_none_below i (rising_more {i = suc i} {u = u} {j = j} (above j i a q) b r) (omega arith))
          ∙ chosen-from w o k (suc i) (rising_more {i = suc i} {u = u} {j = j} (above j i a q) b r) (omega (arith, e))
          (λ n h. f n (omega arith))
    ]
  where
    rest : List ℕ
    rest = chosen (suc i) (reads_of o (cells_of w k (suc i)))

    above : (j i : ℕ) → i ≤ j → (j ≡ i → ⊥) → suc i ≤ j
    above j i h k = omega arith

    later : (n : ℕ) → suc i ≤ n → j ≡ i → j ≡ n → ⊥
    later n h q p = omega arith

pub network-reads : (d : Design) (w : Network) (o : ℕ)
    → NetworkFor d w
    → o < length d.outputs
    → chosen 0 (reads_of o (network_core w)) ≡ (node_at w.nodes o).reads
unfolding network_core
network-reads d w o f h =
    chosen-from w o (length w.luts) 0 (f.node_fits o (subst (λ (n : ℕ). o < n) (sym f.node_each) h)).rises
    (zero-add (length w.luts)) (λ n _. refl)

chosen-numbers : (o : ℕ) (rows codes : ℕ → ℕ) (k i : ℕ) → chosen i (reads_of o (cells_from k i rows codes)) ≡ numbers_from k i (rows o)
unfolding chosen reads_of cells_from numbers_from
chosen-numbers o rows codes zero i = refl
chosen-numbers o rows codes (suc k) i =
    ap (λ (l : List ℕ). pick (on (rows o) i) (i ∷ l) l) (chosen-numbers o rows codes k (suc i))

pub built_core_reads : (d : Design) (u : ℕ) (rows codes : ℕ → ℕ) (o : ℕ)
    → o < length d.outputs
    → chosen 0 (reads_of o (core_of u rows codes)) ≡ (node_at (built d u rows codes).nodes o).reads
unfolding node_built
built_core_reads d u rows codes o h =
    chosen-numbers o rows codes u 0 ∙ sym (numbers-from u (rows o)) ∙ sym (ap (λ (x : Node). x.reads) (built-node d u rows codes o h))
