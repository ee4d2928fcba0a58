-- A test by computation whether a network is the first: all lists of tables that come before its own leave some output unserved,
-- whatever is read; and with its own tables no reading set that serves an output comes before the one that its node has.
-- Assumes nothing.
use Rattle.std.specs.Prelude.{◌≡◌, Bool, true, false, not, List, [], ◌∷◌, ℕ, zero, suc, ◌+◌, ◌/◌, eqb, leb, length, get_or}
use Rattle.bits.specs.Logic.{andb, orb, xorb, bit}
use Rattle.bits.specs.Every.{every}
use Rattle.order.specs.Order.{list_order, is_less, table_order, tables_order}
use Rattle.sheet.specs.Examine.{Design}
use Rattle.classes.specs.Columns.{vertex_count, free_count}
use Rattle.classes.specs.Width.{budget}
use Rattle.network.specs.Network.{Network}
use Rattle.network.specs.NetworkFor.{node_at}
use Rattle.network.specs.Value.{lut_at, code_at}
use Rattle.cells.specs.Written.{reads_of}
use Rattle.serving.specs.NetworkCore.{has, cells_of, network_core}
use Rattle.demands.specs.Each.{Each}
use Rattle.demands.specs.NeededCells.{conflicting}

-- ---- all lists
-- whether p holds of every list of n digits
unfoldable pub every_digits : ℕ → (List Bool → Bool) → Bool
every_digits zero p = p []
every_digits (suc n) p = andb (every_digits n (λ ds. p (false ∷ ds))) (every_digits n (λ ds. p (true ∷ ds)))

-- of every list of u tables of n digits after a first one, which is 0
unfoldable pub every_tables : ℕ → ℕ → (List (List Bool) → Bool) → Bool
every_tables zero n p = p []
every_tables (suc u) n p = every_digits n (λ ds. every_tables u n (λ ts. p ((false ∷ ds) ∷ ts)))

-- ---- what an output asks of tables: how many it may read, and pairs of vertices that these have to tell apart
pub record Ask : Type 0 where
  pub width : ℕ
  pub pairs : List (ℕ × ℕ)

abbrev pub asking : ℕ → List (ℕ × ℕ) → Ask
asking n ps = record { width = n; pairs = ps }

abbrev pub ask_at : List Ask → ℕ → Ask
ask_at ks o = get_or ks o (asking 0 [])

-- whether these are conflicts of output o
unfoldable pub all_conflicting : Design → ℕ → List (ℕ × ℕ) → Bool
all_conflicting d o [] = true
all_conflicting d o (p ∷ ps) = andb (conflicting d o p.0 p.1) (all_conflicting d o ps)

pub record Asks (d : Design) (o : ℕ) (a : Ask) : Type 0 where
  pub reads : budget d d.bound o ≡ a.width
  pub tells : all_conflicting d o a.pairs ≡ true

-- ---- what tables do, of which those with digit 1 are read
-- how many are read
unfoldable pub ones : List Bool → ℕ
ones [] = 0
ones (b ∷ bs) = bit b + ones bs

-- some table that is read differs at x and y
unfoldable pub tells_pair : List Bool → List (List Bool) → ℕ → ℕ → Bool
tells_pair [] ts x y = false
tells_pair (b ∷ bs) [] x y = false
tells_pair (b ∷ bs) (t ∷ ts) x y = orb (andb b (xorb (get_or t x false) (get_or t y false))) (tells_pair bs ts x y)

unfoldable pub tells_all : List Bool → List (List Bool) → List (ℕ × ℕ) → Bool
tells_all bs ts [] = true
tells_all bs ts (p ∷ ps) = andb (tells_pair bs ts p.0 p.1) (tells_all bs ts ps)

unfoldable pub meets : List (List Bool) → Ask → List Bool → Bool
meets ts a bs = andb (leb (ones bs) a.width) (tells_all bs ts a.pairs)

-- some output is unserved, whatever it reads
unfoldable pub some_unmet : List (List Bool) → List Ask → Bool
some_unmet ts [] = false
some_unmet ts (a ∷ ks) = orb (every_digits (length ts) (λ bs. not (meets ts a bs))) (some_unmet ts ks)

-- ---- the test
unfoldable pub tables_first : ℕ → Network → List Ask → Bool
tables_first n w ks = every_tables (length w.luts) n (λ ts. orb (not (is_less (tables_order ts w.luts))) (some_unmet ts ks))

unfoldable pub reads_first : Network → List Ask → ℕ → Bool
reads_first w ks o =
    every_digits (length w.luts) (λ bs. orb (not (is_less (table_order (reads_of o (network_core w)) bs))) (not (meets w.luts (ask_at ks o) bs)))

-- the design has n vertices after vertex 0
pub record Tested (d : Design) (n : ℕ) (w : Network) (ks : List Ask) : Type 0 where
  pub vertices : vertex_count d.bound ≡ suc n
  pub counted : length ks ≡ length d.outputs
  pub asked : Each (length d.outputs) (λ (o : ℕ). Asks d o (ask_at ks o))
  pub tables : tables_first n w ks ≡ true
  pub reads : Each (length d.outputs) (λ (o : ℕ). reads_first w ks o ≡ true)

-- ---- entries whose code no vertex produces
-- every entry of output o's node is 0, or some vertex produces its code
unfoldable pub produced_or_zero : Design → Network → ℕ → Bool
produced_or_zero d w o =
    every
    (λ j.
    orb (not (get_or (node_at w.nodes o).digits j false))
    (not (every (λ x. not (eqb (code_at w (node_at w.nodes o).reads x) (j / free_count d.inputs d.bound))) (vertex_count d.bound))))
    (length (node_at w.nodes o).digits)

pub record Plain (d : Design) (w : Network) : Type 0 where
  pub zero_first : Each (length w.luts) (λ (i : ℕ). lut_at w i 0 ≡ false)
  pub entries : Each (length d.outputs) (λ (o : ℕ). produced_or_zero d w o ≡ true)

-- all that the test computes with, named once
unfoldable pub testing : Unit {0}
unfolding every_digits every_tables all_conflicting ones tells_pair tells_all meets some_unmet tables_first reads_first produced_or_zero
    every list_order reads_of has cells_of network_core
testing = tt
