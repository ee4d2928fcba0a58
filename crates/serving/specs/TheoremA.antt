-- Theorem A: tables and reading sets can be completed to a network with a design's value on every row exactly when they
-- serve. From networks to cores, and from cores to networks: what both rest on; the two theorems themselves, `drawn_serves` and
-- `built_computes`, stand in proofs/Serves.antt and proofs/Computes.antt. Assumes nothing.
use Rattle.std.specs.Prelude.{◌≡◌, refl, Bool, true, false, ◌||◌, List, [], ◌∷◌, ◌⊎◌, ℕ, zero, suc, ◌+◌, ◌^◌, ◌≤◌, ◌<◌, eqb, get_or}
use Rattle.std.proofs.Common.{sym, ◌∙◌, inl, inr, ⊎_elim, arith, zero-add, eqb-true}
use Rattle.std.proofs.Math.Path.{ap, subst}
use Rattle.std.proofs.Math.ListN.{length}
use Rattle.bits.specs.Logic.{pick, bit}
use Rattle.bits.specs.LogicLaws.{true_false, false_unless}
use Rattle.bits.specs.Digit.{on}
use Rattle.limits.specs.Limits.{max_cells}
use Rattle.names.specs.Name.{Name}
use Rattle.sheet.specs.Examine.{Design}
use Rattle.cells.specs.Core.{reading, core_of, cells_from}
use Rattle.classes.specs.Columns.{free, vertex_count, conflict}
use Rattle.classes.specs.Width.{budget}
use Rattle.classes.specs.Proper.{Parted}
use Rattle.classes.specs.JoinLaws.{join-lt, join_parts, vertex_of_join, free_row_of_join}
use Rattle.classes.specs.ColumnLaws.{conflict_differ, no_conflict_agree}
use Rattle.network.specs.Network.{Node}
use Rattle.network.specs.Numbers.{numbers_of}
use Rattle.network.specs.NumbersLaws.{numbers_from, numbers-from}
use Rattle.network.specs.RisingLaws.{rising_wider}
use Rattle.network.specs.Reads.{Rising, rising_none, rising_more}
use Rattle.network.specs.NetworkFor.{NetworkFor, NodeFits, node_at}
use Rattle.network.specs.Answers.{WithinLimits, read_count}
use Rattle.serving.specs.NetworkCore.{has, ServesDesign}
use Rattle.serving.specs.Parts.{Parts, Columns}
use Rattle.serving.specs.Build.{node_built, luts_built, nodes_built, built, entry}
use Rattle.serving.specs.Compose.{luts-length, node-built, one_on}
use Rattle.bits.specs.ValuesLaws.{values_length}

-- ---- rows and columns of a design
pub parts_of : (ns bs : List Name) → Parted ns bs → Parts ns bs
parts_of ns bs p =
    record {
      vertex_of_lem = λ x y a b. vertex_of_join ns bs p x y a;
      free_of = λ x y a b. free_row_of_join ns bs p x y b;
      inside = λ x y. join-lt ns bs x y;
      join_of = join_parts ns bs p;
    }

pub columns_of : (d : Design) → Columns d
columns_of d =
    record {
      conflict_at = λ o x y e. (let q = conflict_differ d d.bound o x y e in (q.place, q.below, q.different));
      agree_at = λ o x y h z l. no_conflict_agree d d.bound o x y (false_unless (conflict d d.bound o x y) h) z l;
    }

-- ---- from a network to its core
has_cases : (i j : ℕ) (is : List ℕ) → has i (j ∷ is) ≡ true → (j ≡ i) ⊎ (has i is ≡ true)
unfolding has
has_cases i j is e = go (eqb j i) refl e
  where
    go : (b : Bool) → eqb j i ≡ b → (b || has i is) ≡ true → (j ≡ i) ⊎ (has i is ≡ true)
    go true q e = inl (eqb-true j i q)
    go false q e = inr e

has_none : (i : ℕ) → has i [] ≡ true → ⊥
unfolding has
has_none i e = true_false (sym e)

pub rising_has : {j u : ℕ} {is : List ℕ} (i : ℕ) → Rising j u is → has i is ≡ true → i < u
rising_has i rising_none e = absurd (has_none i e)
rising_has {u = u} i (rising_more {j = k} {js = js} a b r) e =
    ⊎_elim (λ q. subst (λ (n : ℕ). n < u) q b) (rising_has i r) (has_cases i k js e)

-- ---- from a core to its network
rising_pick : (b : Bool) (k i : ℕ) (is : List ℕ) → Rising (suc i) (i + suc k) is → Rising i (i + suc k) (pick b (i ∷ is) is)
rising_pick true k i is r = rising_more {i = i} {u = i + suc k} {j = i} (omega arith) (omega arith) r
rising_pick false k i is r = rising_wider i (i + suc k) (omega arith) (omega arith) r

numbers_rise : (k i mask : ℕ) → Rising i (i + k) (numbers_from k i mask)
unfolding numbers_from
numbers_rise zero i mask = rising_none
numbers_rise (suc k) i mask =
    rising_pick (on mask i) k i (numbers_from k (suc i) mask)
    (subst (λ (u : ℕ). Rising (suc i) u (numbers_from k (suc i) mask)) (one_on i k) (numbers_rise k (suc i) mask))

pick-length : (b : Bool) (i : ℕ) (is : List ℕ) → length (pick b (i ∷ is) is) ≡ bit b + length is
pick-length true i is = omega arith
pick-length false i is = omega arith

numbers-reading : (o : ℕ) (rows codes : ℕ → ℕ) (k i : ℕ) → length (numbers_from k i (rows o)) ≡ reading o (cells_from k i rows codes)
unfolding numbers_from reading cells_from
numbers-reading o rows codes zero i = refl
numbers-reading o rows codes (suc k) i =
    pick-length (on (rows o) i) i (numbers_from k (suc i) (rows o))
    ∙ ap (λ (n : ℕ). bit (on (rows o) i) + n) (numbers-reading o rows codes k (suc i))

lut_length : (d : Design) (codes : ℕ → ℕ) (k j i : ℕ) → i < k → length (get_or (luts_built d codes k j) i []) ≡ 2 ^ length d.bound
unfolding luts_built
lut_length d codes zero j i h = absurd (omega arith)
lut_length d codes (suc k) j zero h = values_length (λ x. on (codes x) j) (vertex_count d.bound)
lut_length d codes (suc k) j (suc i) h = lut_length d codes k (suc j) i (omega arith)

nodes-length : (d : Design) (u : ℕ) (rows codes : ℕ → ℕ) (k o : ℕ) → length (nodes_built d u rows codes k o) ≡ k
unfolding nodes_built
nodes-length d u rows codes zero o = refl
nodes-length d u rows codes (suc k) o = ap suc (nodes-length d u rows codes k (suc o))

module _ (d : Design) (u : ℕ) (rows codes : ℕ → ℕ) where
  pub built-luts : length (built d u rows codes).luts ≡ u
  unfolding built
  built-luts = luts-length d codes u 0

  built-nodes : length (built d u rows codes).nodes ≡ length d.outputs
  unfolding built
  built-nodes = nodes-length d u rows codes (length d.outputs) 0

  pub built-node : (o : ℕ) → o < length d.outputs → node_at (built d u rows codes).nodes o ≡ node_built d codes o (numbers_of u (rows o))
  unfolding built
  built-node o h = node-built d u rows codes (length d.outputs) 0 o h ∙ ap (λ (n : ℕ). node_built d codes n (numbers_of u (rows n))) (zero-add o)

  node_fitting : (o : ℕ) → NodeFits (free d.inputs d.bound) u (node_built d codes o (numbers_of u (rows o)))
  unfolding node_built
  node_fitting o =
      record {
        rises = subst (λ (n : ℕ). Rising 0 n (numbers_of u (rows o))) (zero-add u) (rw (numbers-from u (rows o)) (numbers_rise u 0 (rows o)));
        counted = values_length (entry d codes o (numbers_of u (rows o))) (2 ^ (length (numbers_of u (rows o)) + length (free d.inputs d.bound)));
      }

  pub built_wellformed : u ≤ max_cells → NetworkFor d (built d u rows codes)
  unfolding built
  built_wellformed h =
      record {
        few_luts = subst (λ (n : ℕ). n ≤ max_cells) (sym built-luts) h;
        lut_digits = λ i l. lut_length d codes u 0 i (subst (λ (n : ℕ). i < n) built-luts l);
        node_each = built-nodes;
        node_fits = λ o l.
            subst (λ (n : ℕ). NodeFits (free d.inputs d.bound) n (node_at (built d u rows codes).nodes o)) (sym built-luts)
            (subst (λ (x : Node). NodeFits (free d.inputs d.bound) u x) (sym (built-node o (subst (λ (n : ℕ). o < n) built-nodes l))) (node_fitting o));
      }

  built-reads : (o : ℕ) → o < length d.outputs → read_count (built d u rows codes) o ≡ reading o (core_of u rows codes)
  unfolding node_built
  built-reads o h = ap (λ (x : Node). length x.reads) (built-node o h) ∙ ap length (numbers-from u (rows o)) ∙ numbers-reading o rows codes u 0

  pub built-within : u ≤ d.limit → ServesDesign d (core_of u rows codes) → WithinLimits d (built d u rows codes)
  built-within h s =
      record {
        luts-within = subst (λ (n : ℕ). n ≤ d.limit) (sym built-luts) h;
        reads-within = λ o l.
            (let q = subst (λ (n : ℕ). o < n) built-nodes l in
            subst (λ (n : ℕ). n ≤ budget d d.bound o) (sym (built-reads o q)) (s.within o q));
      }
