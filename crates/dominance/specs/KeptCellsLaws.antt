-- Cells that serve all outputs serve those kept, and the other way round: only the readers are numbered anew, the tables stay.
-- An output left out reads what the one kept for it reads, which tells apart all that it has to. Assumes nothing.
use Rattle.std.specs.Prelude.{◌≡◌, refl, Bool, List, [], ◌∷◌, ◌++◌, ℕ, zero, suc, ◌<◌}
use Rattle.std.proofs.Common.{ap}
use Rattle.std.proofs.Math.Decide.{dec_lt}
use Rattle.bits.specs.Digit.{on}
use Rattle.bits.specs.Values.{values_upto}
use Rattle.cells.specs.RenumberedLaws.{serves_as, renumbered_reads_as}
use Rattle.cells.specs.Core.{Cell, Serves, ZeroFirst, cells_from}
use Rattle.cells.specs.Written.{tables_of}
use Rattle.cells.specs.Renumbered.{renumbered}
use Rattle.problem.specs.Problem.{item}
use Rattle.relation.specs.Relation.{Conflict}
use Rattle.dominance.specs.Kept.{StandFor}

-- ======== readers numbered anew
pub renumbered-append : (from : ℕ → ℕ) (l k : List Cell) → renumbered from (l ++ k) ≡ renumbered from l ++ renumbered from k
unfolding renumbered
renumbered-append from [] k = refl
renumbered-append from (c ∷ l) k =
    ap (λ (r : List Cell). record { table = c.table; readers = λ o. c.readers (from o) } ∷ r) (renumbered-append from l k)

pub renumbered_tables : (from : ℕ → ℕ) (v : ℕ) (l : List Cell) → tables_of v (renumbered from l) ≡ tables_of v l
unfolding renumbered tables_of
renumbered_tables from v [] = refl
renumbered_tables from v (c ∷ l) = ap (λ (ts : List (List Bool)). values_upto c.table v ∷ ts) (renumbered_tables from v l)

pub renumbered_zero : (from : ℕ → ℕ) (l : List Cell) → ZeroFirst l → ZeroFirst (renumbered from l)
unfolding renumbered
renumbered_zero from [] z = z
renumbered_zero from (c ∷ l) z = (z.0, renumbered_zero from l z.1)

pub renumbered-cells : (from : ℕ → ℕ) (n i : ℕ) (rows codes : ℕ → ℕ) → renumbered from (cells_from n i rows codes) ≡ cells_from n i (λ o. rows (from o)) codes
unfolding renumbered cells_from
renumbered-cells from zero i rows codes = refl
renumbered-cells from (suc n) i rows codes =
    ap (λ (r : List Cell). record { table = λ x. on (codes x) i; readers = λ o. on (rows (from o)) i } ∷ r) (renumbered-cells from n (suc i) rows codes)

-- ======== all outputs and those kept
module _ (cl budgets labels budgets' : List ℕ) (v m n : ℕ) (by : List ℕ) (s : StandFor cl budgets v m labels budgets' n by) where
  abbrev source : (i : ℕ) → Dec (i < n) → ℕ
  source i (yes h) = (s.from i h).0
  source i (no h) = 0

  -- the output of cl that output i of those kept reads like
  abbrev pub origin : ℕ → ℕ
  origin i = source i (dec_lt i n)

  abbrev Like : ℕ → ℕ → Type 0
  Like i o = (o < m) × ((x y : ℕ) → x < v → y < v → Conflict labels i x y → Conflict cl o x y) × (item budgets' i ≡ item budgets o)

  pub origin-like : (i : ℕ) → i < n → Like i (origin i)
  origin-like i h = go (dec_lt i n)
    where
      go : (d : Dec (i < n)) → Like i (source i d)
      go (yes h) = let w = s.from i h in (w.1, w.2, w.3)
      go (no e) = absurd (e h)

  pub all_serves_kept : (l : List Cell) → Serves v m (Conflict cl) (item budgets) l → Serves v n (Conflict labels) (item budgets') (renumbered origin l)
  all_serves_kept l = serves_as v n m (Conflict cl) (Conflict labels) (item budgets) (item budgets') (renumbered origin l) l
      (λ i h. let w = origin-like i h in (origin i, w.0, w.1, w.2, renumbered_reads_as origin i l))

  pub kept_serves_all : (l : List Cell) → Serves v n (Conflict labels) (item budgets') l → Serves v m (Conflict cl) (item budgets) (renumbered (item by) l)
  kept_serves_all l = serves_as v m n (Conflict labels) (Conflict cl) (item budgets') (item budgets) (renumbered (item by) l) l
      (λ o h. (item by o, s.below o h, (λ x y. s.inside o x y h), s.budget o h, renumbered_reads_as (item by) o l))
