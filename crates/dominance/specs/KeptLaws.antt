-- An answer for the outputs kept is one for all. Found: output o reads what output item by o of those kept reads. None: cells that
-- served all outputs would serve those kept, each of which would read what some output reads that tells apart all that it has to.
-- Assumes nothing.
use Rattle.std.proofs.Common.{sym, ap, ◌∙◌, subst}
use Rattle.std.specs.Prelude.{Bool, true, false, List, [], ◌∷◌, ◌++◌, ℕ, zero, suc, ◌<◌}
use Rattle.bits.specs.Digit.{on}
use Rattle.cells.specs.RenumberedLaws.{reads_as_append, serves_as, renumbered-length, renumbered_code, cells_read_as, read_by_reads_as}
use Rattle.cells.specs.Core.{Cell, Serves, cells_from}
use Rattle.cells.specs.Renumbered.{renumbered, ReadsAs}
use Rattle.problem.specs.Problem.{item}
use Rattle.relation.specs.Relation.{Conflict}
use Rattle.subproblems.specs.Subproblem.{open_of}
use Rattle.readingsets.specs.Choice.{RowFits}
use Rattle.seeking.specs.Seeking.{Tables, Known, Lacks, open_cells, given_cells, Has, Sought}
use Rattle.dominance.specs.Kept.{StandFor, Placed}
use Rattle.dominance.specs.KeptCellsLaws.{origin, renumbered-append, all_serves_kept}

-- ======== readers do not matter for tables
known_renumbered : (kn val v : ℕ) (from : ℕ → ℕ) (l : List Cell) → Known kn val v l → Known kn val v (renumbered from l)
unfolding renumbered
known_renumbered kn val v from [] k = k
known_renumbered kn val v from (c ∷ l) k = k

tables_renumbered : (given : List ℕ) (v g : ℕ) (from : ℕ → ℕ) (l : List Cell) → Tables given v g l → Tables given v g (renumbered from l)
tables_renumbered given v g from l t = record {
  long = renumbered-length from l ∙ t.long;
  digits = λ i x h b. ap (λ (n : ℕ). on n i) (renumbered_code from l x) ∙ t.digits i x h b;
}

known_open : (kn val v u : ℕ) (rows rows' codes : List ℕ) → Known kn val v (open_cells u rows codes) → Known kn val v (open_cells u rows' codes)
unfolding cells_from
known_open kn val v zero rows rows' codes k = k
known_open kn val v (suc u) rows rows' codes k = k

-- ======== none and found
module _ (cl given budgets labels budgets' : List ℕ) (kn val v m n u g : ℕ) (by : List ℕ) (s : StandFor cl budgets v m labels budgets' n by) where
  pub kept_lacks : Lacks labels given budgets' kn val v n u g → Lacks cl given budgets kn val v m u g
  kept_lacks c = record {
    none = λ l ts e t k serves. c.none (renumbered from l) (renumbered from ts) (renumbered-length from l ∙ e) (tables_renumbered given v g from ts t)
        (known_renumbered kn val v from l k)
        (subst (Serves v n (Conflict labels) (item budgets')) (renumbered-append from l ts) (all_serves_kept cl budgets labels budgets' v m n by s (l ++ ts) serves));
  }
    where
      from : ℕ → ℕ
      from = origin cl budgets labels budgets' v m n by s

  module _ (rows rows' codes : List ℕ) (p : Placed rows by m rows') where
    kept-has : Has labels given budgets' kn val v n u g rows codes → Has cl given budgets kn val v m u g rows' codes
    kept-has c = record {
      fit = λ o h. subst (RowFits (item budgets o) u g) (sym (p.done o h))
          (subst (λ (b : ℕ). RowFits b u g (item rows (item by o))) (sym (s.budget o h)) (c.fit (item by o) (s.below o h)));
      known = known_open kn val v u rows rows' codes c.known;
      serves = λ ts t. serves_as v m n (Conflict labels) (Conflict cl) (item budgets') (item budgets)
          (open_cells u rows' codes ++ given_cells rows' ts) (open_cells u rows codes ++ given_cells rows ts)
          (λ o h. (item by o, s.below o h, (λ x y. s.inside o x y h), s.budget o h, reads o h ts))
          (c.serves ts t);
    }
      where
        reads : (o : ℕ) → o < m → (ts : List Cell)
            → ReadsAs o (item by o) (open_cells u rows' codes ++ given_cells rows' ts) (open_cells u rows codes ++ given_cells rows ts)
        reads o h ts = reads_as_append o (item by o) (open_cells u rows' codes) (open_cells u rows codes) (given_cells rows' ts) (given_cells rows ts)
            (cells_read_as o (item by o) u 0 (λ o. open_of (item rows o)) (λ o. open_of (item rows' o)) (item codes) (ap open_of (p.done o h)))
            (read_by_reads_as o (item by o) 6 (item rows) (item rows') ts (p.done o h))

    pub kept_sought : (ok : Bool) → Sought labels given budgets' kn val v n u g ok rows codes → Sought cl given budgets kn val v m u g ok rows' codes
    kept_sought true c = kept-has c
    kept_sought false c = kept_lacks c
