-- One question: only as many cells as the limit allows are asked for, since fewer cells can be filled up with cells that nobody reads.
-- What it tells of the outputs that stand for a set it tells of the set. Assumes nothing.
use Rattle.std.specs.Prelude.{◌≡◌, Bool, true, false, List, [], ℕ, ◌-◌, ◌<◌, length}
use Rattle.std.proofs.Common.{sym, ◌∙◌, subst, append-nil, arith}
use Rattle.std.proofs.Math.Decide.{dec_lt}
use Rattle.bits.specs.LogicLaws.{true_false}
use Rattle.fewest.specs.CountLaws.{no_tables, nothing_known, none_read}
use Rattle.cells.specs.RenumberedLaws.{renumbered-length}
use Rattle.cells.specs.FreeLaws.{padded-length, padded_serves}
use Rattle.cells.specs.CodesLaws.{cells-length}
use Rattle.cells.specs.Core.{Cell, Serves}
use Rattle.cells.specs.Free.{padded}
use Rattle.cells.specs.Renumbered.{renumbered}
use Rattle.problem.specs.Problem.{item}
use Rattle.relation.specs.Relation.{Conflict}
use Rattle.subproblems.specs.Subproblem.{open_of}
use Rattle.seeking.specs.Seeking.{Lacks, open_cells, Sought}
use Rattle.dominance.specs.Kept.{StandFor}
use Rattle.dominance.specs.KeptCellsLaws.{origin, all_serves_kept, kept_serves_all}
use Rattle.unserved.specs.Unserved.{Fits, Lacking}
use Rattle.unserved.specs.Asking.{OfMembers, Stand, Decided}
use Rattle.unserved.specs.MemberLaws.{members_serve_set, set_serves_members}
use Rattle.unserved.specs.FewerLaws.{fewer_fits}

-- ======== the question
module _ (labels given budgets : List ℕ) (v n limit : ℕ) where
  lacks_more : Lacks labels given budgets 0 0 v n limit 0 → (k : List Cell) → Serves v n (Conflict labels) (item budgets) k → limit < length k
  lacks_more c k w = more (dec_lt limit (length k))
    where
      filled : List Cell
      filled = padded (limit - length k) k

      more : Dec (limit < length k) → limit < length k
      more (yes h) = h
      more (no h) = absurd (c.none filled [] (padded-length (limit - length k) k ∙ (omega arith)) (no_tables given v) (nothing_known 0 v filled)
          (subst (Serves v n (Conflict labels) (item budgets)) (sym (append-nil filled)) (padded_serves (limit - length k) v n (Conflict labels) (item budgets) k w)))

  pub sought_decided : (ok : Bool) (rows codes : List ℕ) → Sought labels given budgets 0 0 v n limit 0 ok rows codes → Decided labels budgets v n limit ok
  sought_decided true rows codes c = record {
    some = λ _.
        let core = open_cells limit rows codes in
        let e : length core ≡ limit = cells-length limit 0 (λ o. open_of (item rows o)) (item codes) in
        (core, omega arith, subst (Serves v n (Conflict labels) (item budgets)) (none_read core rows) (c.serves [] (no_tables given v)));
    none = λ e. absurd (true_false e);
  }
  sought_decided false rows codes c = record { some = λ e. absurd (true_false (sym e)); none = λ _. lacks_more c }

-- ======== the set
pub kept_stand : (cl budgets : List ℕ) (v m s n : ℕ) (labels taken : List ℕ) → OfMembers cl budgets v m s n labels taken
    → (labels' budgets' : List ℕ) (k : ℕ) (by : List ℕ) → StandFor labels taken v n labels' budgets' k by → Stand cl budgets v m s labels' budgets' k
kept_stand cl budgets v m s n labels taken w labels' budgets' k by d = record {
  classes = d.classes;
  few = d.few;
  gives = λ l c. (
    renumbered (item by) l,
    renumbered-length (item by) l,
    members_serve_set cl budgets v m s n labels taken w (renumbered (item by) l) (kept_serves_all labels taken labels' budgets' v n k by d l c),
  );
  takes = λ l c. (
    renumbered from l,
    renumbered-length from l,
    all_serves_kept labels taken labels' budgets' v n k by d l (set_serves_members cl budgets v m s n labels taken w l c),
  );
  fewer = λ limit inside h. let z = w.count in fewer_fits cl budgets v m s n labels taken w labels' budgets' k by d limit inside (omega arith);
}
  where
    from : ℕ → ℕ
    from = origin labels taken labels' budgets' v n k by d

module _ (cl budgets : List ℕ) (v m limit s : ℕ) (labels budgets' : List ℕ) (n : ℕ) (ok : Bool)
    (d : Stand cl budgets v m s labels budgets' n) (c : Decided labels budgets' v n limit ok) where
  pub stand_fits : ok ≡ true → Fits cl budgets v m limit s
  stand_fits e =
      let w = c.some e in
      let k = d.gives w.0 w.2 in
      let a = w.1 in
      let b = k.1 in
      record { cells = k.0; few = omega arith; serves = k.2 }

  pub stand_lacking : ok ≡ false → Lacking cl budgets v m limit s
  stand_lacking e = record { none = λ l f. let k = d.takes l f in let a = c.none e k.0 k.2 in let b = k.1 in omega arith }
