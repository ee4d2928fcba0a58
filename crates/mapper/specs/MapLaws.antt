-- From the search to Map: what it found, written out, is a permitted network; where it found nothing, no network within
-- the limit and the widths has the design's value on every row. Assumes nothing.
use Rattle.std.specs.Prelude.{◌≡◌, true, false, List, ℕ, ◌≤◌, ◌<◌, length}
use Rattle.std.proofs.Common.{sym, ◌∙◌, subst, arith}
use Rattle.bits.specs.LogicLaws.{true_false, true_unless}
use Rattle.limits.specs.Limits.{max_cells}
use Rattle.cells.specs.CodesLaws.{cells-length}
use Rattle.sheet.specs.Examine.{Design}
use Rattle.sheet.specs.WellFormed.{WellFormed}
use Rattle.classes.specs.ProperLaws.{proper_of}
use Rattle.classes.specs.Columns.{conflict}
use Rattle.classes.specs.VertexLaws.{local_no_conflict, no_conflict_local}
use Rattle.network.specs.Network.{Network}
use Rattle.network.specs.NetworkFor.{NetworkFor}
use Rattle.network.specs.Answers.{WithinLimits, Computes}
use Rattle.cells.specs.Core.{Cell, Serves, Differ, core_of, reading}
use Rattle.problem.specs.Problem.{label_at, item}
use Rattle.first.specs.First.{Answered}
use Rattle.serving.specs.NetworkCore.{network_core, ServesDesign}
use Rattle.serving.specs.Tells.{core-length}
use Rattle.serving.specs.Build.{built}
use Rattle.serving.proofs.Serves.{drawn_serves}
use Rattle.mapper.specs.Map.{Permitted}
use Rattle.mapper.specs.BuiltLaws.{built_permitted}
use Rattle.mapper.specs.Posed.{Given}

-- ---- labels differ exactly where columns conflict
module _ (d : Design) (cl budgets : List ℕ) (v m limit : ℕ) (g : Given d cl budgets v m limit) where
  pub to_labels : (l : List Cell) → ServesDesign d l → Serves v m (Differ (label_at cl)) (item budgets) l
  to_labels l s =
      record {
        tells = λ o x y h a b n.
            (let h' = subst (λ (k : ℕ). o < k) g.outputs h in
            let a' = subst (λ (k : ℕ). x < k) g.vertices a in
            let b' = subst (λ (k : ℕ). y < k) g.vertices b in
            s.tells o x y h' a' b' (true_unless (conflict d d.bound o x y) (λ e. n (g.labels o x h' a' ∙ no_conflict_local d d.bound o x y e ∙ sym (g.labels o y h' b')))));
        within = λ o h.
            (let h' = subst (λ (k : ℕ). o < k) g.outputs h in
            subst (λ (n : ℕ). reading o l ≤ n) (sym (g.budgeted o h')) (s.within o h'));
      }

  to_design : (l : List Cell) → Serves v m (Differ (label_at cl)) (item budgets) l → ServesDesign d l
  to_design l s =
      record {
        tells = λ o x y h a b e.
            s.tells o x y (subst (λ (k : ℕ). o < k) (sym g.outputs) h) (subst (λ (k : ℕ). x < k) (sym g.vertices) a) (subst (λ (k : ℕ). y < k) (sym g.vertices) b)
            (λ q. true_false (sym e ∙ local_no_conflict d d.bound o x y (sym (g.labels o x h a) ∙ q ∙ g.labels o y h b)));
        within = λ o h. subst (λ (n : ℕ). reading o l ≤ n) (g.budgeted o h) (s.within o (subst (λ (k : ℕ). o < k) (sym g.outputs) h));
      }

  -- ---- nothing found
  pub none_found : (u : ℕ) (rows codes : List ℕ)
      → WellFormed d
      → Answered cl budgets v m limit false u rows codes
      → (w : Network)
      → NetworkFor d w
      → WithinLimits d w
      → Computes d w
      → ⊥
  none_found u rows codes f a w p l c =
      let s = drawn_serves d w (proper_of d f) p l c in
      let q = a.answer (network_core w) (to_labels (network_core w) s) in
      let n = core-length w in
      let k = l.luts-within in
      let e = g.within in
      omega arith

-- ---- what was found is permitted
module _ (d : Design) (cl budgets : List ℕ) (v m limit : ℕ) (g : Given d cl budgets v m limit) (f : WellFormed d)
    (u : ℕ) (rows codes : List ℕ) (a : Answered cl budgets v m limit true u rows codes) where
  served : ServesDesign d (core_of u (item rows) (item codes))
  served = to_design d cl budgets v m limit g (core_of u (item rows) (item codes)) a.answer.1.serves

  few : u ≤ d.limit
  few = subst (λ (n : ℕ). u ≤ n) g.within a.few

  found_fewest : (w : Network) → NetworkFor d w → WithinLimits d w → Computes d w → u ≤ length w.luts
  found_fewest w p l c =
      let s = drawn_serves d w (proper_of d f) p l c in
      let q = a.answer.1.fewest (network_core w) (to_labels d cl budgets v m limit g (network_core w) s) in
      let n = core-length w in
      let e : length (core_of u (item rows) (item codes)) ≡ u = cells-length u 0 (item rows) (item codes) in
      omega arith

  pub found_permitted : u ≤ max_cells → Permitted d (built d u (item rows) (item codes))
  found_permitted l = built_permitted d f u (item rows) (item codes) served l few a.answer.1.zero found_fewest
