-- The search's answer for the shared cells is the answer for the reading sets. Codes found tell apart; where none are found
-- there are none, since codes for all cells give codes of the shared cells that the search would have met. Nor are there any
-- where the classes of an output need more blocks than there are. Assumes nothing.
use Rattle.std.specs.Prelude.{◌≡◌, Bool, true, false, List, ◌⊎◌, ℕ, ◌≤◌, ◌<◌}
use Rattle.std.proofs.Common.{sym, ap, ◌∙◌, subst, inl, inr, arith, eq-eqb, ne_eqb}
use Rattle.std.proofs.Math.Decide.{ℕ_discrete}
use Rattle.bits.specs.Logic.{pick}
use Rattle.readers.specs.KnownLaws.{shared_fixed}
use Rattle.readers.specs.MasksLaws.{coded_of, solves_of, start-agrees}
use Rattle.cells.specs.SharedLaws.{gather}
use Rattle.cells.specs.ListLaws.{all_map, zeros_are}
use Rattle.cells.specs.Lists.{zeros}
use Rattle.cells.specs.Shared.{block, shared_code, Group}
use Rattle.problem.specs.Problem.{label_at, part_at, part_of, item, Told, Hopeless}
use Rattle.holding.specs.Wants.{need, share, needed}
use Rattle.coding.specs.Tried.{Covers}
use Rattle.readers.specs.Known.{Public}
use Rattle.readers.specs.Masks.{Short, Common, Planned, Start, Bounds, Decided}

-- what class l needs where nothing is held
need_none : (base : List ℕ) (o l : ℕ) → need (zeros 32) base o l ≡ label_at base o l
need_none base o l = let y = zeros_are 32 l in omega arith

module _ (cl base rows : List ℕ) (sh v j : ℕ) (ms ps caps spots : List ℕ) (few : v ≤ 32) (short : Short rows j) (c : Common rows j sh) (p : Planned rows sh j ms ps caps spots)
    (b : Bounds cl base rows sh ms v j) where
  pub decided_lost : (kn val : ℕ) → Public kn sh → (codes dom d r : List ℕ) → Start kn val codes dom → Covers cl base ms caps spots v j kn val codes d
      → Hopeless cl base ms caps spots v j kn val codes d → Decided cl v j rows kn val false r
  decided_lost kn val known codes dom d r s k t = λ f w q z.
      let g = solves_of rows sh j ms ps caps spots short c p cl base v f w (b.needs f w) in
      let a = start-agrees sh kn val codes dom v f few z s in
      let e = shared_fixed kn val sh v f known q in
      t.none (shared_code sh f) g (record { coded = a; within = k.covers (shared_code sh f) g a e }) e

  pub decided_of : (kn val : ℕ) → Public kn sh → (codes dom d : List ℕ) (ok : Bool) (r : List ℕ) → Start kn val codes dom → Covers cl base ms caps spots v j kn val codes d
      → Told cl base ms ps caps spots v j kn val codes d ok r → Decided cl v j rows kn val ok r
  decided_of kn val known codes dom d true r s k t = (coded_of rows sh j ms ps caps spots short c p cl v r t.0, t.1)
  decided_of kn val known codes dom d false r s k t = decided_lost kn val known codes dom d r s k t

  -- more blocks are needed by the classes of a part than there are
  pub decided_crowded : (o t kn val : ℕ) (r : List ℕ) → o < j → item spots o < needed cl (zeros 32) base o t → Decided cl v j rows kn val false r
  decided_crowded o t kn val r h l = λ f w q z.
      let g = solves_of rows sh j ms ps caps spots short c p cl base v f w (b.needs f w) in
      let key : ℕ → ℕ = λ x. block (item ms) (shared_code sh f) o x in
      let n = gather v (label_at cl o) key (λ (i : ℕ). part_at cl o i ≡ t) (share cl (zeros 32) base o t) 32 (λ i k. takes key i (g.fits.needs o i h k) (ℕ_discrete (part_at cl o i) t)) in
      let a = g.fits.places o t n.0 h (all_map (λ (x : ℕ). (x < v) × (label_at cl o x < 32) × (part_of cl o x ≡ t)) (λ (x : ℕ). (x < v) × (part_of cl o x ≡ t))
      n.0 (λ x i. (i.0, i.2)) n.1) n.2 in
      let y = n.3 in
      omega arith
    where
      takes : (key : ℕ → ℕ) (i : ℕ) → Group v (label_at cl o) key i (label_at base o i) → Dec (part_at cl o i ≡ t)
          → (share cl (zeros 32) base o t i ≡ 0) ⊎ ((part_at cl o i ≡ t) × Group v (label_at cl o) key i (share cl (zeros 32) base o t i))
      takes key i k (yes e) = inr (e, subst (Group v (label_at cl o) key i) (sym (ap (λ (z : Bool). pick z (need (zeros 32) base o i) 0) (eq-eqb (part_at cl o i) t e) ∙ need_none base o i)) k)
      takes key i k (no e) = inl (ap (λ (z : Bool). pick z (need (zeros 32) base o i) 0) (ne_eqb (part_at cl o i) t e))
