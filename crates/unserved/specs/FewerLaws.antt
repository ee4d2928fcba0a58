-- Where fewer outputs are kept than a set has, one of its outputs is none of those that the kept ones came from: the set without it is
-- smaller, and with cells that serve this one every output of the set can read what the output reads that dominates it. Assumes nothing.
use Rattle.std.specs.Prelude.{◌≡◌, true, List, ℕ, zero, suc, ◌^◌, ◌≤◌, ◌<◌}
use Rattle.std.proofs.Math.Path.{sym}
use Rattle.std.proofs.Common.{ap, ◌∙◌, subst, arith}
use Rattle.std.proofs.Math.Decide.{dec_lt}
use Rattle.bits.specs.Digit.{on}
use Rattle.bits.specs.DigitLaws.{on_zero}
use Rattle.bits.specs.LogicLaws.{never_both}
use Rattle.subsets.specs.Listed.{Place}
use Rattle.cells.specs.RenumberedLaws.{serves_as, renumbered-length, renumbered_reads_as}
use Rattle.cells.specs.Core.{Differ}
use Rattle.cells.specs.Renumbered.{renumbered}
use Rattle.problem.specs.Problem.{label_at, item}
use Rattle.relation.specs.Relation.{Conflict}
use Rattle.dominance.specs.Kept.{StandFor}
use Rattle.dominance.specs.KeptCellsLaws.{origin, origin-like}
use Rattle.subsets.specs.Subset.{members, size, member_at, SomeOf}
use Rattle.subsets.specs.SubsetLaws.{member_below, member_in, members-distinct, member_place}
use Rattle.unserved.specs.Unserved.{Fits}
use Rattle.unserved.specs.Asking.{FitBelow, OfMembers, without}
use Rattle.unserved.specs.MissedLaws.{missed}
use Rattle.unserved.specs.WithoutLaws.{without_other, without_below, without-size}

module _ (cl budgets : List ℕ) (v m s n : ℕ) (labels taken : List ℕ) (w : OfMembers cl budgets v m s n labels taken)
    (labels' budgets' : List ℕ) (k : ℕ) (by : List ℕ) (d : StandFor labels taken v n labels' budgets' k by) where
  -- the output of the set, by its place among the members, that output j of it can read like
  abbrev like : ℕ → ℕ
  like j = origin labels taken labels' budgets' v n k by d (item by j)

  like_below : (j : ℕ) → j < n → like j < size m s
  like_below j h = let z = w.count in let b = (origin-like labels taken labels' budgets' v n k by d (item by j) (d.below j h)).0 in omega arith

  -- what two members have to tell apart, and their budgets
  abbrev Told : ℕ → ℕ → Type 0
  Told j q = ((x y : ℕ) → x < v → y < v → Differ (λ j x. label_at cl (member_at m s j) x) j x y → Differ (λ j x. label_at cl (member_at m s j) x) q x y)
      × (item budgets (member_at m s j) ≡ item budgets (member_at m s q))

  like-told : (j : ℕ) → j < n → Told j (like j)
  unfolding Conflict
  like-told j h =
      let o = origin-like labels taken labels' budgets' v n k by d (item by j) (d.below j h) in (
        λ x y a b c e. o.1 x y a b (d.inside j x y h a b (λ q. c (sym (w.label j x h a) ∙ q ∙ w.label j y h b)))
            (w.label (like j) x o.0 a ∙ e ∙ sym (w.label (like j) y o.0 b)),
        sym (w.budget j h) ∙ d.budget j h ∙ o.2 ∙ w.budget (like j) o.0,
      )

  -- the output left out is member j, and no output reads like it
  module _ (inside : s < 2 ^ m) (j : ℕ) (b : j < n) (never : (o : ℕ) → o < n → like o ≡ j → ⊥) where
    abbrev gone : ℕ
    gone = member_at m s j

    abbrev rest : ℕ
    rest = without s gone

    there : j < size m s
    there = let z = w.count in omega arith

    kept_in : (o : ℕ) → o < n → on rest (member_at m s (like o)) ≡ true
    kept_in o h =
        without_other s gone (member_at m s (like o)) (λ e. never o h (members-distinct m s (like o) j (like_below o h) there e))
        ∙ member_in m s (like o) (like_below o h)

    place_of : (o : ℕ) → o < n → Place (members rest 0 m) (member_at m s (like o))
    place_of o h = member_place m rest (member_at m s (like o)) (member_below m s (like o) (like_below o h)) (kept_in o h)

    rest_some : SomeOf m rest
    rest_some = record {
      inside = without_below m s gone inside (member_below m s j there);
      filled = go rest (kept_in j b);
    }
      where
        go : (t : ℕ) → on t (member_at m s (like j)) ≡ true → 1 ≤ t
        go zero e = absurd (never_both e (on_zero (member_at m s (like j))))
        go (suc t) e = omega arith

    abbrev source : (o : ℕ) → Dec (o < n) → ℕ
    source o (yes h) = (place_of o h).place
    source o (no h) = 0

    abbrev reader : ℕ → ℕ
    reader o = source o (dec_lt o n)

    reads : (o : ℕ) → o < n → (reader o < size m rest) × (member_at m rest (reader o) ≡ member_at m s (like o))
    reads o h = at (dec_lt o n)
      where
        at : (c : Dec (o < n)) → (source o c < size m rest) × (member_at m rest (source o c) ≡ member_at m s (like o))
        at (yes h) = ((place_of o h).within, (place_of o h).is_there)
        at (no e) = absurd (e h)

    rest_fits : (limit : ℕ) → Fits cl budgets v m limit rest → Fits cl budgets v m limit s
    rest_fits limit f = record {
      cells = renumbered reader f.cells;
      few = let e = renumbered-length reader f.cells in let z = f.few in omega arith;
      serves = serves_as v (size m s) (size m rest)
          (Differ (λ j x. label_at cl (member_at m rest j) x)) (Differ (λ j x. label_at cl (member_at m s j) x))
          (λ j. item budgets (member_at m rest j)) (λ j. item budgets (member_at m s j)) (renumbered reader f.cells) f.cells
          (λ o h. let z = w.count in let r = reads o (omega arith) in let t = like-told o (omega arith) in (
            reader o,
            r.0,
            (λ x y a c g e. t.0 x y a c g (subst (λ (i : ℕ). label_at cl i x ≡ label_at cl i y) r.1 e)),
            t.1 ∙ sym (ap (item budgets) r.1),
            renumbered_reads_as reader o f.cells,
          ))
          f.serves;
    }

    rest_less : size m rest < size m s
    rest_less = without-size m s gone (member_below m s j there) (member_in m s j there)

    below_fits : (limit : ℕ) → FitBelow cl budgets v m limit (size m s) → Fits cl budgets v m limit s
    below_fits limit f = rest_fits limit (f.fits rest rest_some rest_less)

  pub fewer_fits : (limit : ℕ) → s < 2 ^ m → k < n → FitBelow cl budgets v m limit (size m s) → Fits cl budgets v m limit s
  fewer_fits limit inside h f =
      let j = missed (origin labels taken labels' budgets' v n k by d) k n h in
      below_fits inside j.0 j.1 (λ o b. j.2 (item by o) (d.below o b)) limit f
