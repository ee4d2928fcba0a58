-- The sets of one number are asked by falling rank, and so in order: the first that is not served is the answer. Assumes nothing.
use Rattle.std.specs.Prelude.{◌≡◌, refl, List, ℕ, ◌+◌, ◌-◌, ◌^◌, ◌≤◌, ◌<◌}
use Rattle.std.proofs.Common.{sym, ap, ◌∙◌, subst, arith}
use Rattle.std.proofs.Math.Decide.{ℕ_discrete}
use Rattle.subsets.specs.Subset.{size, SomeOf}
use Rattle.subsets.specs.Rank.{rank}
use Rattle.subsets.specs.RankLaws.{rank_below, rank-rank, rank-some, earlier_rank}
use Rattle.unserved.specs.Unserved.{Fits, Lacking}
use Rattle.unserved.specs.Asking.{FitBelow, Stand, FitFrom, Sifted}

module _ (cl budgets : List ℕ) (v m limit k : ℕ) where
  pub sift_start : (r : ℕ) → r ≡ 2 ^ m - 1 → FitFrom cl budgets v m limit k (r + 1)
  sift_start r e = record { fits = λ t h c b. let z = rank_below m t in absurd (omega arith) }

  -- the set asked, s, has rank r
  module _ (r s : ℕ) (few : r < 2 ^ m) (e : s ≡ rank m r) (f : FitFrom cl budgets v m limit k (r + 1)) where
    its_rank : (t : ℕ) → SomeOf m t → rank m t ≡ r → t ≡ s
    its_rank t h q = sym (rank-rank m t h.inside) ∙ ap (rank m) q ∙ sym e

    sift_next : (size m s ≡ k → Fits cl budgets v m limit s) → FitFrom cl budgets v m limit k r
    sift_next g = record { fits = λ t h c b. at t h c b (ℕ_discrete (rank m t) r) }
      where
        at : (t : ℕ) → SomeOf m t → size m t ≡ k → r ≤ rank m t → Dec (rank m t ≡ r) → Fits cl budgets v m limit t
        at t h c b (yes q) = let w = its_rank t h q in subst (Fits cl budgets v m limit) (sym w) (g (sym (ap (size m) w) ∙ c))
        at t h c b (no q) = f.fits t h c (omega arith)

    pub sift_other : (size m s ≡ k → ⊥) → FitFrom cl budgets v m limit k r
    sift_other g = sift_next (λ c. absurd (g c))

    pub sift_served : Fits cl budgets v m limit s → FitFrom cl budgets v m limit k r
    sift_served w = sift_next (λ c. w)

    pub sift_fewer : (labels budgets' : List ℕ) (n : ℕ) → Stand cl budgets v m s labels budgets' n → n < k → FitBelow cl budgets v m limit k
        → FitFrom cl budgets v m limit k r
    sift_fewer labels budgets' n d h w = sift_next (λ c. d.fewer limit (subst (λ (s : ℕ). s < 2 ^ m) (sym e) (rank_below m r)) (omega arith)
        (subst (FitBelow cl budgets v m limit) (sym c) w))

    its_outputs : 1 ≤ r → SomeOf m s
    its_outputs some = subst (SomeOf m) (sym e) (rank-some m r (record { inside = few; filled = some }))

    pub sift_some : 1 ≤ r → 0 < s
    sift_some some = (its_outputs some).filled

    pub sift_found : 1 ≤ r → size m s ≡ k → Lacking cl budgets v m limit s → Sifted cl budgets v m limit k s
    sift_found some c w = record {
      all = λ q. let z = outputs.filled in absurd (omega arith);
      first = λ _. record {
        outputs = outputs;
        count = c;
        lacking = w;
        earlier = λ t h b a. let z = earlier_rank m t s h.inside a in f.fits t h b (let q = back in omega arith);
      };
    }
      where
        outputs : SomeOf m s
        outputs = its_outputs some

        back : rank m s ≡ r
        back = ap (rank m) e ∙ rank-rank m r few

  pub sift_end : (r : ℕ) → r ≤ 1 → FitFrom cl budgets v m limit k r → Sifted cl budgets v m limit k 0
  sift_end r b f = record {
    all = λ _. record { fits = λ t h c _. let z = (rank-some m t h).filled in f.fits t h c (omega arith) };
    first = λ g. absurd (g refl);
  }
