-- The sets of fewer outputs are asked first. Where all outputs together are not served, the first set found is the answer, and where
-- every smaller set is served it is the set of all. Assumes nothing.
use Rattle.std.specs.Prelude.{◌≡◌, refl, List, [], ℕ, ◌+◌, ◌-◌, ◌^◌, ◌≤◌, ◌<◌}
use Rattle.std.proofs.Common.{sym, ap, ◌∙◌, subst, ⊎_elim, arith}
use Rattle.std.proofs.Math.Decide.{dec_lt}
use Rattle.bits.specs.LogicLaws.{true_false}
use Rattle.bits.specs.DigitLaws.{on-ones, on_above}
use Rattle.bits.specs.CountLaws.{less_or_equal}
use Rattle.subsets.specs.Subset.{size, SomeOf, Earlier}
use Rattle.subsets.specs.SubsetLaws.{some_size, all-some, all-size}
use Rattle.unserved.specs.Unserved.{Fits, Lacking, FirstLacking, every_output, Answered}
use Rattle.unserved.specs.Asking.{FitBelow, Sifted}

-- nothing comes before the set of all
never_earlier : (m t : ℕ) → SomeOf m t → Earlier t (2 ^ m - 1) → ⊥
never_earlier m t h e = at (dec_lt e.place m)
  where
    at : Dec (e.place < m) → ⊥
    at (yes l) = true_false (sym (on-ones m e.place l) ∙ e.not_in_second)
    at (no g) = true_false (sym e.in_first ∙ on_above m t e.place h.inside (omega arith))

module _ (cl budgets : List ℕ) (v m limit : ℕ) where
  pub below_start : FitBelow cl budgets v m limit 1
  below_start = record { fits = λ t h b. let z = some_size m t h in absurd (omega arith) }

  pub below_more : (k s : ℕ) → s ≡ 0 → Sifted cl budgets v m limit k s → FitBelow cl budgets v m limit k → FitBelow cl budgets v m limit (k + 1)
  below_more k s e c f = record {
    fits = λ t h b. ⊎_elim (f.fits t h) (λ q. (c.all e).fits t h q (omega arith)) (less_or_equal (size m t) k (omega arith));
  }

  module _ (all : ℕ) (every : all ≡ every_output m) where
    pub answer_served : Fits cl budgets v m limit all → Answered cl budgets v m limit 0
    answer_served w = record { served = λ _. subst (Fits cl budgets v m limit) every w; refused = λ g. absurd (g refl); first = λ g. absurd (g refl) }

    module _ (lacking : Lacking cl budgets v m limit all) where
      answer-first : (s : ℕ) → FirstLacking cl budgets v m limit s → Answered cl budgets v m limit s
      answer-first s c = record {
        served = λ e. let z = c.outputs.filled in absurd (omega arith);
        refused = λ _. subst (Lacking cl budgets v m limit) every lacking;
        first = λ _. c;
      }

      pub answer_found : (k s : ℕ) → (s ≡ 0 → ⊥) → FitBelow cl budgets v m limit k → Sifted cl budgets v m limit k s → Answered cl budgets v m limit s
      answer_found k s g f c =
          let w = c.first g in
          answer-first s (record {
            outputs = w.outputs;
            lacking = w.lacking;
            smaller = λ t h b. let z = w.count in f.fits t h (omega arith);
            earlier = λ t h b a. w.earlier t h (b ∙ w.count) a;
          })

      every-size : size m all ≡ m
      every-size = ap (size m) every ∙ all-size m

      -- no outputs at all are served by no cells
      some-outputs : 1 ≤ m
      some-outputs = at (dec_lt 0 m)
        where
          at : Dec (0 < m) → 1 ≤ m
          at (yes h) = h
          at (no h) =
              let e = every-size in
              let w : limit < 0 = lacking.none [] (record { tells = λ o x y b. absurd (omega arith); within = λ o b. absurd (omega arith) }) in
              absurd (omega arith)

      all_outputs : SomeOf m all
      all_outputs = subst (SomeOf m) (sym every) (all-some m some-outputs)

      pub all_some : 0 < all
      all_some = all_outputs.filled

      pub answer-all : (k : ℕ) → m ≤ k → FitBelow cl budgets v m limit k → Answered cl budgets v m limit all
      answer-all k b f = answer-first all (record {
        outputs = all_outputs;
        lacking = lacking;
        smaller = λ t h c. let z = every-size in f.fits t h (omega arith);
        earlier = λ t h c a. absurd (never_earlier m t h (subst (Earlier t) every a));
      })
