-- A coarser relation makes no more classes: where related numbers stay related, whoever is first of its class in the coarser
-- relation is so in the finer one. Assumes nothing.
use Rattle.std.specs.Prelude.{◌≡◌, Bool, true, false, eqb}
use Rattle.std.proofs.Common.{subst}
use Rattle.std.proofs.Math.Logic.{⊎_elim}
use Prim.Native.Nat.{ℕ, zero, suc, ◌+◌, ◌≤◌, ◌<◌}
use native.Mathlib.Omega.{arith}
use borrow.Author.Tests.{eqb-true, eqb-false}
use Rattle.bits.specs.LogicLaws.{either}
use Rattle.classes.specs.Cases.{not_both}
use Rattle.classes.specs.Classes.{first_like, class_count}
use Rattle.classes.specs.ClassLaws.{First, first_unique, first_like_lem, first_counts, other_counts, count_grows}

module _ (fine coarse : ℕ → ℕ → Bool) where
  none_finer : (v z : ℕ) → (fine z v ≡ true → coarse z v ≡ true) → coarse z v ≡ false → fine z v ≡ false
  none_finer v z keeps apart =
      ⊎_elim (λ e. absurd (not_both (coarse z v) (keeps e) apart)) (λ e. e) (either (fine z v))

  first_finer : (v : ℕ) → ((z : ℕ) → z < v → fine z v ≡ true → coarse z v ≡ true) → first_like coarse v ≡ v → first_like fine v ≡ v
  first_finer v keeps e =
      let here : First coarse v v 0 v = subst (First coarse v v 0) e (first_like_lem coarse v) in
      let found : First fine v v 0 v
      = record {
        from_start = omega arith;
        to_end = omega arith;
        related = λ l. absurd (omega arith);
        none_before = λ z a b. none_finer v z (keeps z b) (here.none_before z a b);
      } in
      first_unique fine v v 0 (first_like fine v) v (first_like_lem fine v) found

  pub coarser_count : (v : ℕ) → ((x y : ℕ) → x < v → y < v → fine x y ≡ true → coarse x y ≡ true) → class_count coarse v ≤ class_count fine v
  unfolding class_count
  coarser_count zero keeps = omega arith
  coarser_count (suc v) keeps =
      let before : class_count coarse v ≤ class_count fine v = coarser_count v (λ x y a b. keeps x y (omega arith) (omega arith)) in
      ⊎_elim
      (λ e.
      let first : first_like coarse v ≡ v = eqb-true (first_like coarse v) v e in
      let more : class_count coarse (suc v) ≡ class_count coarse v + 1 = first_counts coarse v first in
      let as_many : class_count fine (suc v) ≡ class_count fine v + 1
      = first_counts fine v (first_finer v (λ z l. keeps z v (omega arith) (omega arith)) first) in
      omega arith)
      (λ e.
      let none_more : class_count coarse (suc v) ≡ class_count coarse v
      = other_counts coarse v (eqb-false (first_like coarse v) v e) in
      let grows : class_count fine v ≤ class_count fine (suc v) = count_grows fine v (suc v) (omega arith) in
      omega arith)
      (either (eqb (first_like coarse v) v))
