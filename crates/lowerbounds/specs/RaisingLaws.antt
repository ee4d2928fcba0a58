-- Why a raised table of needed blocks has reasons: an entry that stays keeps its reason, and one that is raised has the kinds
-- that raise it. Assumes nothing.
use Rattle.std.specs.Prelude.{◌≡◌, refl, List, ◌⊎◌, ℕ, zero, suc, ◌+◌, ◌-◌, ◌*◌, ◌/◌, ◌%◌, ◌^◌, ◌≤◌, ◌<◌, length, set}
use Rattle.std.proofs.Common.{sym, ap, ◌∙◌, subst, inl, inr, ⊎_elim, arith, div-mul-le_self, suc-mul, pow_pos, length-set, get_or-set_same, get_or-set_other}
use Rattle.std.proofs.Math.Decide.{ℕ_discrete, dec_lt}
use Rattle.limits.specs.Limits.{max_vertices, label_count}
use Rattle.bits.specs.CountLaws.{less_or_equal}
use Rattle.problem.specs.Problem.{item}
use Rattle.lowerbounds.specs.Reasons.{apart, Reason, Based, FewKinds, blocks_for, Raised}

-- ======== the entries of one output, class by class
module _ (o d : ℕ) (kinds before : List ℕ) where
  pub raised_start : Raised o d 0 kinds before before
  raised_start = record { long = refl; own = λ l h. absurd (omega arith); others = λ i h. refl }

  pub raised_kept : (n : ℕ) (after : List ℕ) → Raised o d n kinds before after → Raised o d (n + 1) kinds before after
  raised_kept n after s = record {
    long = s.long;
    own = λ l h. ⊎_elim (s.own l) (λ e. inl (s.others (o * 32 + l) (inr (omega arith)))) (less_or_equal l n (omega arith));
    others = λ i h. s.others i (⊎_elim inl (λ k. inr (omega arith)) h);
  }

  pub raised_more : (n b : ℕ) (after : List ℕ) → o * max_vertices + n < length before → b ≡ blocks_for (item kinds n) d → Raised o d n kinds before after
      → Raised o d (n + 1) kinds before (set after (o * max_vertices + n) b)
  raised_more n b after room e s = record {
    long = length-set after (o * 32 + n) b ∙ s.long;
    own = λ l h. own-entry l (less_or_equal l n (omega arith));
    others = λ i h. get_or-set_other after (o * 32 + n) i b 0 (λ z. ⊎_elim (λ a. omega arith) (λ a. omega arith) h) ∙ s.others i (⊎_elim inl (λ k. inr (omega arith)) h);
  }
    where
      after' : List ℕ
      after' = set after (o * 32 + n) b

      here : item after' (o * 32 + n) ≡ blocks_for (item kinds n) d
      here = get_or-set_same after (o * 32 + n) b 0 (let z = s.long in omega arith) ∙ e

      own-entry : (l : ℕ) → (l < n) ⊎ (l ≡ n) → (item after' (o * 32 + l) ≡ item before (o * 32 + l)) ⊎ (item after' (o * 32 + l) ≡ blocks_for (item kinds l) d)
      own-entry l (inr a) = inr (subst (λ (z : ℕ). item after' (o * 32 + z) ≡ blocks_for (item kinds z) d) (sym a) here)
      own-entry l (inl a) =
          let stays : item after' (o * 32 + l) ≡ item after (o * 32 + l) = get_or-set_other after (o * 32 + n) (o * 32 + l) b 0 (λ z. omega arith) in
          ⊎_elim (λ k. inl (stays ∙ k)) (λ k. inr (stays ∙ k)) (s.own l a)

-- an entry that is none of o's stands before or after them
elsewhere : (o i : ℕ) → (i / 32 ≡ o → ⊥) → (i < o * 32) ⊎ (o * 32 + 32 ≤ i)
elsewhere o i ne = elim (dec_lt i (o * 32)) as (λ _. (i < o * 32) ⊎ (o * 32 + 32 ≤ i)) [ yes l ↦ inl l | no g ↦ inr (after (dec_lt i (o * 32 + 32)) g) ]
  where
    after : Dec (i < o * 32 + 32) → (i < o * 32 → ⊥) → o * 32 + 32 ≤ i
    after (no k) g = omega arith
    after (yes k) g = absurd (ne (omega arith))

-- ======== reasons
-- b is g / p rounded up: p fits less than g times below it
rounded : (g p : ℕ) → 0 < p → 0 < (g + p - 1) / p → ((g + p - 1) / p - 1) * p < g
rounded g p h k = go ((g + p - 1) / p) k (div-mul-le_self (g + p - 1) p)
  where
    go : (b : ℕ) → 0 < b → b * p ≤ g + p - 1 → (b - 1) * p < g
    go zero l e = absurd (omega arith)
    go (suc b) l e = let s : suc b * p ≡ b * p + p = suc-mul b p in let z : (suc b - 1) * p ≡ b * p = ap (λ (x : ℕ). x * p) (let y : suc b - 1 ≡ b = omega arith in y) in omega arith

module _ (cl rows : List ℕ) (v j : ℕ) where
  kinds_are_a_reason : (o l q g d : ℕ) → q < j → 2 ^ d ≡ apart rows o q → FewKinds cl v o l q g → Reason cl rows v j o l (blocks_for g d)
  kinds_are_a_reason o l q g d h e k = go (ℕ_discrete (blocks_for g d) 0)
    where
      go : Dec (blocks_for g d ≡ 0) → Reason cl rows v j o l (blocks_for g d)
      go (yes z) = inl z
      go (no ne) = inr (q, g, h, k.kinds, subst (λ (x : ℕ). (blocks_for g d - 1) * x < g) e (rounded g (2 ^ d) (pow_pos d) (omega arith)))

  pub based_start : (base : List ℕ) → length base ≡ label_count → ((i : ℕ) → item base i ≡ 0) → Based cl rows v j (j * max_vertices) base
  based_start base e zero-all = record { long = e; reasons = λ i h. inl (zero-all i); rest = λ i h. zero-all i }

  pub raised_based : (o q d : ℕ) (kinds before after : List ℕ) → o < j → q < j → 2 ^ d ≡ apart rows o q → ((l : ℕ) → l < max_vertices → FewKinds cl v o l q (item kinds l))
      → Raised o d max_vertices kinds before after → Based cl rows v j (j * max_vertices) before → Based cl rows v j (j * max_vertices) after
  raised_based o q d kinds before after ho hq e few r s = record {
    long = r.long ∙ s.long;
    reasons = λ i h. reason i h (ℕ_discrete (i / 32) o);
    rest = λ i h. r.others i (inr (omega arith)) ∙ s.rest i h;
  }
    where
      own-entry : (l : ℕ) → l < 32 → Reason cl rows v j o l (item before (o * 32 + l)) → Reason cl rows v j o l (item after (o * 32 + l))
      own-entry l h old = ⊎_elim (λ k. subst (Reason cl rows v j o l) (sym k) old)
          (λ k. subst (Reason cl rows v j o l) (sym k) (kinds_are_a_reason o l q (item kinds l) d hq e (few l h))) (r.own l h)

      reason : (i : ℕ) → i < j * 32 → Dec (i / 32 ≡ o) → Reason cl rows v j (i / 32) (i % 32) (item after i)
      reason i h (yes a) =
          let p : i ≡ o * 32 + i % 32 = omega arith in
          subst (λ (z : ℕ). Reason cl rows v j z (i % 32) (item after i)) (sym a) (subst (λ (z : ℕ). Reason cl rows v j o (i % 32) (item after z)) (sym p)
          (own-entry (i % 32) (omega arith) (subst (λ (z : ℕ). Reason cl rows v j o (i % 32) (item before z)) p (subst (λ (z : ℕ). Reason cl rows v j z (i % 32) (item before i)) a (s.reasons i h)))))
      reason i h (no ne) = subst (Reason cl rows v j (i / 32) (i % 32)) (sym (r.others i (elsewhere o i ne))) (s.reasons i h)
