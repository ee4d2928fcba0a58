-- Laws of choosing: an output that none of those kept dominates is kept and dominates itself, and one that is dominated stays so
-- when more are kept. The labels and budgets of those kept stand for all. Assumes nothing.
use Rattle.std.specs.Prelude.{◌≡◌, refl, List, ℕ, ◌+◌, ◌*◌, ◌/◌, ◌%◌, ◌≤◌, ◌<◌, length, set}
use Rattle.std.proofs.Common.{sym, ap, ap₂, ◌∙◌, subst, ⊎_elim, arith, length-set, get_or-set_same, get_or-set_other}
use Rattle.std.proofs.Math.Decide.{ℕ_discrete}
use Rattle.bits.specs.CountLaws.{less_or_equal}
use Rattle.bits.specs.FilledLaws.{each_more}
use Rattle.sorting.specs.OrderLaws.{indices_set}
use Rattle.problem.specs.Problem.{label_at, item}
use Rattle.relation.specs.Relation.{Classes, Conflict}
use Rattle.relation.specs.RelationLaws.{same_labels_conflict}
use Rattle.sorting.specs.Order.{Order, Indices}
use Rattle.dominance.specs.Kept.{StandFor}
use Rattle.dominance.specs.Dominance.{Dominates, Choosing, Chosen, Picked, Taken}

-- ======== output after output
module _ (cl budgets : List ℕ) (v : ℕ) where
  dominates_self : (o : ℕ) → Dominates cl budgets v o o
  dominates_self o = record { inside = record { inside = λ x y h k c. c }; budget = refl }

  module _ (m : ℕ) (order : List ℕ) where
    pub choosing_start : (from by : List ℕ) → length from ≡ 8 → length by ≡ 8 → ((k : ℕ) → item from k ≡ 0) → Choosing cl budgets v m order 0 0 from by
    choosing_start from by e d zeros = record {
      indices = record { long = e; small = λ k h. let z = zeros k in omega arith };
      long = d;
      few = omega arith;
      among = λ k h. absurd (omega arith);
      below = λ j h. absurd (omega arith);
      dominated = λ j h. absurd (omega arith);
    }

    module _ (i n : ℕ) (from by : List ℕ) (k : ℕ) (low : item order i < 8) (s : Choosing cl budgets v m order i n from by) where
      abbrev o : ℕ
      o = item order i

      -- output o gets place k of those kept, to which more may have been added
      choosing-more : (n' : ℕ) (from' : List ℕ) → Indices from' → n ≤ n' → n' ≤ i + 1 → ((l : ℕ) → l < n' → item from' l < m)
          → ((l : ℕ) → l < n → item from' l ≡ item from l) → k < n' → Dominates cl budgets v o (item from' k)
          → Choosing cl budgets v m order (i + 1) n' from' (set by o k)
      choosing-more n' from' f more few among same h d = record {
        indices = f;
        long = length-set by o k ∙ s.long;
        few = few;
        among = among;
        below = λ j b. (at j b (ℕ_discrete (item order j) o)).0;
        dominated = λ j b. (at j b (ℕ_discrete (item order j) o)).1;
      }
        where
          at : (j : ℕ) → j < i + 1 → Dec (item order j ≡ o)
              → (item (set by o k) (item order j) < n') × Dominates cl budgets v (item order j) (item from' (item (set by o k) (item order j)))
          at j b (yes e) =
              let w : item (set by o k) (item order j) ≡ k = ap (item (set by o k)) e ∙ get_or-set_same by o k 0 (let z = s.long in omega arith) in (
                omega arith,
                subst (λ (p : ℕ). Dominates cl budgets v p (item from' (item (set by o k) (item order j)))) (sym e)
                    (subst (λ (p : ℕ). Dominates cl budgets v o (item from' p)) (sym w) d),
              )
          at j b (no e) = ⊎_elim
              (λ a.
              let w : item (set by o k) (item order j) ≡ item by (item order j) = get_or-set_other by o (item order j) k 0 e in
              let z = s.below j a in
              (omega arith, subst (Dominates cl budgets v (item order j)) (sym (ap (item from') w ∙ same (item by (item order j)) z)) (s.dominated j a)))
              (λ a. absurd (e (ap (item order) a)))
              (less_or_equal j i (omega arith))

      pub choosing-dominated : k < n → Dominates cl budgets v o (item from k) → Choosing cl budgets v m order (i + 1) n from (set by o k)
      choosing-dominated h d = choosing-more n from s.indices (omega arith) (let z = s.few in omega arith) s.among (λ l b. refl) h d

      pub choosing-kept : k ≡ n → n < 8 → o < m → Choosing cl budgets v m order (i + 1) (n + 1) (set from n o) (set by o k)
      choosing-kept e b h = choosing-more (n + 1) (set from n o) (indices_set from n o b low s.indices) (omega arith) (let z = s.few in omega arith)
          (each_more (λ l z. z < m) n o from (let z = s.indices.long in omega arith) h s.among)
          (λ l b. get_or-set_other from n l o 0 (λ q. let z : l ≡ n = q in omega arith))
          (omega arith)
          (subst (Dominates cl budgets v o) (sym (ap (item (set from n o)) e ∙ get_or-set_same from n o 0 (let z = s.indices.long in omega arith))) (dominates_self o))

    pub choosing_all : (i n : ℕ) (from by : List ℕ) → m ≤ i → i ≤ 8 → Order order m → Choosing cl budgets v m order i n from by → Chosen cl budgets v m n from by
    choosing_all i n from by h few t s = record {
      indices = s.indices;
      few = let z = s.few in omega arith;
      among = s.among;
      below = λ o b. let j = t.onto o b in subst (λ (o : ℕ). item by o < n) j.2 (s.below j.0 (let z = j.1 in omega arith));
      dominated = λ o b. let j = t.onto o b in subst (λ (o : ℕ). Dominates cl budgets v o (item from (item by o))) j.2 (s.dominated j.0 (let z = j.1 in omega arith));
    }

-- ======== what is kept stands for all
module _ (cl from labels : List ℕ) (p : Taken cl from 256 labels) where
  pub taken_at : (o x : ℕ) → o < 8 → x < 32 → label_at labels o x ≡ label_at cl (item from o) x
  taken_at o x h k = p.done (o * 32 + x) (omega arith) ∙ ap₂ (λ (a b : ℕ). label_at cl (item from a) b) (let e : (o * 32 + x) / 32 ≡ o = omega arith in e)
      (let e : (o * 32 + x) % 32 ≡ x = omega arith in e)

  pub taken_classes : Classes cl → Indices from → Classes labels
  taken_classes c f = record {
    long = p.long;
    low = λ k h. subst (λ (z : ℕ). z < 32) (sym (p.done k h))
        (c.low (item from (k / 32) * 32 + k % 32) (let z = f.small (k / 32) (omega arith) in omega arith));
  }

  taken_conflict : (i x y : ℕ) → i < 8 → x < 32 → y < 32 → Conflict labels i x y → Conflict cl (item from i) x y
  taken_conflict i x y h a b = same_labels_conflict labels cl i (item from i) x y (taken_at i x h a) (taken_at i y h b)

  conflict_taken : (i x y : ℕ) → i < 8 → x < 32 → y < 32 → Conflict cl (item from i) x y → Conflict labels i x y
  conflict_taken i x y h a b = same_labels_conflict cl labels (item from i) i x y (sym (taken_at i x h a)) (sym (taken_at i y h b))

pub chosen_stand_for : (cl budgets : List ℕ) (v m n : ℕ) (from by labels budgets' : List ℕ) → Classes cl → v ≤ 32
    → Chosen cl budgets v m n from by → Taken cl from 256 labels → Picked budgets from 8 budgets' → StandFor cl budgets v m labels budgets' n by
chosen_stand_for cl budgets v m n from by labels budgets' c b s t p = record {
  classes = taken_classes cl from labels t c s.indices;
  few = s.few;
  below = s.below;
  inside = λ o x y h a d k. let w = s.below o h in let f = s.few in
      conflict_taken cl from labels t (item by o) x y (omega arith) (omega arith) (omega arith) ((s.dominated o h).inside.inside x y a d k);
  budget = λ o h. let w = s.below o h in let f = s.few in (s.dominated o h).budget ∙ sym (p.done (item by o) (omega arith));
  from = λ i h. let f = s.few in (
    item from i,
    s.among i h,
    (λ x y a d. taken_conflict cl from labels t i x y (omega arith) (omega arith) (omega arith)),
    p.done i (omega arith),
  );
}
