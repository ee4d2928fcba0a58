-- Sets of codes narrowed vertex by vertex, and two rules. A part that needs more blocks than there are places ends the search:
-- every solution has all blocks that a part needs, in different places. Where a part needs exactly as many, a vertex whose
-- class needs no block more loses all codes outside the blocks that the class holds, and one whose class needs one more loses
-- those outside these and the blocks in common: with such a code the class would have a block too many for the places, so no
-- solution has it. What solutions say stands in RulesLaws. Assumes nothing.
use Rattle.std.specs.Prelude.{◌≡◌, refl, true, List, ℕ, ◌+◌, ◌*◌, ◌≤◌, ◌<◌, length, set}
use Rattle.std.proofs.Common.{sym, ap, ◌∙◌, subst, ⊎_elim, arith, length-set, get_or-set_same, get_or-set_other}
use Rattle.std.specs.Int.Bits.{bit_and}
use Rattle.bits.specs.Digit.{on}
use Rattle.bits.specs.CountLaws.{less_or_equal}
use Rattle.holding.specs.BlocksLaws.{on_both}
use Rattle.problem.specs.Problem.{label_at, part_at, part_of, item, Labels, Kept, Hopeless}
use Rattle.holding.specs.Held.{Held}
use Rattle.holding.specs.Wants.{Wanted, Tight, need, needed}
use Rattle.holding.specs.RulesLaws.{enough, keeps_near, keeps_to}
use Rattle.holding.specs.Narrow.{Narrowed, Keeps, Stays}

-- ======== sets of codes narrowed by one output
module _ (P : ℕ → ℕ → Type 0) (dom : List ℕ) where
  pub narrowed_start : length dom ≡ 32 → Narrowed P dom 0 dom
  narrowed_start e = record { long = e; done = λ y k h. absurd (omega arith); rest = λ y h. refl }

  pub narrowed_same : (n : ℕ) (r r' : List ℕ) → r' ≡ r → Narrowed P dom n r → Narrowed P dom (n + 1) r'
  narrowed_same n r r' e s = subst (Narrowed P dom (n + 1)) (sym e) (record {
    long = s.long;
    done = λ y k h l t st. ⊎_elim (λ a. s.done y k a l t st) (λ q. ap (λ (z : ℕ). on z k) (s.rest y (omega arith)) ∙ t) (less_or_equal y n (omega arith));
    rest = λ y h. s.rest y (omega arith);
  })

  pub narrowed_more : (n d : ℕ) (r r' : List ℕ) → n < 32 → ((k : ℕ) → k < 64 → on (item r n) k ≡ true → P n k → on d k ≡ true) → r' ≡ set r n d → Narrowed P dom n r → Narrowed P dom (n + 1) r'
  narrowed_more n d r r' h f e s = subst (Narrowed P dom (n + 1)) (sym e) (record {
    long = length-set r n d ∙ s.long;
    done = λ y k a l t st. ⊎_elim
        (λ b. ap (λ (z : ℕ). on z k) (get_or-set_other r n y d 0 (λ q. let z : y ≡ n = q in omega arith)) ∙ s.done y k b l t st)
        (λ q. subst (λ (z : ℕ). on (item (set r n d) z) k ≡ true) (sym q) (ap (λ (z : ℕ). on z k) (get_or-set_same r n d 0 (let z = s.long in omega arith))
        ∙ f k l (ap (λ (z : ℕ). on z k) (s.rest n (omega arith)) ∙ subst (λ (z : ℕ). on (item dom z) k ≡ true) q t) (subst (λ (z : ℕ). P z k) q st)))
        (less_or_equal y n (omega arith));
    rest = λ y a. get_or-set_other r n y d 0 (λ q. let z : y ≡ n = q in omega arith) ∙ s.rest y (omega arith);
  })

-- the same as the code says it: q is y's class, and its part p is in tight
pub keep_more : (cl base : List ℕ) (o tight n p q need d : ℕ) (own meet owns wants dom r r' : List ℕ) → n < 32 → q ≡ label_at cl o n → p ≡ part_at cl o q → on tight p ≡ true → need ≡ label_at base o q
    → ((k : ℕ) → k < 64 → Keeps (item own q) (item meet q) (item owns q) (item wants q) need k → on d k ≡ true) → r' ≡ set r n (bit_and (item r n) d)
    → Narrowed (Stays cl base o tight own meet owns wants) dom n r → Narrowed (Stays cl base o tight own meet owns wants) dom (n + 1) r'
keep_more cl base o tight n p q need d own meet owns wants dom r r' h e i t a f g s = narrowed_more (Stays cl base o tight own meet owns wants) dom n (bit_and (item r n) d) r r' h (λ k l b st.
    on_both (item r n) d k b (f k l (subst (λ (z : ℕ). Keeps (item own q) (item meet q) (item owns q) (item wants q) z k) (sym a)
    (subst (λ (z : ℕ). Keeps (item own z) (item meet z) (item owns z) (item wants z) (label_at base o z) k) (sym e) (st (ap (on tight) (ap (part_at cl o) (sym e) ∙ sym i) ∙ t)))))) g s

-- ======== one output settled
module _ (cl base ms caps spots : List ℕ) (v j o : ℕ) (codes dom own owns : List ℕ) (labels : Labels cl) (few : v ≤ 32) (outs : j ≤ 8) (h : o < j) (s : Held cl codes o (item ms o) v own owns) where
  low : (x : ℕ) → x < v → label_at cl o x < 32
  low x l = labels.low (o * 32 + x) (omega arith)

  -- more is held or needed than there are places
  pub settled_none : (wants meet : List ℕ) (p : ℕ) → Wanted cl o (item ms o) v dom own owns wants meet → item spots o < needed cl wants base o p
      → (kn val : ℕ) → Hopeless cl base ms caps spots v j kn val codes dom
  settled_none wants meet p want l kn val = record { none = λ g f e d. let z = enough cl base ms caps spots v j o codes dom own owns wants meet g h low s want f e p in omega arith }

  -- no place is left
  pub settled_tight : (wants meet r : List ℕ) (spot tight : ℕ) → Wanted cl o (item ms o) v dom own owns wants meet → Tight cl wants base o spot tight → spot ≡ item spots o
      → Narrowed (Stays cl base o tight own meet owns wants) dom v r → Kept cl base ms caps spots v j codes dom r
  settled_tight wants meet r spot tight want t i n = record {
    keeps = λ g f e. record {
      coded = e.coded;
      within = λ x k. n.done x (g x) k (f.small x k) (e.within x k) (λ q.
          let full = t.full (part_of cl o x) (labels.low (256 + (o * 32 + label_at cl o x)) (let z = low x k in omega arith)) q ∙ i in record {
            held = λ p q. keeps_to cl base ms caps spots v j o codes dom own owns wants meet g h low s want f e x k full q p;
            near = λ p q. keeps_near cl base ms caps spots v j o codes dom own owns wants meet g h low s want f e x k full q p;
          });
    };
  }

pub kept-start : (cl base ms caps spots : List ℕ) (v j : ℕ) (codes dom : List ℕ) → Kept cl base ms caps spots v j codes dom dom
kept-start cl base ms caps spots v j codes dom = record { keeps = λ g f e. e }

pub kept_more : (cl base ms caps spots : List ℕ) (v j : ℕ) (codes dom r r' : List ℕ)
    → Kept cl base ms caps spots v j codes dom r → Kept cl base ms caps spots v j codes r r'
    → Kept cl base ms caps spots v j codes dom r'
kept_more cl base ms caps spots v j codes dom r r' a b = record { keeps = λ g f e. b.keeps g f (a.keeps g f e) }

pub hopeless_before : (cl base ms caps spots : List ℕ) (v j : ℕ) (codes dom r : List ℕ) → Kept cl base ms caps spots v j codes dom r
    → (kn val : ℕ) → Hopeless cl base ms caps spots v j kn val codes r → Hopeless cl base ms caps spots v j kn val codes dom
hopeless_before cl base ms caps spots v j codes dom r a kn val b = record { none = λ g f e d. b.none g f (a.keeps g f e) d }
