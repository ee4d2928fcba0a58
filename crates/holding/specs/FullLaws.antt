-- The rule of full blocks: where a block of an output has vertices of as many classes of a part as the private cells tell
-- apart, the vertices of the other classes of that part lose its codes. A solution with such a code would have one class more
-- in the block than it has room for, so none does. The classes in a block are counted vertex by vertex. Assumes nothing.
use Rattle.std.specs.Prelude.{◌≡◌, refl, Bool, true, false, List, [], ◌∷◌, ℕ, ◌+◌, ◌≤◌, ◌<◌, eqb, set}
use Rattle.std.proofs.Common.{sym, ap, ◌∙◌, subst, ⊎_elim, arith, eq-eqb, eqb-true}
use Rattle.std.specs.Int.Bits.{bit_and}
use Rattle.bits.specs.Logic.{orb}
use Rattle.bits.specs.Digit.{on}
use Rattle.bits.specs.LogicLaws.{never_both, false_unless, or_true, neither_first}
use Rattle.bits.specs.CountLaws.{less_or_equal}
use Rattle.holding.specs.NarrowLaws.{narrowed_more}
use Rattle.holding.specs.BlocksLaws.{minus_keeps}
use Rattle.cells.specs.ListLaws.{all_map}
use Rattle.cells.specs.Sets.{With}
use Rattle.problem.specs.Problem.{label_at, part_at, part_of, item, Block, Solves, Extends, Kept}
use Rattle.holding.specs.Blocks.{Minus}
use Rattle.holding.specs.Narrow.{Narrowed}
use Rattle.holding.specs.Full.{Crowd, Free, Others}

pub others-start : (cl : List ℕ) (o p : ℕ) → Others cl o p 0 0
others-start cl o p = record { rest = λ l h. absurd (omega arith) }

pub others_in : (cl : List ℕ) (o p n r r' q : ℕ) → q ≡ part_at cl o n → q ≡ p → r' ≡ r → Others cl o p n r → Others cl o p (n + 1) r'
others_in cl o p n r r' q a e b f = subst (Others cl o p (n + 1)) (sym b) (record
    { rest = λ l h k. ⊎_elim (λ i. f.rest l i k) (λ i. ap (part_at cl o) i ∙ sym a ∙ e) (less_or_equal l n (omega arith)) })

pub others_out : (cl : List ℕ) (o p n r r' s : ℕ) → With r n s → r' ≡ s → Others cl o p n r → Others cl o p (n + 1) r'
others_out cl o p n r r' s w b f = subst (Others cl o p (n + 1)) (sym b) (record {
  rest = λ l h k. ⊎_elim (λ i. f.rest l i (neither_first (on r l) (eqb l n) (sym (w l) ∙ k))) (λ i. absurd (never_both (w l ∙ ap (orb (on r l)) (eq-eqb l n i) ∙ or_true (on r l)) k))
      (less_or_equal l n (omega arith));
})

module _ (cl codes : List ℕ) (o p b : ℕ) where
  abbrev In : ℕ → ℕ → ℕ → Type 0
  In y seen w = (w < y) × (item codes w < 64) × (on b (item codes w) ≡ true) × (on seen (label_at cl o w) ≡ true) × (part_of cl o w ≡ p)

  pub crowd_start : (seen : ℕ) → ((l : ℕ) → l < 32 → on seen l ≡ false → part_at cl o l ≡ p) → Crowd cl codes o p b 0 seen 0
  crowd_start seen f = record { found = ([], tt, tt, refl); few = omega arith; strangers = f }

  pub crowd_same : (y seen n seen' n' : ℕ) → seen' ≡ seen → n' ≡ n → Crowd cl codes o p b y seen n → Crowd cl codes o p b (y + 1) seen' n'
  crowd_same y seen n seen' n' e f s = subst (λ (z : ℕ). Crowd cl codes o p b (y + 1) z n') (sym e) (subst (Crowd cl codes o p b (y + 1) seen) (sym f) (record {
    found = (let r = s.found in (r.0, all_map (In y seen) (In (y + 1) seen) r.0 (λ w q. ((let z = q.0 in omega arith), q.1, q.2, q.3, q.4)) r.1, r.2, r.3));
    few = (let z = s.few in omega arith);
    strangers = s.strangers;
  }))

  -- y has a code in b, and its class l was not met so far
  pub crowd_more : (y seen n l t seen' n' : ℕ) → l ≡ label_at cl o y → l < 32 → item codes y < 64 → on b (item codes y) ≡ true
      → on seen l ≡ false → With seen l t → seen' ≡ t → n' ≡ n + 1 → Crowd cl codes o p b y seen n → Crowd cl codes o p b (y + 1) seen' n'
  crowd_more y seen n l t seen' n' q small low in_b off is e f s = subst (λ (z : ℕ). Crowd cl codes o p b (y + 1) z n') (sym e) (subst (Crowd cl codes o p b (y + 1) t) (sym f) (record {
    found = (let r = s.found in (
      y ∷ r.0,
      (
        (
          (omega arith),
          low,
          in_b,
          subst (λ (z : ℕ). on t z ≡ true) q (is l ∙ ap (λ (x : Bool). orb (on seen l) x) (eq-eqb l l refl) ∙ or_true (on seen l)),
          ap (part_at cl o) (sym q) ∙ s.strangers
              l small off,
        ),
        all_map (In y seen) (In (y + 1) t) r.0 (λ w i. ((let z = i.0 in omega arith), i.1, i.2, is (label_at cl o w) ∙ ap (λ (x : Bool). orb x (eqb (label_at cl o w) l)) i.3, i.4)) r.1,
      ),
      (all_map (In y seen) (λ (w : ℕ). label_at cl o y ≡ label_at cl o w → ⊥) r.0 (λ w i d. never_both i.3 (ap (on seen) (sym (q ∙ d)) ∙ off)) r.1, r.2),
      (let z = r.3 in omega arith),
    ));
    few = (let z = s.few in omega arith);
    strangers = λ k h a. s.strangers k h (neither_first (on seen k) (eqb k l) (sym (is k) ∙ a));
  }))

  -- one vertex with a code in b is a crowd of one, of its own part
  pub crowd_one : (v x r l seen : ℕ) → x < v → l ≡ label_at cl o x → part_of cl o x ≡ p → item codes x < 64 → on b (item codes x) ≡ true → Others cl o p 32 r → With r l seen
      → Crowd cl codes o p b v seen 1
  crowd_one v x r l seen h q own low in_b f is = record {
    found = (x ∷ [], ((h, low, in_b, subst (λ (z : ℕ). on seen z ≡ true) q (is l ∙ ap (orb (on r l)) (eq-eqb l l refl) ∙ or_true (on r l)), own), tt), (tt, tt), refl);
    few = omega arith;
    strangers = λ k i a. f.rest k i (neither_first (on r k) (eqb k l) (sym (is k) ∙ a));
  }

-- the block b of c is full: a vertex of another class of part p keeps out
module _ (cl base ms caps spots : List ℕ) (v j o p : ℕ) (codes dom : List ℕ) (h : o < j) (low : (x : ℕ) → x < v → label_at cl o x < 32) (c b seen n : ℕ) (is : Block (item ms o) c b)
    (s : Crowd cl codes o p b v seen n) (full : item caps o ≤ n) where
  keeps_out : (g : ℕ → ℕ) → Solves cl base ms caps spots v j g → Extends codes dom v g → (y : ℕ) → y < v → on seen (label_at cl o y) ≡ false → on b (g y) ≡ true → ⊥
  keeps_out g f e y i off t =
      let r = s.found in
      let a = f.fits.crowd o p (bit_and c (item ms o)) (y ∷ r.0) h (
        (i, s.strangers (label_at cl o y) (low y i) off, block_of (g y) (f.small y i) t),
        all_map (In cl codes o p b v seen)
            (λ (w : ℕ). (w < v) × (part_of cl o w ≡ p) × (bit_and (g w) (item ms o) ≡ bit_and c (item ms o))) r.0
            (λ w q. (q.0, q.4, ap (λ (z : ℕ). bit_and z (item ms o)) (e.coded w q.0 q.1) ∙ block_of (item codes w) q.1 q.2)) r.1,
      )
      (all_map (In cl codes o p b v seen) (λ (w : ℕ). label_at cl o y ≡ label_at cl o w → ⊥) r.0 (λ w q d. never_both q.3 (ap (on seen) (sym d) ∙ off)) r.1, r.2) in
      let z = r.3 in omega arith
    where
      block_of : (k : ℕ) → k < 64 → on b k ≡ true → bit_and k (item ms o) ≡ bit_and c (item ms o)
      block_of k l t = eqb-true (bit_and k (item ms o)) (bit_and c (item ms o)) (sym (is k l) ∙ t)

  pub settled_full : (r : List ℕ) → Narrowed (Free cl o seen b) dom v r → Kept cl base ms caps spots v j codes dom r
  settled_full r w = record {
    keeps = λ g f e. record {
      coded = e.coded;
      within = λ x k. w.done x (g x) k (f.small x k) (e.within x k) (λ off. false_unless _ (λ t. keeps_out g f e x k off t));
    };
  }

-- the same as the code says it: q is y's class
pub shut_more : (cl : List ℕ) (o seen b n q d : ℕ) (dom r r' : List ℕ) (t : Bool) → n < 32 → q ≡ label_at cl o n
    → t ≡ on seen q → t ≡ false → Minus (item r n) b d → r' ≡ set r n d → Narrowed (Free cl o seen b) dom n r
    → Narrowed (Free cl o seen b) dom (n + 1) r'
shut_more cl o seen b n q d dom r r' t h e a f m g s = narrowed_more (Free cl o seen b) dom n d r r' h
    (λ k l p st. minus_keeps (item r n) b d k m l p (st (subst (λ (z : ℕ). on seen z ≡ false) e (sym a ∙ f)))) g s
