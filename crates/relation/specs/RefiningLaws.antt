-- Why the labels and parts say what given tables leave. Numbers are equal exactly where the keys are: the number of a key is that of the
-- first vertex with it. So two vertices have one part exactly when the given tables agree there, and one label exactly when part and
-- class are equal. Each output's numbers stand in places of their own, and outputs that read no given table have all in part 0.
-- Assumes nothing.
use Rattle.std.specs.Prelude.{◌≡◌, refl, List, ◌⊎◌, ℕ, ◌+◌, ◌*◌, ◌/◌, ◌%◌, ◌≤◌, ◌<◌, length, get_or, set}
use Rattle.std.proofs.Common.{sym, ap, ap₂, ◌∙◌, subst, inl, inr, ⊎_elim, arith, length-set, get_or-set_same, get_or-set_other}
use Rattle.std.proofs.Math.Decide.{ℕ_discrete, dec_lt}
use Rattle.std.specs.Int.Bits.{bit_and, and_zero_r}
use Rattle.limits.specs.Limits.{max_vertices}
use Rattle.bits.specs.CountLaws.{less_or_equal}
use Rattle.bits.specs.FilledLaws.{each_more, filled_more}
use Rattle.problem.specs.Problem.{label_at, part_at, part_of, item, Labels}
use Rattle.relation.specs.Relation.{Classes, Conflict, Leaves}
use Rattle.relation.specs.Refining.{Valued, Paired, First, Numbers, Numbering, Fine, Placed, Split, RefinedAt, Copied, Cutting}

-- ======== numbers
pub numbering_start : (keys r : List ℕ) → length r ≡ 32 → Numbering keys 0 0 r
numbering_start keys r e = record {
  numbers = record { long = e; low = λ y h. absurd (omega arith); same = λ y z h. absurd (omega arith); apart = λ y z h. absurd (omega arith) };
  below = λ y h. absurd (omega arith);
  few = omega arith;
}

module _ (keys : List ℕ) (x next : ℕ) (r : List ℕ) (b : x < 32) (s : Numbering keys x next r) where
  numbering_more : (k next' : ℕ) → k < next' → next ≤ next' → next' ≤ x + 1
      → ((y : ℕ) → y < x → item keys y ≡ item keys x → item r y ≡ k)
      → ((y : ℕ) → y < x → item r y ≡ k → item keys y ≡ item keys x)
      → Numbering keys (x + 1) next' (set r x k)
  numbering_more k next' l m few same apart = record {
    numbers = record {
      long = length-set r x k ∙ s.numbers.long;
      low = λ y h. let z = below y h in omega arith;
      same = λ y z h i e. same-pair y z (less_or_equal y x (omega arith)) (less_or_equal z x (omega arith)) e;
      apart = λ y z h i e. apart_pair y z (less_or_equal y x (omega arith)) (less_or_equal z x (omega arith)) e;
    };
    below = below;
    few = few;
  }
    where
      below : (y : ℕ) → y < x + 1 → item (set r x k) y < next'
      below = each_more (λ y n. n < next') x k r (let z = s.numbers.long in omega arith) l (λ y h. let z = s.below y h in omega arith)

      new : item (set r x k) x ≡ k
      new = get_or-set_same r x k 0 (let z = s.numbers.long in omega arith)

      old : (y : ℕ) → y < x → item (set r x k) y ≡ item r y
      old y h = get_or-set_other r x y k 0 (λ e. let z : y ≡ x = e in omega arith)

      at_x : (y : ℕ) → y ≡ x → item (set r x k) y ≡ k
      at_x y e = ap (item (set r x k)) e ∙ new

      same-pair : (y z : ℕ) → (y < x) ⊎ (y ≡ x) → (z < x) ⊎ (z ≡ x) → item keys y ≡ item keys z → item (set r x k) y ≡ item (set r x k) z
      same-pair y z (inl h) (inl i) e = old y h ∙ s.numbers.same y z h i e ∙ sym (old z i)
      same-pair y z (inl h) (inr i) e = old y h ∙ same y h (e ∙ ap (item keys) i) ∙ sym (at_x z i)
      same-pair y z (inr h) (inl i) e = at_x y h ∙ sym (old z i ∙ same z i (sym e ∙ ap (item keys) h))
      same-pair y z (inr h) (inr i) e = ap (item (set r x k)) (h ∙ sym i)

      apart_pair : (y z : ℕ) → (y < x) ⊎ (y ≡ x) → (z < x) ⊎ (z ≡ x) → item (set r x k) y ≡ item (set r x k) z → item keys y ≡ item keys z
      apart_pair y z (inl h) (inl i) e = s.numbers.apart y z h i (sym (old y h) ∙ e ∙ old z i)
      apart_pair y z (inl h) (inr i) e = apart y h (sym (old y h) ∙ e ∙ at_x z i) ∙ ap (item keys) (sym i)
      apart_pair y z (inr h) (inl i) e = ap (item keys) h ∙ sym (apart z i (sym (old z i) ∙ sym e ∙ at_x y h))
      apart_pair y z (inr h) (inr i) e = ap (item keys) (h ∙ sym i)

  -- x's key has a number already
  pub numbering_old : (y k next' : ℕ) → First keys x y → y < x → k ≡ item r y → next' ≡ next → Numbering keys (x + 1) next' (set r x k)
  numbering_old y k next' f h e q =
      let l = s.below y h in
      let m = s.few in
      numbering_more k next' (omega arith) (omega arith) (omega arith)
      (λ z i d. s.numbers.same z y i h (d ∙ sym f.same) ∙ sym e) (λ z i d. s.numbers.apart z y i h (d ∙ e) ∙ f.same)

  -- x's key is new
  pub numbering_new : (y k next' : ℕ) → First keys x y → x ≤ y → k ≡ next → next' ≡ next + 1 → Numbering keys (x + 1) next' (set r x k)
  numbering_new y k next' f h e q =
      let m = s.few in
      numbering_more k next' (omega arith) (omega arith) (omega arith)
      (λ z i d. absurd (f.none z (omega arith) d)) (λ z i d. absurd (let w = s.below z i in omega arith))

-- ======== one output's labels and parts
pub placed_start : (old labels parts : List ℕ) (i : ℕ) → Labels old → Placed old labels parts i 0 old
placed_start old labels parts i w = record { whole = w; label = λ y h. absurd (omega arith); part = λ y h. absurd (omega arith); others = λ q z a b c. (refl, refl) }

module _ (old labels parts : List ℕ) (i v x l p : ℕ) (r : List ℕ) (a : i < 8) (b : v ≤ 32) (h : x < v)
    (f : Fine labels parts v) (el : l ≡ item labels x) (ep : p ≡ item parts x) (s : Placed old labels parts i x r) where
  abbrev after : List ℕ
  after = set (set r (i * 32 + x) l) (256 + (i * 32 + l)) p

  label_small : l < 32
  label_small = let z = f.label_low x h in omega arith

  part_small : p < 32
  part_small = let z = f.part_low x h in omega arith

  mid_long : length (set r (i * 32 + x) l) ≡ 512
  mid_long = length-set r (i * 32 + x) l ∙ s.whole.long

  elsewhere : (k : ℕ) → (k ≡ i * 32 + x → ⊥) → (k ≡ 256 + (i * 32 + l) → ⊥) → get_or after k 0 ≡ get_or r k 0
  elsewhere k d e = get_or-set_other (set r (i * 32 + x) l) (256 + (i * 32 + l)) k p 0 e ∙ get_or-set_other r (i * 32 + x) k l 0 d

  at_label : get_or after (i * 32 + x) 0 ≡ l
  at_label = get_or-set_other (set r (i * 32 + x) l) (256 + (i * 32 + l)) (i * 32 + x) p 0 (λ e. let z : i * 32 + x ≡ 256 + (i * 32 + l) = e in omega arith)
      ∙ get_or-set_same r (i * 32 + x) l 0 (let z = s.whole.long in omega arith)

  at_part : get_or after (256 + (i * 32 + l)) 0 ≡ p
  at_part = get_or-set_same (set r (i * 32 + x) l) (256 + (i * 32 + l)) p 0 (let z = mid_long in let w = label_small in omega arith)

  low : (k : ℕ) → k < 512 → get_or after k 0 < 32
  low k c = go (ℕ_discrete k (i * 32 + x)) (ℕ_discrete k (256 + (i * 32 + l)))
    where
      go : Dec (k ≡ i * 32 + x) → Dec (k ≡ 256 + (i * 32 + l)) → get_or after k 0 < 32
      go (yes e) d = subst (λ (k : ℕ). get_or after k 0 < 32) (sym e) (subst (λ (n : ℕ). n < 32) (sym at_label) label_small)
      go (no d) (yes e) = subst (λ (k : ℕ). get_or after k 0 < 32) (sym e) (subst (λ (n : ℕ). n < 32) (sym at_part) part_small)
      go (no d) (no e) = subst (λ (n : ℕ). n < 32) (sym (elsewhere k d e)) (s.whole.low k c)

  part_of_lem : (y : ℕ) → y < x + 1 → part_at after i (item labels y) ≡ item parts y
  part_of_lem y c = go (ℕ_discrete (item labels y) l) (less_or_equal y x (omega arith))
    where
      go : Dec (item labels y ≡ l) → (y < x) ⊎ (y ≡ x) → part_at after i (item labels y) ≡ item parts y
      go (yes e) d = ap (part_at after i) e ∙ at_part ∙ ep ∙ f.one_part x y h (omega arith) (sym el ∙ sym e)
      go (no e) (inr d) = absurd (e (ap (item labels) d ∙ sym el))
      go (no e) (inl d) = elsewhere (256 + (i * 32 + item labels y)) (λ w. let z : 256 + (i * 32 + item labels y) ≡ i * 32 + x = w in omega arith)
          (λ w. e (let z : 256 + (i * 32 + item labels y) ≡ 256 + (i * 32 + l) = w in omega arith)) ∙ s.part y d

  pub placed_more : Placed old labels parts i (x + 1) after
  placed_more = record {
    whole = record { long = length-set (set r (i * 32 + x) l) (256 + (i * 32 + l)) p ∙ mid_long; low = low };
    label = λ y c. ⊎_elim
        (λ d. elsewhere (i * 32 + y) (λ w. let z : i * 32 + y ≡ i * 32 + x = w in omega arith) (λ w. let z : i * 32 + y ≡ 256 + (i * 32 + l) = w in omega arith) ∙ s.label y d)
        (λ d. ap (label_at after i) d ∙ at_label ∙ el ∙ ap (item labels) (sym d))
        (less_or_equal y x (omega arith));
    part = part_of_lem;
    others = λ q z c d e.
        let m = label_small in
        let k = s.others q z c d e in (
          elsewhere (q * 32 + z) (λ w. d (let u : q * 32 + z ≡ i * 32 + x = w in omega arith)) (λ w. let u : q * 32 + z ≡ 256 + (i * 32 + l) = w in omega arith) ∙ k.0,
          elsewhere (256 + (q * 32 + z)) (λ w. let u : 256 + (q * 32 + z) ≡ i * 32 + x = w in omega arith)
              (λ w. d (let u : 256 + (q * 32 + z) ≡ 256 + (i * 32 + l) = w in omega arith)) ∙ k.1,
        );
  }

-- labels and parts that are equal at the first v vertices say the same
split_same : (cl given : List ℕ) (o g v : ℕ) (lab part lab' part' : ℕ → ℕ) → ((x : ℕ) → x < v → lab' x ≡ lab x) → ((x : ℕ) → x < v → part' x ≡ part x)
    → Split cl given o g v lab part → Split cl given o g v lab' part'
split_same cl given o g v lab part lab' part' l p s = record {
  one_value = λ x y a b e. s.one_value x y a b (sym (p x a) ∙ e ∙ p y b);
  one_part = λ x y a b e. p x a ∙ s.one_part x y a b e ∙ sym (p y b);
  one_class = λ x y a b e. s.one_class x y a b (sym (l x a) ∙ e ∙ l y b);
  one_label = λ x y a b e d. l x a ∙ s.one_label x y a b (sym (p x a) ∙ e ∙ p y b) d ∙ sym (l y b);
}

module _ (cl given : List ℕ) (o g v : ℕ) (values parts pairs labels : List ℕ) (a : o < 8) (b : v ≤ 32) (c : Classes cl)
    (vs : Valued given g v values) (ps : Numbers values v parts) (qs : Paired cl o parts v pairs) (ls : Numbers pairs v labels) where
  class_low : (x : ℕ) → x < v → label_at cl o x < 32
  class_low x h = c.low (o * 32 + x) (omega arith)

  both : (x y : ℕ) → x < v → y < v → item labels x ≡ item labels y → (item parts x ≡ item parts y) × (label_at cl o x ≡ label_at cl o y)
  both x y h k e =
      let d = ls.apart x y h k e in
      let l = class_low x h in
      let m = class_low y k in
      let s = qs.done x h in
      let t = qs.done y k in
      (omega arith, omega arith)

  pub fine : Fine labels parts v
  fine = record { label_low = ls.low; part_low = ps.low; one_part = λ x y h k e. (both x y h k e).0 }

  numbered_split : Split cl given o g v (item labels) (item parts)
  numbered_split = record {
    one_value = λ x y h k e. sym (vs.done x h) ∙ ps.apart x y h k e ∙ vs.done y k;
    one_part = λ x y h k e. ps.same x y h k (vs.done x h ∙ e ∙ sym (vs.done y k));
    one_class = λ x y h k e. (both x y h k e).1;
    one_label = λ x y h k e d. ls.same x y h k (qs.done x h ∙ ap₂ (λ (p l : ℕ). p * max_vertices + l) e d ∙ sym (qs.done y k));
  }

  pub placed_refined : (i : ℕ) (old r : List ℕ) → Placed old labels parts i v r → RefinedAt cl given o g v i old r
  placed_refined i old r s = record {
    whole = s.whole;
    split = split_same cl given o g v (item labels) (item parts) (label_at r i) (part_of r i) s.label (λ x h. ap (part_at r i) (s.label x h) ∙ s.part x h) numbered_split;
    others = s.others;
  }

-- ======== output after output
pub copied_more : (cl from : List ℕ) (k n : ℕ) (r : List ℕ) → k < 512 → n ≡ label_at cl (item from (k / 32)) (k % 32) → Copied cl from k r → Copied cl from (k + 1) (set r k n)
copied_more cl from k n r b e s = record {
  filled = filled_more n b e s.filled;
  rest = λ l h. get_or-set_other r k l n 0 (λ q. let z : l ≡ k = q in omega arith) ∙ s.rest l (omega arith);
}

module _ (cl given from gs : List ℕ) (n v : ℕ) (a : n ≤ 8) (b : v ≤ 32) where
  pub cutting_start : (r : List ℕ) → Classes cl → ((i : ℕ) → i < 8 → item from i < 8) → Copied cl from (n * 32) r → Cutting cl given from gs n v 0 r
  cutting_start r c f s = record {
    whole = record { long = s.filled.long; low = λ k h. low k (dec_lt k (n * 32)) };
    done = λ q h. absurd (omega arith);
    rest = λ q z h k l. (
      s.filled.done (q * 32 + z) (omega arith) ∙ ap₂ (λ (o x : ℕ). label_at cl (item from o) x)
          (let e : (q * 32 + z) / 32 ≡ q = omega arith in e) (let e : (q * 32 + z) % 32 ≡ z = omega arith in e),
      s.rest (256 + (q * 32 + z)) (omega arith),
    );
  }
    where
      low : (k : ℕ) → Dec (k < n * 32) → get_or r k 0 < 32
      low k (yes h) = subst (λ (m : ℕ). m < 32) (sym (s.filled.done k h))
          (let o = f (k / 32) (omega arith) in c.low (item from (k / 32) * 32 + k % 32) (omega arith))
      low k (no h) = let e = s.rest k (omega arith) in omega arith

  -- no given table: the classes in one part
  pub cutting_none : (i : ℕ) (r : List ℕ) → i < n → item gs i ≡ 0 → Cutting cl given from gs n v i r → Cutting cl given from gs n v (i + 1) r
  cutting_none i r h e s = record {
    whole = s.whole;
    done = λ q k. ⊎_elim (s.done q) (λ d. subst (λ (q : ℕ). Split cl given (item from q) (item gs q) v (label_at r q) (part_of r q)) (sym d) split) (less_or_equal q i (omega arith));
    rest = λ q z k. s.rest q z (omega arith);
  }
    where
      class : (x : ℕ) → x < v → label_at r i x ≡ label_at cl (item from i) x
      class x k = (s.rest i x (omega arith) h (omega arith)).0

      part : (x : ℕ) → x < v → part_of r i x ≡ 0
      part x k = (s.rest i (label_at r i x) (omega arith) h (s.whole.low (i * 32 + x) (omega arith))).1

      value : (x : ℕ) → bit_and (item given x) (item gs i) ≡ 0
      value x = ap (bit_and (item given x)) e ∙ and_zero_r (item given x)

      split : Split cl given (item from i) (item gs i) v (label_at r i) (part_of r i)
      split = record {
        one_value = λ x y k l d. value x ∙ sym (value y);
        one_part = λ x y k l d. part x k ∙ sym (part y l);
        one_class = λ x y k l d. sym (class x k) ∙ d ∙ class y l;
        one_label = λ x y k l d c. class x k ∙ c ∙ sym (class y l);
      }

  pub cutting_more : (i : ℕ) (r r' : List ℕ) → i < n → RefinedAt cl given (item from i) (item gs i) v i r r' → Cutting cl given from gs n v i r → Cutting cl given from gs n v (i + 1) r'
  cutting_more i r r' h f s = record {
    whole = f.whole;
    done = λ q k. ⊎_elim (before q) (λ d. subst (λ (q : ℕ). Split cl given (item from q) (item gs q) v (label_at r' q) (part_of r' q)) (sym d) f.split) (less_or_equal q i (omega arith));
    rest = λ q z k l m. let w = f.others q z (omega arith) (λ d. let u : q ≡ i = d in omega arith) m in let t = s.rest q z (omega arith) l m in (w.0 ∙ t.0, w.1 ∙ t.1);
  }
    where
      before : (q : ℕ) → q < i → Split cl given (item from q) (item gs q) v (label_at r' q) (part_of r' q)
      before q k = split_same cl given (item from q) (item gs q) v (label_at r q) (part_of r q) (label_at r' q) (part_of r' q)
          (λ x l. label x l)
          (λ x l. ap (part_at r' q) (label x l) ∙ (f.others q (label_at r q x) (omega arith) other (s.whole.low (q * 32 + x) (omega arith))).1)
          (s.done q k)
        where
          other : q ≡ i → ⊥
          other d = let u : q ≡ i = d in omega arith

          label : (x : ℕ) → x < v → label_at r' q x ≡ label_at r q x
          label x l = (f.others q x (omega arith) other (omega arith)).0

  pub cutting_leaves : (i : ℕ) (r : List ℕ) → n ≤ i → Cutting cl given from gs n v i r → Leaves cl given from gs n v r
  unfolding Conflict
  cutting_leaves i r h s = record {
    labels = s.whole;
    left = λ q x y a b c w. let t = s.done q (omega arith) in record {
      conflict = λ e. w.1 (t.one_label x y b c w.0 e);
      agree = t.one_value x y b c w.0;
    };
    within = λ q x y a b c l. let t = s.done q (omega arith) in (t.one_part x y b c l.agree, λ e. l.conflict (t.one_class x y b c e));
  }
