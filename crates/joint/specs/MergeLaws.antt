-- Why one vertex for each joint class is enough. Vertices with equal labels for every output in question need no different
-- codes: codes for one vertex of each joint class, given to the whole class, tell apart what they told apart, and codes for all
-- vertices give codes for these. So the search runs on one vertex of each class. That two vertices are found alike may fail;
-- then they are only not merged. Assumes nothing.
use Rattle.std.specs.Prelude.{◌≡◌, refl, Bool, true, false, List, ℕ, zero, suc, ◌+◌, ◌*◌, ◌/◌, ◌%◌, ◌≤◌, ◌<◌, length, get_or, set, replicate}
use Rattle.std.proofs.Common.{sym, ap, ◌∙◌, subst, ⊎_elim, arith, length-set, get_or-set_same, get_or-set_other}
use Rattle.std.proofs.Math.Decide.{ℕ_discrete, dec_lt}
use Rattle.std.specs.Int.Bits.{bit_and}
use Rattle.std.specs.List.{AllWithin, range_with_len}
use Rattle.std.proofs.lemmas.List.FromFn.{get_or-range_with_len, length-range_with_len}
use Rattle.limits.specs.declared.Vertex.{Vertex}
use Rattle.joint.specs.declared.JointClass.{JointClass}
use Rattle.problem.specs.Problem.{label_at, part_at, part_of, item, Labels}
use Rattle.bits.specs.Digit.{on}
use Rattle.bits.specs.LogicLaws.{true_false}
use Rattle.bits.specs.CountLaws.{less_or_equal}
use Rattle.bits.specs.FilledLaws.{each_more}
use Rattle.joint.specs.DigitsLaws.{known_same, digit_same}
use Rattle.readers.specs.Masks.{Decided}
use Rattle.joint.specs.Digits.{vertex_at, Drawn}
use Rattle.joint.specs.Merge.{joint_at, SameLabels, Mergeable, Merged, Copied, Picked, Spread}

pub alike_more : (cl : List ℕ) (n x y : ℕ) → label_at cl n x ≡ label_at cl n y → SameLabels cl n x y → SameLabels cl (n + 1) x y
alike_more cl n x y e a o h = ⊎_elim (a o) (λ q. subst (λ (o : ℕ). label_at cl o x ≡ label_at cl o y) (sym q) e) (less_or_equal o n (omega arith))

-- labels that are the same for each number below n
pub labels_alike : (cl : List ℕ) (n x y : ℕ)
    → AllWithin (λ o. label_at cl o x ≡ label_at cl o y) (range_with_len 0 n) 0 (length (range_with_len 0 n)) → SameLabels cl n x y
labels_alike cl n x y all o h = subst (λ (o : ℕ). label_at cl o x ≡ label_at cl o y) (get_or-range_with_len 0 n o 0 h ∙ (let z : 0 + o ≡ o = omega arith in z))
    (all o 0 (omega arith) (let z = length-range_with_len 0 n in omega arith))

pub vertices_zero : (n i : ℕ) → vertex_at (replicate n (record { 0 = 0 })) i ≡ 0
vertices_zero zero i = refl
vertices_zero (suc n) zero = refl
vertices_zero (suc n) (suc i) = vertices_zero n i

pub merged_start : (cl : List ℕ) (j kn val : ℕ) (first : List Vertex) (place : List JointClass)
    → length first ≡ 32 → length place ≡ 32 → ((i : ℕ) → vertex_at first i ≡ 0) → Merged cl j kn val 0 0 first place
merged_start cl j kn val first place a b z = record {
  first_long = a;
  place_long = b;
  few = omega arith;
  low = λ i h. absurd (omega arith);
  small = λ i h. let e = z i in omega arith;
  start = z 0;
  within = λ y h. absurd (omega arith);
  same = λ y h. absurd (omega arith);
}

-- x gets class q
module _ (cl : List ℕ) (j kn val x n : ℕ) (first : List Vertex) (place : List JointClass) (q : JointClass) (h : x < 32) (s : Merged cl j kn val x n first place) where
  new : joint_at (set place x q) x ≡ q.0
  new = ap (λ (z : JointClass). z.0) (get_or-set_same place x q (record { 0 = 0 }) (let z = s.place_long in omega arith))

  old : (y : ℕ) → y < x → joint_at (set place x q) y ≡ joint_at place y
  old y k = ap (λ (z : JointClass). z.0) (get_or-set_other place x y q (record { 0 = 0 }) (λ e. let z : y ≡ x = e in omega arith))

  -- q has vertices already
  merged_old : q.0 < n → Mergeable cl j kn val x (vertex_at first q.0) → Merged cl j kn val (x + 1) n first (set place x q)
  merged_old l a = record {
    first_long = s.first_long;
    place_long = length-set place x q ∙ s.place_long;
    few = (let z = s.few in omega arith);
    low = λ i b. let z = s.low i b in omega arith;
    small = s.small;
    start = s.start;
    within = λ y b. ⊎_elim
        (λ k. subst (λ (z : ℕ). z < n) (sym (old y k)) (s.within y k))
        (λ e. subst (λ (y : ℕ). joint_at (set place x q) y < n) (sym e) (subst (λ (z : ℕ). z < n) (sym new) l))
        (less_or_equal y x (omega arith));
    same = λ y b. ⊎_elim
        (λ k. subst (λ (z : ℕ). Mergeable cl j kn val y (vertex_at first z)) (sym (old y k)) (s.same y k))
        (λ e. subst (λ (y : ℕ). Mergeable cl j kn val y (vertex_at first (joint_at (set place x q) y))) (sym e)
        (subst (λ (z : ℕ). Mergeable cl j kn val x (vertex_at first z)) (sym new) a))
        (less_or_equal y x (omega arith));
  }

  -- x is the first of a new class
  merged_new : q.0 ≡ n → Merged cl j kn val (x + 1) (n + 1) (set first n (record { 0 = x })) (set place x q)
  merged_new f = record {
    first_long = length-set first n (record { 0 = x }) ∙ s.first_long;
    place_long = length-set place x q ∙ s.place_long;
    few = (let z = s.few in omega arith);
    low = λ i b. ⊎_elim
        (λ k. let z = s.low i k in let w = kept i k in omega arith)
        (λ e. subst (λ (i : ℕ). vertex_at first' i < x + 1) (sym e) (let w = here in omega arith))
        (less_or_equal i n (omega arith));
    small = λ i b. small i b (ℕ_discrete i n);
    start = start_of_lem (ℕ_discrete 0 n);
    within = λ y b. ⊎_elim
        (λ k. let z = s.within y k in let w = old y k in omega arith)
        (λ e. subst (λ (y : ℕ). joint_at (set place x q) y < n + 1) (sym e) (let w = new in omega arith))
        (less_or_equal y x (omega arith));
    same = λ y b. ⊎_elim
        (λ k. subst (λ (z : ℕ). Mergeable cl j kn val y (vertex_at first' z)) (sym (old y k))
        (subst (λ (z : ℕ). Mergeable cl j kn val y z) (sym (kept (joint_at place y) (s.within y k))) (s.same y k)))
        (λ e. subst (λ (y : ℕ). Mergeable cl j kn val y (vertex_at first' (joint_at (set place x q) y))) (sym e)
        (subst (λ (z : ℕ). Mergeable cl j kn val x (vertex_at first' z)) (sym (new ∙ f)) (subst (λ (z : ℕ). Mergeable cl j kn val x z) (sym here) ((λ o l. refl), refl))))
        (less_or_equal y x (omega arith));
  }
    where
      first' : List Vertex
      first' = set first n (record { 0 = x })

      here : vertex_at first' n ≡ x
      here = ap (λ (z : Vertex). z.0) (get_or-set_same first n (record { 0 = x }) (record { 0 = 0 }) (let z = s.first_long in let w = s.few in omega arith))

      other : (i : ℕ) → (i ≡ n → ⊥) → vertex_at first' i ≡ vertex_at first i
      other i e = ap (λ (z : Vertex). z.0) (get_or-set_other first n i (record { 0 = x }) (record { 0 = 0 }) e)

      kept : (i : ℕ) → i < n → vertex_at first' i ≡ vertex_at first i
      kept i k = other i (λ e. let z : i ≡ n = e in omega arith)

      small : (i : ℕ) → i < 32 → Dec (i ≡ n) → vertex_at first' i < 32
      small i b (yes e) = subst (λ (i : ℕ). vertex_at first' i < 32) (sym e) (let w = here in omega arith)
      small i b (no e) = let w = other i e in let z = s.small i b in omega arith

      -- the first class is that of vertex 0
      start_of_lem : Dec (0 ≡ n) → vertex_at first' 0 ≡ 0
      start_of_lem (yes e) = subst (λ (i : ℕ). vertex_at first' i ≡ 0) (sym e) (here ∙ zero-x s.within e)
        where
          zero-x : ((y : ℕ) → y < x → joint_at place y < n) → 0 ≡ n → x ≡ 0
          zero-x w e = elim (dec_lt 0 x) as (λ _. x ≡ 0) [ yes l ↦ absurd (let z = w 0 l in omega arith) | no l ↦ omega arith ]
      start_of_lem (no e) = other 0 e ∙ s.start

-- the same as the code says it
module _ (cl : List ℕ) (j kn val x n : ℕ) (first first' : List Vertex) (place : List JointClass) (n' : ℕ) (q : JointClass) (h : x < 32) (s : Merged cl j kn val x n first place) where
  pub at_new : q.0 ≡ n → first' ≡ set first n (record { 0 = x }) → n' ≡ n + 1 → Merged cl j kn val (x + 1) n' first' (set place x q)
  at_new e a c =
      subst (λ (z : ℕ). Merged cl j kn val (x + 1) z first' (set place x q)) (sym c)
      (subst (λ (z : List Vertex). Merged cl j kn val (x + 1) (n + 1) z (set place x q)) (sym a) (merged_new cl j kn val x n first place q h s e))

  pub at_old : (q.0 < n) × Mergeable cl j kn val x (vertex_at first q.0) → first' ≡ first → n' ≡ n
      → Merged cl j kn val (x + 1) n' first' (set place x q)
  at_old r a c =
      subst (λ (z : ℕ). Merged cl j kn val (x + 1) z first' (set place x q)) (sym c)
      (subst (λ (z : List Vertex). Merged cl j kn val (x + 1) n z (set place x q)) (sym a) (merged_old cl j kn val x n first place q h s r.0 r.1))

pub picked_start : (cl : List ℕ) (first : List Vertex) (r : List ℕ) → Copied cl 512 r → Picked cl first 0 r
picked_start cl first r s = record { long = s.long; done = λ i h. absurd (omega arith); rest = λ i h k. s.done i k }

pub picked_more : (cl : List ℕ) (first : List Vertex) (i x : ℕ) (r : List ℕ) → i < 256 → x ≡ label_at cl (i / 32) (vertex_at first (i % 32)) → Picked cl first i r → Picked cl first (i + 1) (set r i x)
picked_more cl first i x r h e s = record {
  long = length-set r i x ∙ s.long;
  done = each_more (λ k y. y ≡ label_at cl (k / 32) (vertex_at first (k % 32))) i x r (let z = s.long in omega arith) e s.done;
  rest = λ k b c. get_or-set_other r i k x 0 (λ q. let z : k ≡ i = q in omega arith) ∙ s.rest k (omega arith) c;
}

-- the labels of the classes are labels
module _ (cl : List ℕ) (first : List Vertex) (r : List ℕ) (j : ℕ) (outs : j ≤ 8) (labels : Labels cl) (small : (i : ℕ) → i < 32 → vertex_at first i < 32) (p : Picked cl first (j * 32) r) where
  pub picked_labels : Labels r
  picked_labels = record { long = p.long; low = λ k h. low k h (dec_lt k (j * 32)) }
    where
      low : (k : ℕ) → k < 512 → Dec (k < j * 32) → get_or r k 0 < 32
      low k h (yes l) = subst (λ (z : ℕ). z < 32) (sym (p.done k l)) (labels.low (k / 32 * 32 + vertex_at first (k % 32)) (let z = small (k % 32) (omega arith) in omega arith))
      low k h (no l) = subst (λ (z : ℕ). z < 32) (sym (p.rest k (omega arith) h)) (labels.low k h)

  picked_at : (o i : ℕ) → o < j → i < 32 → label_at r o i ≡ label_at cl o (vertex_at first i)
  picked_at o i h k = p.done (o * 32 + i) (omega arith) ∙ ap (λ (z : ℕ). label_at cl z (vertex_at first ((o * 32 + i) % 32))) (let e : (o * 32 + i) / 32 ≡ o = omega arith in e) ∙ ap
      (λ (z : ℕ). label_at cl o (vertex_at first z)) (let e : (o * 32 + i) % 32 ≡ i = omega arith in e)

-- the answer for the classes is the answer for the vertices
module _ (cl : List ℕ) (v j n : ℕ) (rows : List ℕ) (first : List Vertex) (place : List JointClass) (r : List ℕ) (labels : Labels cl) (few : v ≤ 32) (outs : j ≤ 8)
    (kn val kn' val' : ℕ) (m : Merged cl j kn val v n first place) (p : Picked cl first (j * 32) r) (dk : Drawn kn first n kn') (dv : Drawn val first n val') where
  -- the label of class i
  class_label : (o i : ℕ) → o < j → i < n → label_at r o i ≡ label_at cl o (vertex_at first i)
  class_label o i h k = picked_at cl first r j outs labels m.small p o i h (let z = m.few in omega arith)

  vertex_label : (o x : ℕ) → o < j → x < v → label_at cl o x ≡ label_at r o (joint_at place x)
  vertex_label o x h a = (m.same x a).0 o h ∙ sym (class_label o (joint_at place x) h (m.within x a))

  -- a class is in the part of its first vertex
  class_part : (o i : ℕ) → o < j → i < n → part_of r o i ≡ part_of cl o (vertex_at first i)
  class_part o i h k = p.rest (256 + (o * 32 + label_at r o i)) (omega arith)
      (let z = (picked_labels cl first r j outs labels m.small p).low (o * 32 + i) (let w = m.few in omega arith) in omega arith) ∙ ap (part_at cl o) (class_label o i h k)

  vertex_part_lem : (o x : ℕ) → o < j → x < v → part_of cl o x ≡ part_of r o (joint_at place x)
  vertex_part_lem o x h a = ap (part_at cl o) ((m.same x a).0 o h) ∙ sym (class_part o (joint_at place x) h (m.within x a))

  -- codes for the classes, spread
  decided_spread : (codes codes' : List ℕ) → Spread place codes v codes' → Decided r n j rows kn' val' true codes → Decided cl v j rows kn val true codes'
  decided_spread codes codes' s d = (
    record {
      tells = λ o x y h a b c e. d.0.tells o (joint_at place x) (joint_at place y) h (m.within x a) (m.within y b)
          (sym (vertex_part_lem o x h a) ∙ c.0 ∙ vertex_part_lem o y h b, λ q. c.1 (vertex_label o x h a ∙ q ∙ sym (vertex_label o y h b)))
          (sym (ap (λ (z : ℕ). bit_and z (item rows o)) (s.done x a)) ∙ e ∙ ap (λ (z : ℕ). bit_and z (item rows o)) (s.done y b));
    },
    fixed,
  )
    where
      fixed : (x : ℕ) → x < v → on kn x ≡ true → on (item codes' x) 0 ≡ on val x
      fixed x a t =
          let i = joint_at place x in
          let l = m.within x a in
          let e = (m.same x a).1 in
          let k = dk.below i l ∙ sym (known_same kn val x (vertex_at first i) e) ∙ t in
          ap (λ (z : ℕ). on z 0) (s.done x a) ∙ d.1 i l k ∙ dv.below i l ∙ sym (digit_same kn val x (vertex_at first i) e t)

  -- no codes
  pub decided_none : (ok : Bool) (codes : List ℕ) → ok ≡ false → Decided r n j rows kn' val' ok codes → Decided cl v j rows kn val ok codes
  decided_none true codes e d = absurd (true_false e)
  decided_none false codes e d = λ f c b z. d (λ (i : ℕ). f (vertex_at first i))
      (record {
        tells = λ o x y h a b k e. c.tells o (vertex_at first x) (vertex_at first y) h (m.low x a) (m.low y b)
            (sym (class_part o x h a) ∙ k.0 ∙ class_part o y h b, λ q. k.1 (class_label o x h a ∙ q ∙ sym (class_label o y h b))) e;
      })
      (λ i l t. b (vertex_at first i) (m.low i l) (sym (dk.below i l) ∙ t) ∙ sym (dv.below i l))
      (ap f m.start ∙ z)

  -- both together
  pub decided_merged : (codes codes' : List ℕ) → Spread place codes v codes' → (ok : Bool) → Decided r n j rows kn' val' ok codes
      → Decided cl v j rows kn val ok codes'
  decided_merged codes codes' s true d = decided_spread codes codes' s d
  decided_merged codes codes' s false d = decided_none false codes refl d
