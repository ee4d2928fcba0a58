-- Laws of what given tables leave: a conflict has no order, codes tell apart what is left exactly when they tell the labels and parts
-- apart, and one output has to tell apart no more than another where that is so at each vertex for the vertices before it. Assumes
-- nothing.
use Rattle.std.specs.Prelude.{◌≡◌, refl, List, [], ◌∷◌, ◌⊎◌, ℕ, zero, suc, ◌+◌, ◌≤◌, ◌<◌}
use Rattle.std.proofs.Common.{sym, ◌∙◌, subst, inl, inr, arith}
use Rattle.bits.specs.CountLaws.{less_or_equal}
use Rattle.cells.specs.Core.{Within}
use Rattle.cells.specs.Codes.{Coded}
use Rattle.problem.specs.Problem.{label_at, part_at, item}
use Rattle.relation.specs.Relation.{Conflict, Left, Leaves, NoneLeft, Inside}

conflict_sym : (cl : List ℕ) (o x y : ℕ) → Conflict cl o x y → Conflict cl o y x
unfolding Conflict
conflict_sym cl o x y c e = c (sym e)

conflict_self : (cl : List ℕ) (o x : ℕ) → Conflict cl o x x → ⊥
unfolding Conflict
conflict_self cl o x c = c refl

pub different_conflict : (cl : List ℕ) (o x y : ℕ) → (label_at cl o x ≡ label_at cl o y → ⊥) → Conflict cl o x y
unfolding Conflict
different_conflict cl o x y d = d

pub equal_no_conflict : (cl : List ℕ) (o x y : ℕ) → label_at cl o x ≡ label_at cl o y → Conflict cl o x y → ⊥
unfolding Conflict
equal_no_conflict cl o x y e c = c e

-- labels that are those of another output are in conflict where that output's are
pub same_labels_conflict : (cl cl' : List ℕ) (o q x y : ℕ) → label_at cl o x ≡ label_at cl' q x → label_at cl o y ≡ label_at cl' q y → Conflict cl o x y → Conflict cl' q x y
unfolding Conflict
same_labels_conflict cl cl' o q x y a b c e = c (a ∙ e ∙ sym b)

module _ (cl given from gs : List ℕ) (n v : ℕ) (r : List ℕ) (s : Leaves cl given from gs n v r) (j : ℕ) (h : j ≤ n) (rows codes : ℕ → ℕ) where
  pub coded_left : Coded v j (Within (part_at r) (label_at r)) rows codes → Coded v j (λ i x y. Left cl given (item gs i) (item from i) x y) rows codes
  coded_left c = record { tells = λ i x y l a b k. c.tells i x y l a b (s.within i x y (omega arith) a b k) }

  pub left_coded : Coded v j (λ i x y. Left cl given (item gs i) (item from i) x y) rows codes → Coded v j (Within (part_at r) (label_at r)) rows codes
  left_coded c = record { tells = λ i x y l a b k. c.tells i x y l a b (s.left i x y (omega arith) a b k) }

-- ======== no conflict left
left_sym : (cl given : List ℕ) (g o x y : ℕ) → Left cl given g o x y → Left cl given g o y x
left_sym cl given g o x y l = record { conflict = conflict_sym cl o x y l.conflict; agree = sym l.agree }

left_self : (cl given : List ℕ) (g o x : ℕ) → Left cl given g o x x → ⊥
left_self cl given g o x l = conflict_self cl o x l.conflict

pub equal_not_left : (cl given : List ℕ) (g o x y : ℕ) → label_at cl o x ≡ label_at cl o y → Left cl given g o x y → ⊥
equal_not_left cl given g o x y e l = equal_no_conflict cl o x y e l.conflict

pub none_left_start : (cl given : List ℕ) (g o : ℕ) → NoneLeft cl given g o 0
none_left_start cl given g o = record { none = λ x y h. absurd (omega arith) }

pub none_left_more : (cl given : List ℕ) (g o x : ℕ) → ((y : ℕ) → y < x → Left cl given g o x y → ⊥) → NoneLeft cl given g o x → NoneLeft cl given g o (x + 1)
none_left_more cl given g o x new s = record { none = λ a b h k. at a b (less_or_equal a x (omega arith)) (less_or_equal b x (omega arith)) }
  where
    L : ℕ → ℕ → Type 0
    L a b = Left cl given g o a b

    at : (a b : ℕ) → (a < x) ⊎ (a ≡ x) → (b < x) ⊎ (b ≡ x) → L a b → ⊥
    at a b (inl h) (inl k) l = s.none a b h k l
    at a b (inr h) (inl k) l = new b k (subst (λ (a : ℕ). L a b) h l)
    at a b (inl h) (inr k) l = new a h (left_sym cl given g o a x (subst (L a) k l))
    at a b (inr h) (inr k) l = left_self cl given g o x (subst (L x) k (subst (λ (a : ℕ). L a b) h l))

pub none_left_all : (cl given : List ℕ) (g o v : ℕ) → ((x : ℕ) → x < v → (y : ℕ) → y < x → Left cl given g o x y → ⊥) → NoneLeft cl given g o v
none_left_all cl given g o zero new = none_left_start cl given g o
none_left_all cl given g o (suc n) new = subst (NoneLeft cl given g o) (let z : n + 1 ≡ suc n = omega arith in z)
    (none_left_more cl given g o n (new n (omega arith)) (none_left_all cl given g o n (λ x h. new x (omega arith))))

-- ======== no conflict that another output does not have
pub inside_start : (cl : List ℕ) (o q : ℕ) → Inside cl o q 0
inside_start cl o q = record { inside = λ x y h. absurd (omega arith) }

pub inside_more : (cl : List ℕ) (o q x : ℕ) → ((y : ℕ) → y < x → Conflict cl o x y → Conflict cl q x y) → Inside cl o q x → Inside cl o q (x + 1)
inside_more cl o q x new s = record { inside = λ a b h k. at a b (less_or_equal a x (omega arith)) (less_or_equal b x (omega arith)) }
  where
    T : ℕ → ℕ → Type 0
    T a b = Conflict cl o a b → Conflict cl q a b

    at : (a b : ℕ) → (a < x) ⊎ (a ≡ x) → (b < x) ⊎ (b ≡ x) → T a b
    at a b (inl h) (inl k) = s.inside a b h k
    at a b (inr h) (inl k) = subst (λ (a : ℕ). T a b) (sym h) (new b k)
    at a b (inl h) (inr k) = subst (T a) (sym k) (λ c. conflict_sym cl q x a (new a h (conflict_sym cl o a x c)))
    at a b (inr h) (inr k) = subst (T a) (sym k) (subst (λ (a : ℕ). T a x) (sym h) (λ c. absurd (conflict_self cl o x c)))

pub inside_all : (cl : List ℕ) (o q v : ℕ) → ((x : ℕ) → x < v → (y : ℕ) → y < x → Conflict cl o x y → Conflict cl q x y) → Inside cl o q v
inside_all cl o q zero new = inside_start cl o q
inside_all cl o q (suc n) new = subst (Inside cl o q) (let z : n + 1 ≡ suc n = omega arith in z)
    (inside_more cl o q n (new n (omega arith)) (inside_all cl o q n (λ x h. new x (omega arith))))

-- ======== a worked example
-- Classes 0 1 1 0 at four vertices, and given tables 0 0 1 1 and 0 1 0 1: the first leaves the pairs 0 1 and 2 3, but not 0 2.
abbrev example_classes : List ℕ
example_classes = 0 ∷ 1 ∷ 1 ∷ 0 ∷ []

abbrev example_given : List ℕ
example_given = 0 ∷ 2 ∷ 1 ∷ 3 ∷ []

first_leaves_0_1 : Left example_classes example_given 1 0 0 1
unfolding Conflict
first_leaves_0_1 = record { conflict = λ e. let z : ◌≡◌ {A = ℕ} 0 1 = e in omega arith; agree = refl }

first_leaves_2_3 : Left example_classes example_given 1 0 2 3
unfolding Conflict
first_leaves_2_3 = record { conflict = λ e. let z : ◌≡◌ {A = ℕ} 1 0 = e in omega arith; agree = refl }

first_tells_0_2 : Left example_classes example_given 1 0 0 2 → ⊥
first_tells_0_2 l = let z : ◌≡◌ {A = ℕ} 0 1 = l.agree in omega arith

both_leave_none : Left example_classes example_given 3 0 0 1 → ⊥
both_leave_none l = let z : ◌≡◌ {A = ℕ} 0 2 = l.agree in omega arith
