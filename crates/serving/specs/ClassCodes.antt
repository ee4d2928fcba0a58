-- Tables that tell the classes of a relation apart number at least the logarithm of the number of classes: the first
-- members of the classes have pairwise different codes, and n tables give at most 2 ^ n codes. Assumes nothing.
use Rattle.std.specs.Prelude.{◌≡◌, Bool, not, List, [], ◌∷◌, map, eqb}
use Rattle.std.proofs.Math.Path.{refl}
use Rattle.std.proofs.Common.{sym, ap₂, ◌∙◌, subst, pow-suc, eqb-true}
use Rattle.std.proofs.Math.Bool.{true, false}
use Prim.Native.Nat.{ℕ, zero, suc, ◌+◌, ◌*◌, ◌^◌, ◌≤◌, ◌<◌}
use native.Mathlib.Omega.{arith}
use Rattle.std.proofs.Math.ListN.{length}
use Rattle.std.proofs.lemmas.Bool.{not-true}
use Rattle.bits.specs.Logic.{pick}
use Rattle.cells.specs.PigeonLaws.{no_two}
use Rattle.cells.specs.ListLaws.{all_map, pairs_map, pairs_part, part-has, part_length}
use Rattle.cells.specs.Lists.{All, Pairs, keep, part}
use Rattle.classes.specs.Classes.{first_like, class_count}
use Rattle.classes.specs.ClassLaws.{first_like_lem}

-- ---- vertices with pairwise different codes
module _ {A : Type 0} (table : A → ℕ → Bool) where
  -- some table of the list differs at x and y
  abbrev pub Told : List A → ℕ → ℕ → Type 0
  Told is x y = map (λ i. table i x) is ≡ map (λ i. table i y) is → ⊥

  -- the first table splits the vertices in two, and the others tell those of each part apart
  told-count : (is : List A) (xs : List ℕ) → Pairs (Told is) xs → length xs ≤ 2 ^ length is
  told-count [] xs p = no_two (Told []) xs (λ x y t. t refl) p
  told-count (i ∷ is) xs p =
      let ih = told-count is in
      let a = half ih (table i) true (λ x e. e) in
      let b = half ih (λ (x : ℕ). not (table i x)) false (λ x e. not-true (table i x) e) in
      let s = part_length (table i) xs in
      let t : 2 ^ suc (length is) ≡ 2 ^ length is * 2 = pow-suc 2 (length is) in
      omega arith
    where
      by-others : (b : Bool) (x y : ℕ) → table i x ≡ b → table i y ≡ b → Told (i ∷ is) x y → Told is x y
      by-others b x y e f t g = t (ap₂ (λ (u : Bool) (us : List Bool). u ∷ us) (e ∙ sym f) g)

      half : ((ys : List ℕ) → Pairs (Told is) ys → length ys ≤ 2 ^ length is)
          → (f : ℕ → Bool) (b : Bool)
          → ((x : ℕ) → f x ≡ true → table i x ≡ b)
          → length (part f xs) ≤ 2 ^ length is
      half ih f b e =
          ih (part f xs)
          (pairs_map (λ (x : ℕ). f x ≡ true) (Told (i ∷ is)) (Told is) (part f xs)
          (λ x y g h. by-others b x y (e x g) (e y h)) (part-has f xs) (pairs_part (Told (i ∷ is)) f xs p))

-- ---- the first members of the classes
module _ (same : ℕ → ℕ → Bool) where
  abbrev begins : ℕ → Bool
  begins x = eqb (first_like same x) x

  -- those below v, the last first
  unfoldable first_members : ℕ → List ℕ
  first_members zero = []
  first_members (suc v) = keep (begins v) v (first_members v)

  -- y is not related to x
  abbrev Unlike : ℕ → ℕ → Type 0
  Unlike x y = same y x ≡ false

  members-count : (v : ℕ) → length (first_members v) ≡ class_count same v
  unfolding first_members class_count
  members-count zero = refl
  members-count (suc v) = go (begins v) (members-count v)
    where
      go : (b : Bool) → length (first_members v) ≡ class_count same v → length (keep b v (first_members v)) ≡ class_count same v + pick b 1 0
      go true e = omega arith
      go false e = omega arith

  members_below : (v : ℕ) → All (λ (x : ℕ). x < v) (first_members v)
  unfolding first_members
  members_below zero = tt
  members_below (suc v) =
      go (begins v) (all_map (λ (x : ℕ). x < v) (λ (x : ℕ). x < suc v) (first_members v) wider (members_below v))
    where
      wider : (x : ℕ) → x < v → x < suc v
      wider x h = omega arith

      go : (b : Bool) → All (λ (x : ℕ). x < suc v) (first_members v) → All (λ (x : ℕ). x < suc v) (keep b v (first_members v))
      go true a = (omega arith, a)
      go false a = a

  members_unlike : (v : ℕ) → Pairs Unlike (first_members v)
  unfolding first_members
  members_unlike zero = tt
  members_unlike (suc v) = go (begins v) refl (members_unlike v)
    where
      none_before : first_like same v ≡ v → (y : ℕ) → y < v → Unlike v y
      none_before e y h = (first_like_lem same v).none_before y (omega arith) (subst (λ (n : ℕ). y < n) (sym e) h)

      go : (b : Bool) → begins v ≡ b → Pairs Unlike (first_members v) → Pairs Unlike (keep b v (first_members v))
      go true e p =
          (all_map (λ (y : ℕ). y < v) (Unlike v) (first_members v) (none_before (eqb-true (first_like same v) v e)) (members_below v), p)
      go false e p = p

  pub classes_told : {A : Type 0} (table : A → ℕ → Bool) (is : List A) (v : ℕ)
      → ((x y : ℕ) → x < v → y < v → same x y ≡ false → Told table is x y)
      → class_count same v ≤ 2 ^ length is
  classes_told table is v told =
      let a = told-count table is (first_members v)
      (pairs_map (λ (x : ℕ). x < v) Unlike (Told table is) (first_members v)
      (λ x y h k u e. told y x k h u (sym e)) (members_below v) (members_unlike v)) in
      let b = members-count v in
      omega arith
