-- Laws of listing members: one output more is looked at, and it is put down where it is in the set. Assumes nothing.
use Rattle.std.specs.Prelude.{◌≡◌, refl, Bool, true, false, List, [], ◌∷◌, ◌++◌, ℕ, zero, suc, ◌+◌, ◌<◌, length, get_or, set}
use Rattle.std.proofs.Common.{sym, ap, ◌∙◌, subst, append-nil, arith, add-one, length-append, length-set, get_or-set_same, get_or-set_other}
use Rattle.std.proofs.Math.Decide.{ℕ_discrete}
use Rattle.std.proofs.Math.ListN.{get_or-append}
use Rattle.std.proofs.lemmas.List.{get_or_at}
use Rattle.bits.specs.Logic.{pick}
use Rattle.bits.specs.Digit.{on}
use Rattle.subsets.specs.Subset.{members, member_at}
use Rattle.subsets.specs.Listed.{Lists}

-- the members among one output more
pub members_more : (s i k : ℕ) → members s i (suc k) ≡ members s i k ++ pick (on s (i + k)) ((i + k) ∷ []) []
unfolding members
members_more s i zero = let e : i ≡ i + 0 = omega arith in ap (λ (o : ℕ). pick (on s o) (o ∷ []) []) e
members_more s i (suc k) = go (on s i) (members_more s (suc i) k)
  where
    last : ℕ → List ℕ
    last o = pick (on s o) (o ∷ []) []

    moved : suc i + k ≡ i + suc k
    moved = omega arith

    go : (b : Bool) → members s (suc i) (suc k) ≡ members s (suc i) k ++ last (suc i + k)
        → pick b (i ∷ members s (suc i) (suc k)) (members s (suc i) (suc k)) ≡ pick b (i ∷ members s (suc i) k) (members s (suc i) k) ++ last (i + suc k)
    go true e = ap (λ (l : List ℕ). i ∷ l) (e ∙ ap (λ (o : ℕ). members s (suc i) k ++ last o) moved)
    go false e = e ∙ ap (λ (o : ℕ). members s (suc i) k ++ last o) moved

members_upto : (m s : ℕ) (b : Bool) → on s m ≡ b → members s 0 (m + 1) ≡ members s 0 m ++ pick b (m ∷ []) []
members_upto m s b e =
    let z : 0 + m ≡ m = omega arith in
    ap (members s 0) (add-one m) ∙ members_more s 0 m ∙ ap (λ (o : ℕ). members s 0 m ++ pick (on s o) (o ∷ []) []) z
    ∙ ap (λ (b : Bool). members s 0 m ++ pick b (m ∷ []) []) e

module _ (m s n : ℕ) (from : List ℕ) where
  pub lists_out : on s m ≡ false → Lists m s n from → Lists (m + 1) s n from
  lists_out e l = record {
    long = l.long;
    small = l.small;
    count = l.count ∙ ap length (sym same);
    each = λ j h. l.each j h ∙ ap (λ (l : List ℕ). get_or l j 0) (sym same);
  }
    where
      same : members s 0 (m + 1) ≡ members s 0 m
      same = members_upto m s false e ∙ append-nil (members s 0 m)

  pub lists_in : m < 8 → n < 8 → on s m ≡ true → Lists m s n from → Lists (m + 1) s (n + 1) (set from n m)
  lists_in few h e l = record {
    long = length-set from n m ∙ l.long;
    small = λ j b. small j b (ℕ_discrete j n);
    count = let z = l.count in let w = ap length more in let a = length-append (members s 0 m) (m ∷ []) in omega arith;
    each = λ j b. each j b (ℕ_discrete j n);
  }
    where
      more : members s 0 (m + 1) ≡ members s 0 m ++ (m ∷ [])
      more = members_upto m s true e

      room : n < length from
      room = let z = l.long in omega arith

      small : (j : ℕ) → j < 8 → Dec (j ≡ n) → get_or (set from n m) j 0 < 8
      small j b (yes q) = let w = get_or-set_same from n m 0 room in subst (λ (j : ℕ). get_or (set from n m) j 0 < 8) (sym q) (omega arith)
      small j b (no q) = let w = get_or-set_other from n j m 0 q in let z = l.small j b in omega arith

      each : (j : ℕ) → j < n + 1 → Dec (j ≡ n) → get_or (set from n m) j 0 ≡ member_at (m + 1) s j
      each j b (yes q) = ap (λ (j : ℕ). get_or (set from n m) j 0) q ∙ get_or-set_same from n m 0 room
          ∙ sym (ap (λ (l : List ℕ). get_or l j 0) more ∙ get_or_at (members s 0 m) m [] 0 j (let z = l.count in let w : length (members s 0 m) ≡ j = omega arith in w))
      each j b (no q) = get_or-set_other from n j m 0 q ∙ l.each j (omega arith)
          ∙ sym (ap (λ (l : List ℕ). get_or l j 0) more ∙ get_or-append (members s 0 m) (m ∷ []) 0 j (let z = l.count in omega arith))

pub lists_start : (s : ℕ) (from : List ℕ) → length from ≡ 8 → ((j : ℕ) → j < 8 → get_or from j 0 ≡ 0) → Lists 0 s 0 from
unfolding members
lists_start s from e zeros = record { long = e; small = λ j h. let z = zeros j h in omega arith; count = refl; each = λ j h. absurd (omega arith) }
