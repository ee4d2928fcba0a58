-- What every solution says of the blocks held and needed: of each part they are no more than there are places; and where they are as many, a
-- class that needs no more keeps to the blocks it holds, and one that needs one more keeps to these and to the blocks in common.
-- Assumes nothing.
use Rattle.std.specs.Prelude.{◌≡◌, refl, Bool, true, false, List, ◌∷◌, ◌⊎◌, ℕ, zero, suc, ◌+◌, ◌≤◌, ◌<◌, eqb, get_or}
use Rattle.std.proofs.Common.{sym, ap₂, ◌∙◌, subst, inl, inr, ⊎_elim, arith, eq-eqb, ne_eqb}
use Rattle.std.proofs.Math.Path.{ap}
use Rattle.std.proofs.Math.Decide.{ℕ_discrete, dec_lt}
use Rattle.std.specs.Int.Bits.{bit_and}
use Rattle.bits.specs.Logic.{andb, pick}
use Rattle.bits.specs.Digit.{on}
use Rattle.bits.specs.DigitLaws.{on_and, on_zero}
use Rattle.bits.specs.LogicLaws.{never_both, false_unless, true_unless}
use Rattle.bits.specs.Count.{sum}
use Rattle.bits.specs.CountLaws.{less_or_equal, sum_more}
use Rattle.cells.specs.SharedLaws.{gather}
use Rattle.cells.specs.ListLaws.{all_map, pairs_map}
use Rattle.cells.specs.Shared.{block, Group}
use Rattle.problem.specs.Problem.{label_at, part_at, part_of, item, Solves, Extends}
use Rattle.holding.specs.Held.{Held}
use Rattle.holding.specs.Wants.{New, Wanted, need, share, needed}

-- ======== the rules
module _ (cl base ms caps spots : List ℕ) (v j o : ℕ) (codes dom own owns : List ℕ) (g : ℕ → ℕ) (h : o < j) (low : (x : ℕ) → x < v → label_at cl o x < 32)
    (s : Held cl codes o (item ms o) v own owns) (f : Solves cl base ms caps spots v j g) (e : Extends codes dom v g) where
  abbrev mask : ℕ
  mask = item ms o

  abbrev key : ℕ → ℕ
  key x = block (item ms) g o x

  -- the blocks that class l holds are blocks of the solution
  held_group : (l : ℕ) → l < 32 → Group v (label_at cl o) key l (get_or owns l 0)
  held_group l b =
      let r = s.lists l b in (
        r.0,
        all_map (λ (w : ℕ). (w < v) × (item codes w < 64) × (label_at cl o w ≡ l)) (λ (w : ℕ). (w < v) × (label_at cl o w ≡ l)) r.0 (λ w a. (a.0, a.2)) r.1,
        pairs_map (λ (w : ℕ). (w < v) × (item codes w < 64) × (label_at cl o w ≡ l)) (λ (a b : ℕ). bit_and (item codes a) mask ≡ bit_and (item codes b) mask → ⊥) (λ (a b : ℕ). key a ≡ key b → ⊥) r.0
            (λ x y a b d k. d (sym (ap (λ (z : ℕ). bit_and z mask) (e.coded x a.0 a.1)) ∙ k ∙ ap (λ (z : ℕ). bit_and z mask) (e.coded y b.0 b.1))) r.1 r.2,
        (let z = r.3 in omega arith),
      )

  -- a vertex whose code is in none of the blocks held adds a block
  more_group : (l y : ℕ) → l < 32 → y < v → label_at cl o y ≡ l → on (get_or own l 0) (g y) ≡ false → Group v (label_at cl o) key l (get_or owns l 0 + 1)
  unfolding held_group
  more_group l y b i q off =
      let r = s.lists l b in
      let p = held_group l b in (
        y ∷ p.0,
        ((i, q), p.1),
        (
          all_map (λ (w : ℕ). (w < v) × (item codes w < 64) × (label_at cl o w ≡ l)) (λ (w : ℕ). key y ≡ key w → ⊥) r.0 (λ w a k.
              never_both (subst (λ (i : ℕ). on (get_or own i 0) (g y) ≡ true) a.2 (s.inside w (g y) a.0 a.1 (f.small y i) (k ∙ ap (λ (z : ℕ). bit_and z mask) (e.coded w a.0 a.1))))
              off) r.1,
          p.2,
        ),
        (let z = p.3 in omega arith),
      )

  -- two vertices whose codes are in none of the blocks held, and in different blocks, add two
  two_group : (l x y : ℕ) → l < 32 → x < v → y < v → label_at cl o x ≡ l → label_at cl o y ≡ l
      → on (get_or own l 0) (g x) ≡ false → on (get_or own l 0) (g y) ≡ false → (key x ≡ key y → ⊥)
      → Group v (label_at cl o) key l (get_or owns l 0 + 2)
  unfolding held_group more_group
  two_group l x y b i k p q off no-y ne =
      let r = s.lists l b in
      let t = more_group l y b k q no-y in (
        x ∷ t.0,
        ((i, p), t.1),
        (
          (
            ne,
            all_map (λ (w : ℕ). (w < v) × (item codes w < 64) × (label_at cl o w ≡ l)) (λ (w : ℕ). key x ≡ key w → ⊥) r.0 (λ w a d.
                never_both (subst (λ (i : ℕ). on (get_or own i 0) (g x) ≡ true) a.2
                (s.inside w (g x) a.0 a.1 (f.small x i) (d ∙ ap (λ (z : ℕ). bit_and z mask) (e.coded w a.0 a.1)))) off) r.1,
          ),
          t.2,
        ),
        (let z = t.3 in omega arith),
      )

  -- a vertex that can take none of the blocks that its class holds has a code in none of them
  outside-held : (l y : ℕ) → y < v → bit_and (item dom y) (item own l) ≡ 0 → on (item own l) (g y) ≡ false
  outside-held l y i z = false_unless _ (λ t. never_both (on_and (item dom y) (item own l) (g y) ∙ ap₂ andb (e.within y i) t) (ap (λ (n : ℕ). on n (g y)) z ∙ on_zero (g y)))

  -- all such vertices of a class below n have x's block, or one has another
  same_or_other : (l x n : ℕ) → n ≤ v
      → ((y : ℕ) → y < n → label_at cl o y ≡ l → bit_and (item dom y) (item own l) ≡ 0 → key y ≡ key x) ⊎
      ((y : ℕ) × (y < n) × (label_at cl o y ≡ l) × (bit_and (item dom y) (item own l) ≡ 0) × (key x ≡ key y → ⊥))
  same_or_other l x zero k = inl (λ y i. absurd (omega arith))
  same_or_other l x (suc n) k = ⊎_elim
      (λ a. here a (ℕ_discrete (label_at cl o n) l) (ℕ_discrete (bit_and (item dom n) (item own l)) 0) (ℕ_discrete (key n) (key x)))
      (λ r. inr (r.0, (let z = r.1 in omega arith), r.2, r.3, r.4))
      (same_or_other l x n (omega arith))
    where
      Same : ℕ → Type 0
      Same m = (y : ℕ) → y < m → label_at cl o y ≡ l → bit_and (item dom y) (item own l) ≡ 0 → key y ≡ key x

      Other : ℕ → Type 0
      Other m = (y : ℕ) × (y < m) × (label_at cl o y ≡ l) × (bit_and (item dom y) (item own l) ≡ 0) × (key x ≡ key y → ⊥)

      more : Same n → (label_at cl o n ≡ l → bit_and (item dom n) (item own l) ≡ 0 → key n ≡ key x) → Same (suc n)
      more a c y i p z = ⊎_elim (λ b. a y b p z) (λ q. ap key q ∙ c (ap (label_at cl o) (sym q) ∙ p) (ap (λ (w : ℕ). bit_and (item dom w) (item own l)) (sym q) ∙ z)) (less_or_equal y n i)

      here : Same n → Dec (label_at cl o n ≡ l) → Dec (bit_and (item dom n) (item own l) ≡ 0) → Dec (key n ≡ key x) → Same (suc n) ⊎ Other (suc n)
      here a (no p) z q = inl (more a (λ r. absurd (p r)))
      here a (yes p) (no z) q = inl (more a (λ r t. absurd (z t)))
      here a (yes p) (yes z) (yes q) = inl (more a (λ r t. q))
      here a (yes p) (yes z) (no q) = inr (n, (omega arith), p, z, λ t. q (sym t))

-- ---- with what is wanted
module _ (cl base ms caps spots : List ℕ) (v j o : ℕ) (codes dom own owns wants meet : List ℕ) (g : ℕ → ℕ) (h : o < j) (low : (x : ℕ) → x < v → label_at cl o x < 32)
    (s : Held cl codes o (item ms o) v own owns) (want : Wanted cl o (item ms o) v dom own owns wants meet) (f : Solves cl base ms caps spots v j g) (e : Extends codes dom v g) where
  abbrev key' : ℕ → ℕ
  key' x = block (item ms) g o x

  held : (l : ℕ) → l < 32 → Group v (label_at cl o) key' l (get_or owns l 0)
  held = held_group cl base ms caps spots v j o codes dom own owns g h low s f e

  one : (l y : ℕ) → l < 32 → y < v → label_at cl o y ≡ l → on (get_or own l 0) (g y) ≡ false → Group v (label_at cl o) key' l (get_or owns l 0 + 1)
  one = more_group cl base ms caps spots v j o codes dom own owns g h low s f e

  two : (l x y : ℕ) → l < 32 → x < v → y < v → label_at cl o x ≡ l → label_at cl o y ≡ l → on (get_or own l 0) (g x) ≡ false
      → on (get_or own l 0) (g y) ≡ false → (key' x ≡ key' y → ⊥) → Group v (label_at cl o) key' l (get_or owns l 0 + 2)
  two = two_group cl base ms caps spots v j o codes dom own owns g h low s f e

  none : (l y : ℕ) → y < v → bit_and (item dom y) (item own l) ≡ 0 → on (item own l) (g y) ≡ false
  none = outside-held cl base ms caps spots v j o codes dom own owns g h low s f e

  -- where all that can take no block held have x's block, x's code is in common
  common : (l x : ℕ) → l < 32 → x < v → ((y : ℕ) → y < v → label_at cl o y ≡ l → bit_and (item dom y) (item own l) ≡ 0 → key' y ≡ key' x) → on (item meet l) (g x) ≡ true
  common l x b i same = want.meets l (g x) b (f.small x i) (λ y k p z. (g y, f.small y k, e.within y k, same y k p z))

  want_group : (l : ℕ) → l < 32 → Group v (label_at cl o) key' l (item wants l)
  want_group l b = ⊎_elim (λ q. subst (Group v (label_at cl o) key' l) (sym q) (held l b)) (λ q. more q.0 q.1) (want.each l b)
    where
      more : New cl o v dom own l → (item wants l ≡ item owns l + 1) ⊎ ((item wants l ≡ item owns l + 2) × (item meet l ≡ 0)) → Group v (label_at cl o) key' l (item wants l)
      more x (inl q) = subst (Group v (label_at cl o) key' l) (sym q) (one l x.0 b x.1 x.2 (none l x.0 x.1 x.3))
      more x (inr q) = subst (Group v (label_at cl o) key' l) (sym q.0) (⊎_elim
          (λ same. absurd (never_both (common l x.0 b x.1 same) (ap (λ (n : ℕ). on n (g x.0)) q.1 ∙ on_zero (g x.0))))
          (λ y. two l x.0 y.0 b x.1 y.1 x.2 y.2 (none l x.0 x.1 x.3) (none l y.0 y.1 y.3) y.4)
          (same_or_other cl base ms caps spots v j o codes dom own owns g h low s f e l x.0 v (omega arith)))

  -- a class has as many blocks as it holds or needs
  pub need_group : (l : ℕ) → l < 32 → Group v (label_at cl o) key' l (need wants base o l)
  need_group l b = elim (dec_lt (get_or wants l 0) (label_at base o l)) as (λ _. Group v (label_at cl o) key' l (need wants base o l)) [
    | yes k ↦ (let r = f.fits.needs o l h b in (r.0, r.1, r.2, (let z = r.3 in omega arith)))
    | no k ↦ (let r = want_group l b in (r.0, r.1, r.2, (let z = r.3 in omega arith)))
  ]

  -- what a class of part p takes, and no other class
  abbrev Takes : ℕ → ℕ → ℕ → Type 0
  Takes p l n = (n ≡ 0) ⊎ ((part_at cl o l ≡ p) × Group v (label_at cl o) key' l n)

  places : (p : ℕ) (n : ℕ → ℕ) → ((l : ℕ) → l < 32 → Takes p l (n l)) → sum n 32 ≤ item spots o
  places p n k =
      let r = gather v (label_at cl o) key' (λ (l : ℕ). part_at cl o l ≡ p) n 32 k in
      let a = f.fits.places o p r.0 h (all_map (λ (x : ℕ). (x < v) × (label_at cl o x < 32) × (part_of cl o x ≡ p)) (λ (x : ℕ). (x < v) × (part_of cl o x ≡ p)) r.0 (λ x q. (q.0, q.2))
      r.1) r.2 in
      let b = r.3 in omega arith

  takes : (p l : ℕ) → l < 32 → Takes p l (share cl wants base o p l)
  takes p l b = elim (ℕ_discrete (part_at cl o l) p) as (λ _. Takes p l (share cl wants base o p l)) [
    | yes q ↦ inr (q, subst (Group v (label_at cl o) key' l) (sym (ap (λ (z : Bool). pick z (need wants base o l) 0) (eq-eqb (part_at cl o l) p q))) (need_group l b))
    | no q ↦ inl (ap (λ (z : Bool). pick z (need wants base o l) 0) (ne_eqb (part_at cl o l) p q))
  ]

  -- there are at least as many places as are held or needed by the classes of a part
  pub enough : (p : ℕ) → needed cl wants base o p ≤ item spots o
  enough p = places p (share cl wants base o p) (takes p)

  -- no place is left: no class has more blocks than it needs
  no_more : (q m : ℕ) → q < 32 → needed cl wants base o (part_at cl o q) ≡ item spots o → need wants base o q < m → Group v (label_at cl o) key' q m → ⊥
  no_more q m b t k group =
      let a = places (part_at cl o q) n (λ l c. grow l c (ℕ_discrete l q)) in
      let w = sum_more (share cl wants base o (part_at cl o q)) n 32 q b (let z = n-here in let y = own-share in omega arith) (λ l c ne. let z = n-other l ne in omega arith) in
      omega arith
    where
      n : ℕ → ℕ
      n l = pick (eqb l q) m (share cl wants base o (part_at cl o q) l)

      own-share : share cl wants base o (part_at cl o q) q ≡ need wants base o q
      own-share = ap (λ (z : Bool). pick z (need wants base o q) 0) (eq-eqb (part_at cl o q) (part_at cl o q) refl)

      n-here : n q ≡ m
      n-here = ap (λ (z : Bool). pick z m (share cl wants base o (part_at cl o q) q)) (eq-eqb q q refl)

      n-other : (l : ℕ) → (l ≡ q → ⊥) → n l ≡ share cl wants base o (part_at cl o q) l
      n-other l ne = ap (λ (z : Bool). pick z m (share cl wants base o (part_at cl o q) l)) (ne_eqb l q ne)

      grow : (l : ℕ) → l < 32 → Dec (l ≡ q) → Takes (part_at cl o q) l (n l)
      grow l c (yes p) = inr (ap (part_at cl o) p, subst (λ (i : ℕ). Group v (label_at cl o) key' i (n i)) (sym p) (subst (Group v (label_at cl o) key' q) (sym n-here) group))
      grow l c (no p) = subst (Takes (part_at cl o q) l) (sym (n-other l p)) (takes (part_at cl o q) l c)

  -- no place is left: a class that holds what it needs, and wants no more, keeps to its blocks
  pub keeps_to : (y : ℕ) → y < v → needed cl wants base o (part_of cl o y) ≡ item spots o → label_at base o (label_at cl o y) ≤ get_or owns (label_at cl o y) 0
      → get_or wants (label_at cl o y) 0 ≡ get_or owns (label_at cl o y) 0 → on (get_or own (label_at cl o y) 0) (g y) ≡ true
  keeps_to y b t k same = true_unless _ (λ off. absurd (no_more (label_at cl o y) (get_or owns (label_at cl o y) 0 + 1) (low y b) t (omega arith) (one (label_at cl o y) y (low y b) b refl off)))

  -- and one that wants just one more keeps to its blocks and to those in common
  pub keeps_near : (y : ℕ) → y < v → needed cl wants base o (part_of cl o y) ≡ item spots o → label_at base o (label_at cl o y) ≤ get_or owns (label_at cl o y) 0 + 1
      → get_or wants (label_at cl o y) 0 ≡ get_or owns (label_at cl o y) 0 + 1 → (on (get_or own (label_at cl o y) 0) (g y) ≡ true) ⊎ (on (get_or meet (label_at cl o y) 0) (g y) ≡ true)
  keeps_near y b t k same = case (on (get_or own q 0) (g y)) refl
    where
      q : ℕ
      q = label_at cl o y

      case : (c : Bool) → on (get_or own q 0) (g y) ≡ c → (on (get_or own q 0) (g y) ≡ true) ⊎ (on (get_or meet q 0) (g y) ≡ true)
      case true p = inl p
      case false off = inr (⊎_elim
          (λ all. common q y (low y b) b all)
          (λ x. absurd (no_more q (get_or owns q 0 + 2) (low y b) t (omega arith) (two q y x.0 (low y b) b x.1 refl x.2 off (none q x.0 x.1 x.3) x.4)))
          (same_or_other cl base ms caps spots v j o codes dom own owns g h low s f e q y v (omega arith)))
