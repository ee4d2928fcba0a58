-- Why the lower bounds of the crate lowerbounds leave out no codes: they hold for every core that tells apart. Vertices of
-- class l of o in different classes of one part of q have different codes in what q reads; those with one block of o differ in
-- the cells that q reads and o does not, and are at most 2 to the number of these. So the blocks are at least the classes of q
-- divided by that. Assumes nothing.
use Rattle.std.specs.Prelude.{◌≡◌, refl, Bool, true, false, not, List, [], ℕ, ◌+◌, ◌-◌, ◌*◌, ◌/◌, ◌%◌, ◌^◌, ◌≤◌, ◌<◌, length}
use Rattle.std.proofs.Common.{sym, ap, ap₂, ◌∙◌, subst, inl, inr, mul-le-mul_left, mul-le-mul_right, mul-one, arith, pow_pos}
use Rattle.std.proofs.Math.Decide.{ℕ_discrete, dec_lt}
use Rattle.std.specs.Int.Bits.{bit_and}
use Rattle.std.proofs.lemmas.Nat.{and_le_l}
use Rattle.bits.specs.Logic.{andb}
use Rattle.bits.specs.LogicLaws.{and_left, and_right, and_true}
use Rattle.bits.specs.Digit.{on}
use Rattle.bits.specs.DigitLaws.{on_and, on_complement}
use Rattle.bits.specs.Count.{count}
use Rattle.cells.specs.PigeonLaws.{agree_and, and_agree, pigeon, buckets}
use Rattle.cells.specs.Core.{Within}
use Rattle.cells.specs.ListLaws.{all_map, pairs_map}
use Rattle.cells.specs.Lists.{All, Pairs}
use Rattle.cells.specs.Codes.{Coded, Agree}
use Rattle.cells.specs.Shared.{shared_code}
use Rattle.problem.specs.Problem.{label_at, part_at, part_of, item}
use Rattle.lowerbounds.specs.Reasons.{Kinds, apart, Reason, Based}
use Rattle.readers.specs.Masks.{Short, Common, Planned, Bounds}

-- n - 1 buckets of p hold less than g, and z buckets of p hold g: n is at most z
enough : (n p g z : ℕ) → (n - 1) * p < g → g ≤ z * p → n ≤ z
enough n p g z a b = elim (dec_lt (n - 1) z) as (λ _. n ≤ z) [
  | yes l ↦ omega arith
  | no l ↦ absurd
      (let m : z * p ≤ (n - 1) * p = mul-le-mul_right p (let h : z ≤ n - 1 = omega arith in h) in omega arith)
]

module _ (cl rows : List ℕ) (sh v j : ℕ) (ms ps caps spots : List ℕ) (short : Short rows j) (c : Common rows j sh) (p : Planned rows sh j ms ps caps spots) (f : ℕ → ℕ)
    (k : Coded v j (Within (part_at cl) (label_at cl)) (item rows) f) where
  -- cells that both read, and cells that only q reads
  abbrev common : ℕ → ℕ → ℕ
  common o q = bit_and (item rows q) (item rows o)

  abbrev only : ℕ → ℕ → ℕ
  only o q = bit_and (item rows q) (2 ^ 8 - 1 - item rows o)

  abbrev In : ℕ → ℕ → ℕ → Type 0
  In o l x = (x < v) × (label_at cl o x ≡ l)

  abbrev Blocks : ℕ → ℕ → ℕ → Type 0
  Blocks o x y = bit_and (shared_code sh f x) (item ms o) ≡ bit_and (shared_code sh f y) (item ms o) → ⊥

  -- the same block of o and the same digits in what only q reads: the same class of q
  class_same : (o q x y : ℕ) → o < j → q < j → x < v → y < v → part_of cl q x ≡ part_of cl q y → bit_and (f x) (common o q) ≡ bit_and (f y) (common o q) → Agree 6 (only o q) (f x) (f y)
      → label_at cl q x ≡ label_at cl q y
  class_same o q x y h i a b t e g = go (ℕ_discrete (label_at cl q x) (label_at cl q y))
    where
      digit : (i : ℕ) → i < 6 → on (item rows q) i ≡ true → on (f x) i ≡ on (f y) i
      digit i l m = case (on (item rows o) i) refl
        where
          case : (b : Bool) → on (item rows o) i ≡ b → on (f x) i ≡ on (f y) i
          case true r = and_agree 6 (common o q) (f x) (f y) e i l (on_and (item rows q) (item rows o) i ∙ ap₂ andb m r)
          case false r = g i l (on_and (item rows q) (2 ^ 8 - 1 - item rows o) i ∙ ap₂ andb m (on_complement 8 (item rows o) i (let z = short o h in omega arith) (omega arith) ∙ ap not r))

      go : Dec (label_at cl q x ≡ label_at cl q y) → label_at cl q x ≡ label_at cl q y
      go (yes d) = d
      go (no d) = absurd (k.tells q x y i a b (t, d) (agree_and 6 (item rows q) (f x) (f y) (short q i) digit))

  -- the same block of o is the same in what both read
  block_same : (o q x y : ℕ) → o < j → q < j → (o ≡ q → ⊥) → bit_and (shared_code sh f x) (item ms o) ≡ bit_and (shared_code sh f y) (item ms o)
      → bit_and (f x) (common o q) ≡ bit_and (f y) (common o q)
  block_same o q x y h i ne e = agree_and 6 (common o q) (f x) (f y) (let z = short q i in let w = and_le_l (item rows q) (item rows o) in omega arith) (λ d l m.
      let a : on (item rows q) d ≡ true = and_left _ _ (sym (on_and (item rows q) (item rows o) d) ∙ m) in
      let b : on (item rows o) d ≡ true = and_right (on (item rows q) d) _ (sym (on_and (item rows q) (item rows o) d) ∙ m) in
      let s : on sh d ≡ true = c.two o q d h i ne b a in
      let t : on (item ms o) d ≡ true = ap (λ (z : ℕ). on z d) (p.shared.done o h) ∙ on_and (item rows o) sh d ∙ ap₂ andb b s in
      let read : (z : ℕ) → on (shared_code sh f z) d ≡ on (f z) d = λ z. on_and (f z) sh d ∙ ap (λ (x : Bool). andb (on (f z) d) x) s ∙ and_true (on (f z) d) in
      sym (read x) ∙ and_agree 6 (item ms o) (shared_code sh f x) (shared_code sh f y) e d l t ∙ read y)

  needs_of : (o l n : ℕ) → o < j → Reason cl rows v j o l n → (xs : List ℕ) × All (In o l) xs × Pairs (Blocks o) xs × (n ≤ length xs)
  needs_of o l n h (inl z) = ([], tt, tt, omega arith)
  needs_of o l n h (inr r) = go (ℕ_discrete o q) r.3
    where
      q : ℕ
      q = r.0

      g : ℕ
      g = r.1

      At : ℕ → ℕ → Type 0
      At p x = (x < v) × (label_at cl o x ≡ l) × (part_of cl q x ≡ p)

      go : Dec (o ≡ q) → Kinds cl v o l q g → (xs : List ℕ) × All (In o l) xs × Pairs (Blocks o) xs × (n ≤ length xs)
      go (yes e) u = let y : (ys : List ℕ) × All (In o l) ys × Pairs (λ (a b : ℕ). label_at cl q a ≡ label_at cl q b → ⊥) ys × (length ys ≡ g) = (
        u.1,
        all_map (At u.0) (In o l) u.1
            (λ x i. (i.0, i.1)) u.2,
        u.3,
        u.4,
      ) in (
        y.0,
        y.1,
        pairs_map (In o l) (λ (a b : ℕ). label_at cl q a ≡ label_at cl q b → ⊥) (Blocks o) y.0
            (λ a b s t d. absurd (d (subst (λ (z : ℕ). label_at cl z a ≡ label_at cl z b) e (s.1 ∙ sym t.1)))) y.1 y.2,
        enough n (apart rows o q) g (length y.0) r.4 (let z : length y.0 * 1 ≤ length y.0 * apart rows o q = mul-le-mul_left (length y.0) (pow_pos (count (on (only o q)) 6)) in
            let w = mul-one (length y.0) in let d = y.3 in omega arith),
      )
      go (no ne) u =
          let b = buckets (At u.0) (λ (a b : ℕ). label_at cl q a ≡ label_at cl q b → ⊥) (λ (x : ℕ). bit_and (f x) (common o q)) (apart rows o q)
          (λ key xs a s. pigeon f (only o q) 6 xs (pairs_map (λ (x : ℕ). At u.0 x × (bit_and (f x) (common o q) ≡ key)) (λ (a b : ℕ). label_at cl q a ≡ label_at cl q b → ⊥)
          (λ (x y : ℕ). Agree 6 (only o q) (f x) (f y) → ⊥) xs
          (λ x y m t d w. d (class_same o q x y h r.2 m.0.0 t.0.0 (m.0.2 ∙ sym t.0.2) (m.1 ∙ sym t.1) w)) a s)) u.1 u.2 u.3 in (
            b.0,
            all_map (At u.0) (In o l) b.0 (λ x i. (i.0, i.1)) b.1,
            pairs_map (At u.0) (λ (x y : ℕ). bit_and (f x) (common o q) ≡ bit_and (f y) (common o q) → ⊥) (Blocks o) b.0 (λ x y m t d w. d (block_same o q x y h r.2 ne w)) b.1 b.2,
            enough n (apart rows o q) g (length b.0) r.4 (let z = b.3 in let w = u.4 in omega arith),
          )

pub bounds_of : (cl rows : List ℕ) (sh v j : ℕ) (ms ps caps spots base : List ℕ) → Short rows j → Common rows j sh
    → Planned rows sh j ms ps caps spots → Based cl rows v j (j * 32) base → Bounds cl base rows sh ms v j
bounds_of cl rows sh v j ms ps caps spots base short c p b = record {
  needs = λ f k o l h i.
      needs_of cl rows sh v j ms ps caps spots short c p f k o l (label_at base o l) h
      (subst (λ (z : ℕ). Reason cl rows v j o z (label_at base o l)) (let e : (o * 32 + l) % 32 ≡ l = omega arith in e)
      (subst (λ (z : ℕ). Reason cl rows v j z ((o * 32 + l) % 32) (label_at base o l)) (let e : (o * 32 + l) / 32 ≡ o = omega arith in e) (b.reasons (o * 32 + l) (omega arith))));
}
