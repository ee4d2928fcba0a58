-- The blocks that classes hold, found vertex by vertex: a vertex whose code is in a block that its class holds changes nothing,
-- and any other adds its block. The number of blocks held is the length of a list of vertices in different blocks, which is how
-- the rules count them. Assumes nothing.
use Rattle.std.specs.Prelude.{◌≡◌, Bool, true, false, List, [], ◌∷◌, ℕ, ◌+◌, ◌≤◌, ◌<◌, length, get_or, set}
use Rattle.std.proofs.Common.{sym, ap, ◌∙◌, subst, ⊎_elim, arith, length-set, get_or-set_same, get_or-set_other, eq-eqb, ne_eqb, eqb-true}
use Rattle.std.proofs.Math.Decide.{ℕ_discrete}
use Rattle.std.specs.Int.Bits.{bit_and, bit_or}
use Rattle.bits.specs.Logic.{orb}
use Rattle.bits.specs.Digit.{on}
use Rattle.bits.specs.DigitLaws.{on_or, on_zero}
use Rattle.bits.specs.LogicLaws.{never_both, or_true, or_cases}
use Rattle.bits.specs.CountLaws.{less_or_equal}
use Rattle.cells.specs.ListLaws.{all_map}
use Rattle.cells.specs.Lists.{All, Pairs}
use Rattle.problem.specs.Problem.{label_at, item, Block}
use Rattle.holding.specs.Held.{Held}

-- ======== the scan
module _ (cl codes : List ℕ) (o mask : ℕ) where
  abbrev Fact : ℕ → ℕ → ℕ → Type 0
  Fact y l w = (w < y) × (item codes w < 64) × (label_at cl o w ≡ l)

  up : (y l : ℕ) (ws : List ℕ) → All (Fact y l) ws → All (Fact (y + 1) l) ws
  up y l ws a = all_map (Fact y l) (Fact (y + 1) l) ws (λ w p. ((let z = p.0 in omega arith), p.1, p.2)) a

  pub held_start : (own owns : List ℕ) → length own ≡ 32 → length owns ≡ 32 → ((l : ℕ) → l < 32 → get_or own l 0 ≡ 0) → ((l : ℕ) → l < 32 → get_or owns l 0 ≡ 0) → Held cl codes o mask 0 own owns
  held_start own owns a b e f = record {
    own_long = a;
    owns_long = b;
    inside = λ w c h. absurd (omega arith);
    outside = λ l c h k t. absurd (never_both t (ap (λ (z : ℕ). on z c) (e l h) ∙ on_zero c));
    lists = λ l h. ([], tt, tt, sym (f l h), λ c k a. ap (λ (z : ℕ). on z c) (e l h) ∙ on_zero c);
    less = λ l h. let z = f l h in omega arith;
  }

  held_skip : (y : ℕ) (own owns : List ℕ) → 64 ≤ item codes y → Held cl codes o mask y own owns → Held cl codes o mask (y + 1) own owns
  held_skip y own owns u s = record {
    own_long = s.own_long;
    owns_long = s.owns_long;
    inside = λ w c h k b e. ⊎_elim (λ l. s.inside w c l k b e) (λ q. absurd (let z : item codes y < 64 = subst (λ (i : ℕ). item codes i < 64) q k in omega arith)) (less_or_equal w y (omega arith));
    outside = λ l c h b t. let r = s.outside l c h b t in (r.0, (let z = r.1 in omega arith), r.2, r.3, r.4);
    lists = λ l h. let r = s.lists l h in (r.0, up y l r.0 r.1, r.2, r.3, r.4);
    less = λ l h. let z = s.less l h in omega arith;
  }

  held_old : (y : ℕ) (own owns : List ℕ) → label_at cl o y < 32 → item codes y < 64
      → on (get_or own (label_at cl o y) 0) (item codes y) ≡ true → Held cl codes o mask y own owns
      → Held cl codes o mask (y + 1) own owns
  held_old y own owns b u t s = record {
    own_long = s.own_long;
    owns_long = s.owns_long;
    inside = λ w c h k d e. ⊎_elim (λ l. s.inside w c l k d e)
        (λ q. let r = s.outside (label_at cl o y) (item codes y) b u t in
        let f : bit_and c mask ≡ bit_and (item codes r.0) mask = e ∙ ap (λ (i : ℕ). bit_and (item codes i) mask) q ∙ sym r.4 in
        subst (λ (i : ℕ). on (get_or own i 0) c ≡ true) (r.3 ∙ ap (label_at cl o) (sym q)) (s.inside r.0 c r.1 r.2 d f))
        (less_or_equal w y (omega arith));
    outside = λ l c h d t. let r = s.outside l c h d t in (r.0, (let z = r.1 in omega arith), r.2, r.3, r.4);
    lists = λ l h. let r = s.lists l h in (r.0, up y l r.0 r.1, r.2, r.3, r.4);
    less = λ l h. let z = s.less l h in omega arith;
  }

  held_new : (y bs : ℕ) (own owns : List ℕ) → label_at cl o y < 32 → item codes y < 64
      → on (get_or own (label_at cl o y) 0) (item codes y) ≡ false → Block mask (item codes y) bs
      → Held cl codes o mask y own owns
      → Held cl codes o mask (y + 1) (set own (label_at cl o y) (bit_or (get_or own (label_at cl o y) 0) bs)) (set owns (label_at cl o y) (get_or owns (label_at cl o y) 0 + 1))
  held_new y bs own owns b u t is s = record {
    own_long = length-set own q new ∙ s.own_long;
    owns_long = length-set owns q _ ∙ s.owns_long;
    inside = λ w c h k d e. ⊎_elim
        (λ l. more (label_at cl o w) c (s.inside w c l k d e))
        (λ p. subst (λ (i : ℕ). on (get_or (set own q new) (label_at cl o i) 0) c ≡ true) (sym p) (hit c d (e ∙ ap (λ (i : ℕ). bit_and (item codes i) mask) p)))
        (less_or_equal w y (omega arith));
    outside = λ l c h d e. out l c h d e (ℕ_discrete l q);
    lists = λ l h. grow l h (ℕ_discrete l q);
    less = λ l h. bound l h (ℕ_discrete l q);
  }
    where
      q : ℕ
      q = label_at cl o y

      new : ℕ
      new = bit_or (get_or own q 0) bs

      same : get_or (set own q new) q 0 ≡ new
      same = get_or-set_same own q new 0 (let z = s.own_long in omega arith)

      other : (l : ℕ) → (l ≡ q → ⊥) → get_or (set own q new) l 0 ≡ get_or own l 0
      other l ne = get_or-set_other own q l new 0 ne

      more : (l c : ℕ) → on (get_or own l 0) c ≡ true → on (get_or (set own q new) l 0) c ≡ true
      more l c e = go (ℕ_discrete l q)
        where
          go : Dec (l ≡ q) → on (get_or (set own q new) l 0) c ≡ true
          go (yes p) = subst (λ (i : ℕ). on (get_or (set own q new) i 0) c ≡ true) (sym p)
              (ap (λ (z : ℕ). on z c) same ∙ on_or (get_or own q 0) bs c ∙ ap (λ (a : Bool). orb a (on bs c)) (subst (λ (i : ℕ). on (get_or own i 0) c ≡ true) p e))
          go (no p) = ap (λ (z : ℕ). on z c) (other l p) ∙ e

      hit : (c : ℕ) → c < 64 → bit_and c mask ≡ bit_and (item codes y) mask → on (get_or (set own q new) q 0) c ≡ true
      hit c d e = ap (λ (z : ℕ). on z c) same ∙ on_or (get_or own q 0) bs c ∙ ap (λ (a : Bool). orb (on (get_or own q 0) c) a) (is c d ∙ eq-eqb _ _ e) ∙ or_true (on (get_or own q 0) c)

      Out : ℕ → ℕ → Type 0
      Out l c = (w : ℕ) × (w < y + 1) × (item codes w < 64) × (label_at cl o w ≡ l) × (bit_and (item codes w) mask ≡ bit_and c mask)

      old : (l c : ℕ) → l < 32 → c < 64 → on (get_or own l 0) c ≡ true → Out l c
      old l c h d e = let r = s.outside l c h d e in (r.0, (let z = r.1 in omega arith), r.2, r.3, r.4)

      out : (l c : ℕ) → l < 32 → c < 64 → on (get_or (set own q new) l 0) c ≡ true → Dec (l ≡ q) → Out l c
      out l c h d e (no p) = old l c h d (sym (ap (λ (z : ℕ). on z c) (other l p)) ∙ e)
      out l c h d e (yes p) = ⊎_elim
          (λ a. old l c h d (subst (λ (i : ℕ). on (get_or own i 0) c ≡ true) (sym p) a))
          (λ a. (y, (omega arith), u, sym p, sym (eqb-true (bit_and c mask) (bit_and (item codes y) mask) (sym (is c d) ∙ a))))
          (or_cases (on (get_or own q 0) c) (on bs c) (sym (on_or (get_or own q 0) bs c) ∙ ap (λ (z : ℕ). on z c) (sym same) ∙ subst (λ (i : ℕ). on (get_or (set own q new) i 0) c ≡ true) p e))

      owns' : List ℕ
      owns' = set owns q (get_or owns q 0 + 1)

      none-new : (c : ℕ) → c < 64 → on (get_or own q 0) c ≡ false → (bit_and (item codes y) mask ≡ bit_and c mask → ⊥) → on new c ≡ false
      none-new c d off ne = on_or (get_or own q 0) bs c ∙ ap (λ (a : Bool). orb a (on bs c)) off ∙ is c d ∙ ne_eqb _ _ (λ e. ne (sym e))

      List' : ℕ → Type 0
      List' l = (ws : List ℕ) × All (Fact (y + 1) l) ws × Pairs (λ (a b : ℕ). bit_and (item codes a) mask ≡ bit_and (item codes b) mask → ⊥) ws × (length ws ≡ get_or owns' l 0) ×
          ((c : ℕ) → c < 64 → All (λ (w : ℕ). bit_and (item codes w) mask ≡ bit_and c mask → ⊥) ws → on (get_or (set own q new) l 0) c ≡ false)

      grow : (l : ℕ) → l < 32 → Dec (l ≡ q) → List' l
      grow l h (no p) =
          let r = s.lists l h in
          (r.0, up y l r.0 r.1, r.2, r.3 ∙ sym (get_or-set_other owns q l (get_or owns q 0 + 1) 0 p), λ c k a. ap (λ (z : ℕ). on z c) (other l p) ∙ r.4 c k a)
      grow l h (yes p) =
          let r = s.lists l h in (
            y ∷ r.0,
            (((omega arith), u, sym p), up y l r.0 r.1),
            (
              all_map (Fact y l) (λ (w : ℕ). bit_and (item codes y) mask ≡ bit_and (item codes w) mask → ⊥) r.0 (λ w a e.
                  never_both (subst (λ (i : ℕ). on (get_or own i 0) (item codes y) ≡ true) (a.2 ∙ p) (s.inside w (item codes y) a.0 a.1 u e)) t) r.1,
              r.2,
            ),
            (let e : get_or owns' l 0 ≡ get_or owns q 0 + 1 = subst (λ (i : ℕ). get_or owns' i 0 ≡ get_or owns q 0 + 1) (sym p)
                (get_or-set_same owns q (get_or owns q 0 + 1) 0 (let z = s.owns_long in omega arith)) in
                let f : length r.0 ≡ get_or owns q 0 = r.3 ∙ ap (λ (i : ℕ). get_or owns i 0) p in omega arith),
            λ c k a. ap (λ (i : ℕ). on (get_or (set own q new) i 0) c) p ∙ ap (λ (z : ℕ). on z c) same ∙ none-new c k (ap (λ (i : ℕ). on (get_or own i 0) c) (sym p) ∙ r.4 c k a.1) a.0,
          )

      bound : (l : ℕ) → l < 32 → Dec (l ≡ q) → get_or owns' l 0 ≤ y + 1
      bound l h (no p) = let e = get_or-set_other owns q l (get_or owns q 0 + 1) 0 p in let z = s.less l h in omega arith
      bound l h (yes p) =
          let e : get_or owns' l 0 ≡ get_or owns q 0 + 1 = subst (λ (i : ℕ). get_or owns' i 0 ≡ get_or owns q 0 + 1) (sym p)
          (get_or-set_same owns q (get_or owns q 0 + 1) 0 (let z = s.owns_long in omega arith)) in
          let z = s.less q b in omega arith

-- the scan of what is held, as the code says it: q is the class read
module _ (cl codes : List ℕ) (o mask y : ℕ) (own owns own' owns' : List ℕ) where
  pub at_skip : 64 ≤ item codes y → own' ≡ own → owns' ≡ owns → Held cl codes o mask y own owns → Held cl codes o mask (y + 1) own' owns'
  at_skip h a b s = subst (λ (z : List ℕ). Held cl codes o mask (y + 1) z owns') (sym a) (subst (Held cl codes o mask (y + 1) own) (sym b) (held_skip cl codes o mask y own owns h s))

  pub at_old : (q : ℕ) → q ≡ label_at cl o y → label_at cl o y < 32 → item codes y < 64
      → true ≡ on (get_or own q 0) (item codes y) → own' ≡ own → owns' ≡ owns → Held cl codes o mask y own owns
      → Held cl codes o mask (y + 1) own' owns'
  at_old q e l h t a b s = subst (λ (z : List ℕ). Held cl codes o mask (y + 1) z owns') (sym a)
      (subst (Held cl codes o mask (y + 1) own) (sym b) (held_old cl codes o mask y own owns l h (sym (subst (λ (z : ℕ). true ≡ on (get_or own z 0) (item codes y)) e t)) s))

  pub at_new : (q bs : ℕ) → q ≡ label_at cl o y → label_at cl o y < 32 → item codes y < 64
      → false ≡ on (get_or own q 0) (item codes y) → Block mask (item codes y) bs
      → own' ≡ set own q (bit_or (get_or own q 0) bs) → owns' ≡ set owns q (get_or owns q 0 + 1)
      → Held cl codes o mask y own owns → Held cl codes o mask (y + 1) own' owns'
  at_new q bs e l h t is a b s =
      let new = held_new cl codes o mask y bs own owns l h (sym (subst (λ (z : ℕ). false ≡ on (get_or own z 0) (item codes y)) e t)) is s in
      subst (λ (z : List ℕ). Held cl codes o mask (y + 1) z owns') (sym (a ∙ ap (λ (z : ℕ). set own z (bit_or (get_or own z 0) bs)) e))
      (subst (Held cl codes o mask (y + 1) (set own (label_at cl o y) (bit_or (get_or own (label_at cl o y) 0) bs))) (sym (b ∙ ap (λ (z : ℕ). set owns z (get_or owns z 0 + 1)) e)) new)
