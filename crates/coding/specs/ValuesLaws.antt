-- The rule of values: of the values of a group that no vertex with a code has, the next vertex is asked for one only. The
-- outputs read all of a group or none of it, so two such values may be exchanged at every vertex: a solution in which the
-- vertex has another free value becomes one in which it has that one, with the same codes at the vertices that have some. So
-- where there is a solution there is one among the codes that are left. A cell that no two outputs read is no output's shared
-- cell, and its digit may be 0. Assumes nothing.
use Rattle.std.specs.Prelude.{◌≡◌, ℕ, ◌+◌, ◌-◌, ◌^◌, ◌<◌, ◌≤◌, Bool, true, false, not, List, length, ◌==◌, ◌≢◌, bit_or, slice_set, refl}
use Rattle.std.proofs.Common.{sym, ap, ap₂, ◌∙◌, subst, inl, inr, ⊎_elim, arith, length-set, get_or-set_same, get_or-set_other, eq-eqb, ne_eqb, eqb-true}
use Rattle.std.proofs.Math.Decide.{ℕ_discrete, dec_lt}
use Rattle.std.specs.Int.Bits.{bit_and}
use Rattle.std.proofs.lemmas.Nat.{and_le_l}
use Rattle.bits.specs.Logic.{andb, pick}
use Rattle.bits.specs.LogicLaws.{true_false, and_left, and_right, never_both, false_unless, and_true, and_false, or_cases, or_first}
use Rattle.bits.specs.Digit.{on}
use Rattle.bits.specs.DigitLaws.{on_and, on_or, on_zero, on_above, on_complement, equal_digits, on_or_one}
use Rattle.bits.specs.CountLaws.{less_or_equal}
use Rattle.cells.specs.PigeonLaws.{agree_and}
use Rattle.coding.specs.ExchangeLaws.{swap, swap_blocks, swap-small, swap_stays, swap_first, swap-outside, solves_alike}
use Rattle.holding.specs.BlocksLaws.{on_both}
use Rattle.problem.specs.Problem.{item, Block, Blocks, Solves, Knows}
use Rattle.coding.specs.Values.{Groups, ReadTogether, Over, Closed, Marks, Used, Alone, Valued, Fresh, Agrees, Canon, Marked}

in_l : (a b c : ℕ) → on a c ≡ true → on (bit_or a b) c ≡ true
in_l a b c e = on_or a b c ∙ or_first (on a c) (on b c) e

block_closed : (g c b : ℕ) → Block g c b → Closed g b
block_closed g c b is x y p q e t = is y q ∙ eq-eqb _ _ (sym e ∙ eqb-true (bit_and x g) (bit_and c g) (sym (is x p) ∙ t))

or_closed : (g a b : ℕ) → Closed g a → Closed g b → Closed g (bit_or a b)
or_closed g a b f h x y p q e t = ⊎_elim (λ w. in_l a b y (f x y p q e w)) (λ w. on_or_one a b y (h x y p q e w)) (or_cases (on a x) (on b x) (sym (on_or a b x) ∙ t))

-- ---- a value that is free
pub fresh-some : (g a r c b : ℕ) → a < 2 ^ 64 → r ≡ 2 ^ 64 - 1 - a → c < 64 → on r c ≡ true → Block g c b → Fresh g a b
fresh-some g a r c b h e l t is = inl (c, l, go (on a c) (sym (on_complement 64 a c h l) ∙ ap (λ (z : ℕ). on z c) (sym e) ∙ t), is)
  where
    go : (b : Bool) → not b ≡ true → b ≡ false
    go false e = refl
    go true e = absurd (true_false (sym e))

pub fresh_none : (g a r b : ℕ) → a < 2 ^ 64 → r ≡ 2 ^ 64 - 1 - a → r ≡ 0 → Fresh g a b
fresh_none g a r b h e z = inr (λ c l. go (on a c) (sym (on_complement 64 a c h l) ∙ ap (λ (n : ℕ). on n c) (sym e ∙ z) ∙ on_zero c))
  where
    go : (b : Bool) → not b ≡ false → b ≡ true
    go true e = refl
    go false e = absurd (true_false e)

-- ---- group after group
-- the cells that no two outputs read may be 0 at x
module _ (gs used : List ℕ) (sh all : ℕ) (o : Over sh all) where
  abbrev rest : ℕ
  rest = 2 ^ 8 - 1 - sh

  -- over the cells of sh, digit by digit
  over_of : (c : ℕ) → c < 64 → ((i : ℕ) → i < 6 → on sh i ≡ false → on c i ≡ false) → on all c ≡ true
  over_of c l z = o.is c l ∙ eq-eqb (bit_and c rest) (bit_and 0 rest)
      (equal_digits (bit_and c rest) (bit_and 0 rest) (λ i. on_and c rest i ∙ none i (dec_lt i 6) ∙ sym (on_and 0 rest i ∙ ap (λ (b : Bool). andb b (on rest i)) (on_zero i))))
    where
      none : (i : ℕ) → Dec (i < 6) → andb (on c i) (on rest i) ≡ false
      none i (no n) = ap (λ (b : Bool). andb b (on rest i)) (on_above 6 c i l (omega arith))
      none i (yes y) = case (on sh i) refl
        where
          case : (b : Bool) → on sh i ≡ b → andb (on c i) (on rest i) ≡ false
          case true e = ap (λ (b : Bool). andb (on c i) b) (on_complement 8 sh i (let w = o.low in omega arith) (omega arith) ∙ ap not e) ∙ and_false (on c i)
          case false e = ap (λ (b : Bool). andb b (on rest i)) (z i y e)

  of_over : (c i : ℕ) → c < 64 → i < 6 → on all c ≡ true → on sh i ≡ false → on c i ≡ false
  of_over c i l h t e = go (on c i) (sym (ap (λ (b : Bool). andb (on c i) b) (on_complement 8 sh i (let w = o.low in omega arith) (omega arith) ∙ ap not e)) ∙ sym (on_and c rest i) ∙ ap
      (λ (n : ℕ). on n i) (eqb-true (bit_and c rest) (bit_and 0 rest) (sym (o.is c l) ∙ t)) ∙ on_and 0 rest i ∙ ap (λ (b : Bool). andb b (on rest i)) (on_zero i))
    where
      go : (b : Bool) → andb b true ≡ false → b ≡ false
      go false e = refl
      go true e = absurd (true_false e)

  pub canon_start : Groups gs sh → Canon gs used sh 0 all
  canon_start groups = record { reach = reach; blind = blind }
    where
      blind : (k c d : ℕ) → 0 ≤ k → k < 3 → c < 64 → d < 64 → ((i : ℕ) → i < 6 → on (item gs k) i ≡ false → on c i ≡ on d i) → on all c ≡ true → on all d ≡ true
      blind k c d n l p q e t = over_of d q (λ i h z. sym (e i h (false_unless (on (item gs k) i) (λ w. never_both (groups.among k i l w) z))) ∙ of_over c i p h t z)

      reach : (cl base ms caps spots codes : List ℕ) (v j x : ℕ) → 64 ≤ item codes x → ReadTogether ms gs sh j
          → ((k y : ℕ) → k < 3 → y < v → item codes y < 64 → on (item used k) (item codes y) ≡ true) → (g : ℕ → ℕ)
          → Solves cl base ms caps spots v j g → Agrees codes v g → x < v
          → (g' : ℕ → ℕ) × Solves cl base ms caps spots v j g' × Agrees codes v g' × (on all (g' x) ≡ true) × (Alone gs sh → (y : ℕ) → y < v → on (g' y) 0 ≡ on (g y) 0)
      reach cl base ms caps spots codes v j x u a has g f e h = (
        G,
        solves_alike cl base ms caps spots v j g G (record { there = λ q y z l b c r. same q y l ∙ r ∙ sym (same q z l); back = λ q y z l b c r. sym (same q y l) ∙ r ∙ same q z l }) small f,
        (λ y l t. at_other y (λ q. let z = subst (λ (n : ℕ). item codes n < 64) q t in omega arith) ∙ e y l t),
        ap (on all) at_x ∙ over_of (bit_and (g x) sh) (let w = and_le_l (g x) sh in let z = f.small x h in omega arith)
            (λ i l z. on_and (g x) sh i ∙ ap (λ (b : Bool). andb (on (g x) i) b) z ∙ and_false (on (g x) i)),
        (λ w y l. digit w y (ℕ_discrete y x)),
      )
        where
          G : ℕ → ℕ
          G y = pick (y == x) (bit_and (g x) sh) (g y)

          at_x : G x ≡ bit_and (g x) sh
          at_x = ap (λ (b : Bool). pick b (bit_and (g x) sh) (g x)) (eq-eqb x x refl)

          at_other : (y : ℕ) → (y ≢ x) → G y ≡ g y
          at_other y ne = ap (λ (b : Bool). pick b (bit_and (g x) sh) (g y)) (ne_eqb y x ne)

          digit : Alone gs sh → (y : ℕ) → Dec (y ≡ x) → on (G y) 0 ≡ on (g y) 0
          digit w y (no ne) = ap (λ (n : ℕ). on n 0) (at_other y ne)
          digit w y (yes r) = ap (λ (n : ℕ). on (G n) 0) r ∙ ap (λ (n : ℕ). on n 0) at_x ∙ on_and (g x) sh 0 ∙ ap (λ (b : Bool). andb (on (g x) 0) b) w.shared ∙ and_true (on (g x) 0) ∙ ap
              (λ (n : ℕ). on (g n) 0) (sym r)

          same : (q y : ℕ) → q < j → bit_and (G y) (item ms q) ≡ bit_and (g y) (item ms q)
          same q y l = go (ℕ_discrete y x)
            where
              go : Dec (y ≡ x) → bit_and (G y) (item ms q) ≡ bit_and (g y) (item ms q)
              go (no ne) = ap (λ (n : ℕ). bit_and n (item ms q)) (at_other y ne)
              go (yes r) = ap (λ (n : ℕ). bit_and (G n) (item ms q)) r ∙ ap (λ (n : ℕ). bit_and n (item ms q)) at_x ∙ agree_and 6 (item ms q) (bit_and (g x) sh) (g x) (a.short q l)
                  (λ i b t. on_and (g x) sh i ∙ ap (λ (b : Bool). andb (on (g x) i) b) (a.masked q i l t) ∙ and_true (on (g x) i)) ∙ ap (λ (n : ℕ). bit_and (g n) (item ms q)) (sym r)

          small : (y : ℕ) → y < v → G y < 64
          small y l = go (ℕ_discrete y x)
            where
              go : Dec (y ≡ x) → G y < 64
              go (no ne) = subst (λ (n : ℕ). n < 64) (sym (at_other y ne)) (f.small y l)
              go (yes r) = subst (λ (n : ℕ). G n < 64) (sym r) (subst (λ (n : ℕ). n < 64) (sym at_x) (let w = and_le_l (g x) sh in let z = f.small x h in omega arith))

module _ (gs used : List ℕ) (sh n can b : ℕ) (h : n < 3) (groups : Groups gs sh) (marks : Marks gs used) (fresh : Fresh (item gs n) (item used n) b) (s : Canon gs used sh n can) where
  abbrev g₀ : ℕ
  g₀ = item gs n

  abbrev a₀ : ℕ
  a₀ = item used n

  -- what the group lets pass depends on its value alone
  passes : Closed g₀ (bit_or a₀ b)
  passes = go fresh
    where
      go : Fresh g₀ a₀ b → Closed g₀ (bit_or a₀ b)
      go (inl r) = or_closed g₀ a₀ b (marks.closed n h) (block_closed g₀ r.0 b r.3)
      go (inr all) = λ x y p q e t. in_l a₀ b y (all y q)

  pub canon_more : Canon gs used sh (n + 1) (bit_and can (bit_or a₀ b))
  canon_more = record { reach = reach; blind = blind }
    where
      blind : (k c d : ℕ) → n + 1 ≤ k → k < 3 → c < 64 → d < 64
          → ((i : ℕ) → i < 6 → on (item gs k) i ≡ false → on c i ≡ on d i) → on (bit_and can (bit_or a₀ b)) c ≡ true
          → on (bit_and can (bit_or a₀ b)) d ≡ true
      blind k c d m l p q e t =
          let w : andb (on can c) (on (bit_or a₀ b) c) ≡ true = sym (on_and can (bit_or a₀ b) c) ∙ t in
          on_both can (bit_or a₀ b) d
          (s.blind k c d (omega arith) l p q e (and_left (on can c) _ w))
          (passes c d p q (agree_and 6 g₀ c d (groups.low n h) (λ i z y. e i z (groups.disjoint n k i h l (λ r. omega arith) y))) (and_right (on can c) _ w))

      reach : (cl base ms caps spots codes : List ℕ) (v j x : ℕ) → 64 ≤ item codes x → ReadTogether ms gs sh j
          → ((k y : ℕ) → k < 3 → y < v → item codes y < 64 → on (item used k) (item codes y) ≡ true) → (g : ℕ → ℕ)
          → Solves cl base ms caps spots v j g → Agrees codes v g → x < v
          → (g' : ℕ → ℕ) × Solves cl base ms caps spots v j g' × Agrees codes v g' × (on (bit_and can (bit_or a₀ b)) (g' x) ≡ true) × (Alone gs sh → (y : ℕ) → y < v → on (g' y) 0 ≡ on (g y) 0)
      reach cl base ms caps spots codes v j x u alike has g f e l = go (s.reach cl base ms caps spots codes v j x u alike has g f e l)
        where
          Out : Type 0
          Out = (g' : ℕ → ℕ) × Solves cl base ms caps spots v j g' × Agrees codes v g' × (on (bit_and can (bit_or a₀ b)) (g' x) ≡ true) × (Alone gs sh → (y : ℕ) → y < v → on (g' y) 0 ≡ on (g y) 0)

          In : Type 0
          In = (g' : ℕ → ℕ) × Solves cl base ms caps spots v j g' × Agrees codes v g' × (on can (g' x) ≡ true) × (Alone gs sh → (y : ℕ) → y < v → on (g' y) 0 ≡ on (g y) 0)

          -- the value at x and a free one exchanged, which no vertex with a code has
          exchange : (i : In) (c : ℕ) → c < 64 → on a₀ c ≡ false → Block g₀ c b → on a₀ (i.0 x) ≡ false → Out
          exchange i c lc off is out = (
            F,
            solves_alike cl base ms caps spots v j i.0 F (swap_blocks g₀ low ms v j (i.0 x) c i.0 alike.short (λ o k. alike.uniform n o h k))
                (λ y k. swap-small g₀ low (i.0 x) c (i.0 y) (i.1.small y k)) i.1,
            (λ y k t. stays y k t ∙ i.2 y k t),
            on_both can (bit_or a₀ b) (F x)
                (s.blind n (i.0 x) (F x) (omega arith) h (i.1.small x l) small (λ d z t. sym (swap-outside g₀ low (i.0 x) c (i.0 x) d z t)) i.3)
                (on_or_one a₀ b (F x) (is (F x) small ∙ eq-eqb _ _ (swap_first g₀ low (i.0 x) c))),
            (λ w y k. swap-outside g₀ low (i.0 x) c (i.0 y) 0 (omega arith) (w.outside n h) ∙ i.4 w y k),
          )
            where
              low : g₀ < 64
              low = groups.low n h

              F : ℕ → ℕ
              F y = swap g₀ low (i.0 x) c (i.0 y)

              small : F x < 64
              small = swap-small g₀ low (i.0 x) c (i.0 x) (i.1.small x l)

              marked : (y : ℕ) → y < v → item codes y < 64 → on a₀ (i.0 y) ≡ true
              marked y k t = ap (on a₀) (i.2 y k t) ∙ has n y h k t

              stays : (y : ℕ) → y < v → item codes y < 64 → F y ≡ i.0 y
              stays y k t = swap_stays g₀ low (i.0 x) c (i.0 y) (i.1.small y k)
                  (λ q. never_both (marks.closed n h (i.0 y) (i.0 x) (i.1.small y k) (i.1.small x l) q (marked y k t)) out)
                  (λ q. never_both (marks.closed n h (i.0 y) c (i.1.small y k) lc q (marked y k t)) off)

          free : (i : In) → Fresh g₀ a₀ b → on a₀ (i.0 x) ≡ false → Out
          free i (inl r) out = exchange i r.0 r.1 r.2 r.3 out
          free i (inr all) out = absurd (never_both (all (i.0 x) (i.1.small x l)) out)

          go : In → Out
          go i = case (on a₀ (i.0 x)) refl
            where
              case : (t : Bool) → on a₀ (i.0 x) ≡ t → Out
              case true q = (i.0, i.1, i.2, on_both can (bit_or a₀ b) (i.0 x) i.3 (in_l a₀ b (i.0 x) q), i.4)
              case false q = free i fresh q

-- ---- a vertex takes a code
pub marked_start : (gs used : List ℕ) (c : ℕ) → length used ≡ 3 → Marked gs used c 0 used
marked_start gs used c e = record { long = e; done = λ k h. absurd (omega arith); rest = λ k h. refl }

pub marked_more : (gs used : List ℕ) (c n b : ℕ) (r : List ℕ) → n < 3 → Block (item gs n) c b → Marked gs used c n r → Marked gs used c (n + 1) (slice_set r n (bit_or (item r n) b))
marked_more gs used c n b r h is s = record {
  long = length-set r n _ ∙ s.long;
  done = λ k l. ⊎_elim
      (λ a. let q = s.done k a in (q.0, q.1, get_or-set_other r n k _ 0 (λ z. let y : k ≡ n = z in omega arith) ∙ q.2))
      (λ e. subst (λ (k : ℕ). (b' : ℕ) × Block (item gs k) c b' × (item (slice_set r n (bit_or (item r n) b)) k ≡ bit_or (item used k) b')) (sym e)
      (b, is, get_or-set_same r n _ 0 (let z = s.long in omega arith) ∙ ap (λ (z : ℕ). bit_or z b) (s.rest n (omega arith))))
      (less_or_equal k n (omega arith));
  rest = λ k l. get_or-set_other r n k _ 0 (λ z. let y : k ≡ n = z in omega arith) ∙ s.rest k (omega arith);
}

-- the code c at x, and what other vertices have
module _ (codes : List ℕ) (v x c : ℕ) (long : length codes ≡ 32) (few : v ≤ 32) (h : x < v) where
  here : item (slice_set codes x c) x ≡ c
  here = get_or-set_same codes x c 0 (omega arith)

  there : (y : ℕ) → (y ≢ x) → item (slice_set codes x c) y ≡ item codes y
  there y ne = get_or-set_other codes x y c 0 ne

  used_more : (gs used r : List ℕ) → c < 64 → Marked gs used c 3 r → Used gs codes v used → Used gs (slice_set codes x c) v r
  used_more gs used r l m u = record {
    marks = record {
      long = m.long;
      closed = λ k a. let q = m.done k a in subst (Closed (item gs k)) (sym q.2) (or_closed (item gs k) (item used k) q.0 (u.marks.closed k a) (block_closed (item gs k) c q.0 q.1));
    };
    has = λ k y a b t. has k y a b t (ℕ_discrete y x);
  }
    where
      has : (k y : ℕ) → k < 3 → y < v → item (slice_set codes x c) y < 64 → Dec (y ≡ x) → on (item r k) (item (slice_set codes x c) y) ≡ true
      has k y a b t (yes e) = let q = m.done k a in ap₂ on q.2 (ap (item (slice_set codes x c)) e ∙ here) ∙ on_or_one (item used k) q.0 c
          (q.1 c l ∙ eq-eqb (bit_and c (item gs k)) (bit_and c (item gs k)) refl)
      has k y a b t (no ne) = let q = m.done k a in ap₂ on q.2 (there y ne) ∙ in_l (item used k) q.0 (item codes y) (u.has k y a b (subst (λ (z : ℕ). z < 64) (there y ne) t))

  pub valued_more : (ms gb : List ℕ) (all j kn : ℕ) (used r : List ℕ) → c < 64
      → ((gs : List ℕ) → Blocks gs gb 3 → Marked gs used c 3 r) → Valued ms gb all j kn codes v used
      → Valued ms gb all j kn (slice_set codes x c) v r
  valued_more ms gb all j kn used r l m w = record {
    gs = w.gs;
    sh = w.sh;
    over = w.over;
    blocks = w.blocks;
    groups = w.groups;
    alike = w.alike;
    alone = w.alone;
    values = used_more w.gs used r l (m w.gs w.blocks) w.values;
  }

  -- c has the known digit
  pub knows_more : (kn val : ℕ) (ps : List ℕ) (j : ℕ) → (on kn x ≡ true → on c 0 ≡ on val x) → Knows kn val ps codes v j → Knows kn val ps (slice_set codes x c) v j
  knows_more kn val ps j e k = record { public = k.public; given = λ y b t l. go y b t l (ℕ_discrete y x) }
    where
      go : (y : ℕ) → y < v → on kn y ≡ true → item (slice_set codes x c) y < 64 → Dec (y ≡ x) → on (item (slice_set codes x c) y) 0 ≡ on val y
      go y b t l (yes q) = ap (λ (n : ℕ). on n 0) (ap (item (slice_set codes x c)) q ∙ here) ∙ e (ap (on kn) (sym q) ∙ t) ∙ ap (on val) (sym q)
      go y b t l (no ne) = ap (λ (n : ℕ). on n 0) (there y ne) ∙ k.given y b t (subst (λ (z : ℕ). z < 64) (there y ne) l)

  -- a solution with the new code has the old ones
  pub agrees_less : (g : ℕ → ℕ) → 64 ≤ item codes x → Agrees (slice_set codes x c) v g → Agrees codes v g
  agrees_less g u a y b t = go (ℕ_discrete y x)
    where
      go : Dec (y ≡ x) → g y ≡ item codes y
      go (yes e) = absurd (let z = subst (λ (z : ℕ). item codes z < 64) e t in omega arith)
      go (no ne) = a y b (subst (λ (z : ℕ). z < 64) (sym (there y ne)) t) ∙ there y ne

  pub agrees_more : (g : ℕ → ℕ) → g x ≡ c → Agrees codes v g → Agrees (slice_set codes x c) v g
  agrees_more g q a y b t = go (ℕ_discrete y x)
    where
      go : Dec (y ≡ x) → g y ≡ item (slice_set codes x c) y
      go (yes e) = ap g e ∙ q ∙ sym (ap (item (slice_set codes x c)) e ∙ here)
      go (no ne) = a y b (subst (λ (z : ℕ). z < 64) (there y ne) t) ∙ sym (there y ne)
