-- The rule of reach: where a block has room for one class of each part only, and the vertices without codes of the classes that
-- lack blocks can take fewer new blocks than are lacking, the search ends. In a solution the blocks that two classes of a part
-- lack are different ones, all outside the blocks that these hold, and each is taken by such a vertex; so the solution would
-- show as many blocks as are lacking. The blocks that a set meets are counted by taking away one block after another. Assumes
-- nothing.
use Rattle.std.specs.Prelude.{◌≡◌, refl, Bool, true, false, not, eqb, length, get_or}
use Rattle.std.proofs.Common.{sym, ap, ap₂, ◌∙◌, subst, inl, inr, ⊎_elim, add-one, length-append, eq-eqb, ne_eqb, eqb-true}
use mathlib.Core.List.{List, [], ◌∷◌, ◌++◌}
use Prim.Native.Nat.{ℕ, zero, suc, ◌+◌, ◌-◌, ◌*◌, ◌≤◌, ◌<◌}
use Rattle.std.proofs.Math.Decide.{ℕ_discrete, dec_lt}
use native.Mathlib.Omega.{arith}
use Rattle.std.specs.Int.Bits.{bit_and, bit_or}
use Rattle.bits.specs.Logic.{pick}
use Rattle.bits.specs.Digit.{on}
use Rattle.bits.specs.DigitLaws.{on_zero}
use Rattle.bits.specs.LogicLaws.{never_both}
use Rattle.bits.specs.Count.{sum}
use Rattle.bits.specs.CountLaws.{less_or_equal}
use Rattle.holding.specs.NarrowLaws.{settled_none}
use Rattle.holding.specs.BlocksLaws.{on_either, minus_keeps}
use Rattle.cells.specs.ListLaws.{all_append, all_both, all_map, all_part, pairs_append, pairs_part, part-has, part_length}
use Rattle.cells.specs.Lists.{All, Pairs, part}
use Rattle.cells.specs.Sets.{Without}
use Rattle.cells.specs.Shared.{block}
use Rattle.problem.specs.Problem.{no_code, label_at, part_at, part_of, item, Block, Labels, Solves, Extends, Hopeless}
use Rattle.holding.specs.Blocks.{Minus}
use Rattle.holding.specs.Held.{Held}
use Rattle.holding.specs.Wants.{Wanted, Tight, need, share, needed}
use Rattle.holding.specs.RulesLaws.{need_group}
use Rattle.holding.specs.Reach.{lack, Lacks, Reached, Apart, Fewer, Left, Lost, NoRoom}

-- ======== lists of vertices in different blocks
module _ (key : ℕ → ℕ) where
  abbrev Different : ℕ → ℕ → Type 0
  Different x y = key x ≡ key y → ⊥

  one_in : (b : ℕ) (xs : List ℕ) → All (λ (x : ℕ). eqb (key x) b ≡ true) xs → Pairs Different xs → length xs ≤ 1
  one_in b [] a p = omega arith
  one_in b (x ∷ []) a p = omega arith
  one_in b (x ∷ (y ∷ xs)) a p = absurd (p.0.0 (eqb-true (key x) b a.0 ∙ sym (eqb-true (key y) b a.1.0)))

  -- those not in the block b
  abbrev outside : ℕ → List ℕ → List ℕ
  outside b xs = part (λ (x : ℕ). not (eqb (key x) b)) xs

  all-outside : (P : ℕ → Type 0) (b : ℕ) (xs : List ℕ) → All P xs → All (λ (x : ℕ). P x × (key x ≡ b → ⊥)) (outside b xs)
  all-outside P b xs a = all_map (λ (x : ℕ). P x × (not (eqb (key x) b) ≡ true)) (λ (x : ℕ). P x × (key x ≡ b → ⊥)) (outside b xs)
      (λ x q. (q.0, λ e. never_both q.1 (ap not (eq-eqb (key x) b e))))
      (all_both P (λ (x : ℕ). not (eqb (key x) b) ≡ true) (outside b xs) (all_part P (λ (x : ℕ). not (eqb (key x) b)) xs a) (part-has (λ (x : ℕ). not (eqb (key x) b)) xs))

  -- they are all but one
  outside_long : (b : ℕ) (xs : List ℕ) → Pairs Different xs → length xs ≤ length (outside b xs) + 1
  outside_long b xs p =
      let e = part_length (λ (x : ℕ). eqb (key x) b) xs in
      let z = one_in b (part (λ (x : ℕ). eqb (key x) b) xs) (part-has (λ (x : ℕ). eqb (key x) b) xs) (pairs_part Different (λ (x : ℕ). eqb (key x) b) xs p) in
      omega arith

  -- those in other blocks than the vertices of ws, at most as many fewer
  strip : (P : ℕ → Type 0) (ws xs : List ℕ) → All P xs → Pairs Different xs
      → (ys : List ℕ) × All (λ (y : ℕ). P y × All (Different y) ws) ys × Pairs Different ys × (length xs ≤ length ys + length ws)
  strip P [] xs a p = (xs, all_map P (λ (y : ℕ). P y × Unit {0}) xs (λ x q. (q, tt)) a, p, omega arith)
  strip P (w ∷ ws) xs a p = go (strip P ws xs a p)
    where
      Q : ℕ → Type 0
      Q y = P y × All (Different y) ws

      go : ((ys : List ℕ) × All Q ys × Pairs Different ys × (length xs ≤ length ys + length ws))
          → (ys : List ℕ) × All (λ (y : ℕ). P y × All (Different y) (w ∷ ws)) ys × Pairs Different ys × (length xs ≤ length ys + suc (length ws))
      go r = (
        outside (key w) r.0,
        all_map (λ (y : ℕ). Q y × (key y ≡ key w → ⊥)) (λ (y : ℕ). P y × All (Different y) (w ∷ ws)) (outside (key w) r.0) (λ y q. (q.0.0, (q.1, q.0.1)))
            (all-outside Q (key w) r.0 r.1),
        pairs_part Different (λ (y : ℕ). not (eqb (key y) (key w))) r.0 r.2,
        (let z = r.3 in let n = outside_long (key w) r.0 r.2 in omega arith),
      )

-- ======== the scan of what is lacking
-- a sum, one more
sum_next : (f : ℕ → ℕ) (l t x : ℕ) → x ≡ f l → t ≡ sum f l → t + x ≡ sum f (l + 1)
unfolding sum
sum_next f l t x e h = ap₂ (λ (a b : ℕ). a + b) h e ∙ sym (ap (sum f) (add-one l))

module _ (cl owns wants base : List ℕ) (o p : ℕ) where
  pub lacks_start : Lacks cl owns wants base o p 0 0 0
  unfolding sum
  lacks_start = record { whole = refl; lacking = refl; low = omega arith; few = omega arith }

  -- class n is of part q and holds or needs x
  pub lacks_more : (n q x total news total' news' t s : ℕ) → q ≡ part_at cl o n → x ≡ need wants base o n
      → t ≡ pick (eqb q p) x 0 → t ≤ 255 → s ≡ pick (eqb q p) (x - get_or owns n 0) 0 → s ≤ 255 → total' ≡ total + t → news' ≡ news + s
      → Lacks cl owns wants base o p n total news → Lacks cl owns wants base o p (n + 1) total' news'
  lacks_more n q x total news total' news' t s a b c k d l e f h = record {
    whole = e ∙ sum_next (share cl wants base o p) n total t (c ∙ same (λ (z : ℕ). z)) h.whole;
    lacking = f ∙ sum_next (lack cl owns wants base o p) n news s (d ∙ same (λ (z : ℕ). z - get_or owns n 0)) h.lacking;
    low = (let z = h.low in omega arith);
    few = (let z = h.few in omega arith);
  }
    where
      same : (g : ℕ → ℕ) → pick (eqb q p) (g x) 0 ≡ pick (eqb (part_at cl o n) p) (g (need wants base o n)) 0
      same g = ap (λ (z : ℕ). pick (eqb z p) (g x) 0) a ∙ ap (λ (z : ℕ). pick (eqb (part_at cl o n) p) (g z) 0) b

-- the part p alone is in tight where it holds or needs spot
pub tight_one : (cl owns wants base : List ℕ) (o p total news spot tight : ℕ) → Lacks cl owns wants base o p 32 total news
    → ((q : ℕ) → on tight q ≡ true → (q ≡ p) × (total ≡ spot)) → Tight cl wants base o spot tight
tight_one cl owns wants base o p total news spot tight s f = record { full = λ q h e. let a = f q e in ap (needed cl wants base o) a.0 ∙ sym s.whole ∙ a.1 }

-- ======== the scan of what can be reached
module _ (cl base owns wants codes dom own : List ℕ) (o p : ℕ) where
  pub reached_start : Reached cl base owns wants codes dom own o p 0 0
  reached_start = record { can = λ x k h. absurd (omega arith) }

  -- y has a code, or its class is of another part or lacks nothing
  pub reached_same : (y un un' : ℕ) → (no_code ≤ item codes y → part_of cl o y ≡ p → need wants base o (label_at cl o y) ≤ get_or owns (label_at cl o y) 0) → un' ≡ un
      → Reached cl base owns wants codes dom own o p y un → Reached cl base owns wants codes dom own o p (y + 1) un'
  reached_same y un un' ne e s = record {
    can = λ x k h l u n d f g. ap (λ (z : ℕ). on z k) e ∙ ⊎_elim (λ a. s.can x k a l u n d f g) (λ a. absurd (none x a u n d)) (less_or_equal x y (omega arith));
  }
    where
      none : (x : ℕ) → x ≡ y → 64 ≤ item codes x → part_of cl o x ≡ p → get_or owns (label_at cl o x) 0 < need wants base o (label_at cl o x) → ⊥
      none x a u n d = let z = subst (λ (x : ℕ). 64 ≤ item codes x → part_of cl o x ≡ p → need wants base o (label_at cl o x) ≤ get_or owns (label_at cl o x) 0) (sym a) ne u n in omega arith

  pub reached_more : (y l m un un' : ℕ) → l ≡ label_at cl o y → Minus (item dom y) (item own l) m → un' ≡ bit_or un m
      → Reached cl base owns wants codes dom own o p y un → Reached cl base owns wants codes dom own o p (y + 1) un'
  reached_more y l m un un' q is e s = record {
    can = λ x k h b u n i d f. ap (λ (z : ℕ). on z k) e ∙ on_either un m k (⊎_elim (λ a. inl (s.can x k a b u n i d f))
        (λ a. inr (minus_keeps (item dom y) (item own l) m k is b (subst (λ (z : ℕ). on (item dom z) k ≡ true) a d)
        (ap (λ (z : ℕ). on (item own z) k) q ∙ subst (λ (z : ℕ). on (item own (label_at cl o z)) k ≡ false) a f)))
        (less_or_equal x y (omega arith)));
  }

-- ======== the count of blocks
pub left-start : (mask d : ℕ) → Left mask d d 0
left-start mask d = record { left = λ g xs a. (xs, a, omega arith) }

-- the block b of c is taken away
pub left_more : (mask d rest k c b w rest' : ℕ) → Block mask c b → Without rest c w → Minus w b rest' → Left mask d rest k → Left mask d rest' (k + 1)
left_more mask d rest k c b w rest' is without minus s = record { left = λ g xs a. go g xs (s.left g xs a) }
  where
    In : ℕ → (ℕ → ℕ) → ℕ → Type 0
    In r g x = (g x < 64) × (on r (g x) ≡ true)

    key : (ℕ → ℕ) → ℕ → ℕ
    key g x = bit_and (g x) mask

    stays : (x : ℕ) → x < 64 → on rest x ≡ true → (bit_and x mask ≡ bit_and c mask → ⊥) → on rest' x ≡ true
    stays x h e ne = minus_keeps w b rest' x minus h (without.others x h (λ q. ne (ap (λ (n : ℕ). bit_and n mask) q)) ∙ e) (is x h ∙ ne_eqb (bit_and x mask) (bit_and c mask) ne)

    go : (g : ℕ → ℕ) (xs : List ℕ) → ((ys : List ℕ) × Apart mask rest g ys × (length xs ≤ length ys + k)) → (ys : List ℕ) × Apart mask rest' g ys × (length xs ≤ length ys + (k + 1))
    go g xs r = (
      outside (key g) (bit_and c mask) r.0,
      (
        all_map (λ (x : ℕ). In rest g x × (key g x ≡ bit_and c mask → ⊥)) (In rest' g) (outside (key g) (bit_and c mask) r.0) (λ x q. (q.0.0, stays (g x) q.0.0 q.0.1 q.1))
            (all-outside (key g) (In rest g) (bit_and c mask) r.0 r.1.0),
        pairs_part (Different (key g)) (λ (x : ℕ). not (eqb (key g x) (bit_and c mask))) r.0 r.1.1,
      ),
      (let z = r.2 in let n = outside_long (key g) (bit_and c mask) r.0 r.1.1 in omega arith),
    )

pub left_end : (mask d rest k n : ℕ) → rest ≡ 0 → k < n → Left mask d rest k → Fewer mask d n
left_end mask d rest k n z h s = record { fewer = λ g xs a. none g xs (s.left g xs a) }
  where
    none : (g : ℕ → ℕ) (xs : List ℕ) → ((ys : List ℕ) × Apart mask rest g ys × (length xs ≤ length ys + k)) → length xs < n
    none g xs ([], a, l) = omega arith
    none g xs (y ∷ ys, a, l) = absurd (never_both a.0.0.1 (ap (λ (r : ℕ). on r (g y)) z ∙ on_zero (g y)))

-- ======== the rule
module _ (cl base ms caps spots : List ℕ) (v j o : ℕ) (codes dom own owns wants meet : List ℕ) (g : ℕ → ℕ) (h : o < j) (low : (x : ℕ) → x < v → label_at cl o x < 32)
    (s : Held cl codes o (item ms o) v own owns) (want : Wanted cl o (item ms o) v dom own owns wants meet) (f : Solves cl base ms caps spots v j g) (e : Extends codes dom v g) where
  abbrev mask : ℕ
  mask = item ms o

  abbrev key : ℕ → ℕ
  key x = block (item ms) g o x

  abbrev Diff : ℕ → ℕ → Type 0
  Diff x y = key x ≡ key y → ⊥

  -- a vertex of class l outside the blocks that the class holds
  abbrev Out : ℕ → ℕ → Type 0
  Out l x = (x < v) × (label_at cl o x ≡ l) × (on (item own l) (g x) ≡ false)

  -- a class has a block for each that it lacks, outside those that it holds
  new_group : (l : ℕ) → l < 32 → (xs : List ℕ) × All (Out l) xs × Pairs Diff xs × (need wants base o l ≤ length xs + get_or owns l 0)
  new_group l b =
      let r = s.lists l b in
      let t = need_group cl base ms caps spots v j o codes dom own owns wants meet g h low s want f e l b in
      let q = strip key (λ (x : ℕ). (x < v) × (label_at cl o x ≡ l)) r.0 t.0 t.1 t.2 in (
        q.0,
        all_map (λ (x : ℕ). ((x < v) × (label_at cl o x ≡ l)) × All (Diff x) r.0) (Out l) q.0
            (λ x a. (a.0.0, a.0.1, r.4 (g x) (f.small x a.0.0) (held-apart x r.0 r.1 a.1))) q.1,
        q.2,
        (let z = q.3 in let y = t.3 in let w = r.3 in omega arith),
      )
    where
      Fact : ℕ → Type 0
      Fact w = (w < v) × (item codes w < 64) × (label_at cl o w ≡ l)

      held-apart : (x : ℕ) (ws : List ℕ) → All Fact ws → All (Diff x) ws → All (λ (w : ℕ). bit_and (item codes w) mask ≡ bit_and (g x) mask → ⊥) ws
      held-apart x ws a d = all_map (λ (w : ℕ). Fact w × Diff x w) (λ (w : ℕ). bit_and (item codes w) mask ≡ bit_and (g x) mask → ⊥) ws
          (λ w q i. q.1 (sym i ∙ ap (λ (z : ℕ). bit_and z mask) (sym (e.coded w q.0.0 q.0.1))))
          (all_both Fact (Diff x) ws a d)

  module _ (p : ℕ) (single : item caps o ≤ 1) where
    -- a vertex of part p with a class below n that lacks blocks, in none that the class holds
    abbrev Fresh : ℕ → ℕ → Type 0
    Fresh n x = (x < v) × (label_at cl o x < n) × (part_of cl o x ≡ p) × (get_or owns (label_at cl o x) 0 < need wants base o (label_at cl o x)) × (on (item own (label_at cl o x)) (g x) ≡ false)

    abbrev Many : ℕ → Type 0
    Many n = (xs : List ℕ) × All (Fresh n) xs × Pairs Diff xs × (sum (lack cl owns wants base o p) n ≤ length xs)

    -- two classes of one part share no block
    no_share : (x y : ℕ) → x < v → y < v → part_of cl o x ≡ p → part_of cl o y ≡ p → (label_at cl o x ≡ label_at cl o y → ⊥) → Diff x y
    no_share x y a b c d ne k = let z = f.fits.crowd o p (key y) (x ∷ (y ∷ [])) h ((a, c, k), ((b, d, refl), tt)) ((ne, tt), (tt, tt)) in omega arith

    many : (n : ℕ) → n ≤ 32 → Many n
    unfolding sum
    many zero b = ([], tt, tt, omega arith)
    many (suc n) b = go (many n (omega arith)) (ℕ_discrete (part_at cl o n) p) (dec_lt (get_or owns n 0) (need wants base o n))
      where
        up : (xs : List ℕ) → All (Fresh n) xs → All (Fresh (suc n)) xs
        up xs a = all_map (Fresh n) (Fresh (suc n)) xs (λ x q. (q.0, (let z = q.1 in omega arith), q.2, q.3, q.4)) a

        Sum : ℕ
        Sum = sum (lack cl owns wants base o p) n

        Next : Type 0
        Next = (xs : List ℕ) × All (Fresh (suc n)) xs × Pairs Diff xs × (Sum + lack cl owns wants base o p n ≤ length xs)

        same : Many n → lack cl owns wants base o p n ≡ 0 → Next
        same r z = (r.0, up r.0 r.1, r.2, (let a = r.3 in omega arith))

        go : Many n → Dec (part_at cl o n ≡ p) → Dec (get_or owns n 0 < need wants base o n) → Next
        go r (no q) d = same r (ap (λ (c : Bool). pick c (need wants base o n - get_or owns n 0) 0) (ne_eqb (part_at cl o n) p q))
        go r (yes q) (no d) = same r (ap (λ (c : Bool). pick c (need wants base o n - get_or owns n 0) 0) (eq-eqb (part_at cl o n) p q) ∙ omega arith)
        go r (yes q) (yes d) =
            let t = new_group n (omega arith) in
            let i : lack cl owns wants base o p n ≡ need wants base o n - get_or owns n 0 = ap (λ (c : Bool). pick c (need wants base o n - get_or owns n 0) 0) (eq-eqb (part_at cl o n) p q) in (
              r.0 ++ t.0,
              all_append (Fresh (suc n)) r.0 t.0 (up r.0 r.1)
                  (all_map (Out n) (Fresh (suc n)) t.0 (λ x a. (
                    a.0,
                    (let z = a.1 in omega arith),
                    ap (part_at cl o) a.1 ∙ q,
                    subst (λ (z : ℕ). get_or owns z 0 < need wants base o z) (sym a.1) d,
                    subst (λ (z : ℕ). on (item own z) (g x) ≡ false) (sym a.1) a.2,
                  )) t.1),
              pairs_append Diff r.0 t.0 r.2 t.2
                  (all_map (Fresh n) (λ (x : ℕ). All (Diff x) t.0) r.0 (λ x a. all_map (Out n) (Diff x) t.0
                  (λ y c. no_share x y a.0 c.0 a.2 (ap (part_at cl o) c.1 ∙ q) (λ k. let z = a.1 in let u = c.1 in omega arith)) t.1) r.1),
              (let a = r.3 in let c = t.3 in simp length-append (omega arith)),
            )

    -- the vertices of a part can take too few blocks
    reach_none : (total news un : ℕ) → Lacks cl owns wants base o p 32 total news → Reached cl base owns wants codes dom own o p v un → Fewer mask un news → ⊥
    reach_none total news un lacks reached fewer =
        let r = many 32 (omega arith) in
        let n = fewer.fewer g r.0 (
          all_map (Fresh 32) (λ (x : ℕ). (g x < 64) × (on un (g x) ≡ true)) r.0
              (λ x a. (f.small x a.0, reached.can x (g x) a.0 (f.small x a.0) (uncoded x a) a.2 a.3 (e.within x a.0) a.4)) r.1,
          r.2,
        ) in
        let z = r.3 in let y = lacks.lacking in omega arith
      where
        uncoded : (x : ℕ) → Fresh 32 x → 64 ≤ item codes x
        uncoded x a = elim (dec_lt (item codes x) 64) as (λ _. 64 ≤ item codes x) [
          | yes k ↦ absurd (never_both (s.inside x (g x) a.0 k (f.small x a.0) (ap (λ (z : ℕ). bit_and z mask) (e.coded x a.0 k))) a.4)
          | no k ↦ omega arith
        ]

module _ (cl base ms caps spots : List ℕ) (v j o : ℕ) (codes dom own owns : List ℕ) (labels : Labels cl) (few : v ≤ 32) (outs : j ≤ 8) (h : o < j) (s : Held cl codes o (item ms o) v own owns) where
  settled_reach : (wants meet : List ℕ) (p total news : ℕ) → Wanted cl o (item ms o) v dom own owns wants meet → item caps o ≤ 1
      → Lacks cl owns wants base o p 32 total news → Lost cl base owns wants codes dom own o p (item ms o) v news
      → (kn val : ℕ) → Hopeless cl base ms caps spots v j kn val codes dom
  settled_reach wants meet p total news want single lacks lost kn val = record {
    none = λ g f e d. reach_none cl base ms caps spots v j o codes dom own owns wants meet g h (λ x l. labels.low (o * 32 + x) (omega arith)) s want f e p single total news lost.0
        lacks lost.1 lost.2;
  }

  pub settled_no_room : (wants meet bs : List ℕ) → Wanted cl o (item ms o) v dom own owns wants meet → ((c : ℕ) → c < 64 → Block (item ms o) c (get_or bs (o * 64 + c) 0))
      → NoRoom cl base owns wants codes dom own bs o v (item caps o) (item spots o)
      → (kn val : ℕ) → Hopeless cl base ms caps spots v j kn val codes dom
  settled_no_room wants meet bs want b (p, total, news, lacks, why) = ⊎_elim
      (λ over. settled_none cl base ms caps spots v j o codes dom own owns labels few outs h s wants meet p want (let e = lacks.whole in omega arith))
      (λ lost. settled_reach wants meet p total news want lost.0 lacks (lost.1 (item ms o) b))
      why
