-- What classes need, found vertex by vertex, and the sums of it for each part, found class by class. What a class holds it
-- needs: the solution has these blocks too. Assumes nothing.
use Rattle.std.specs.Prelude.{◌≡◌, refl, Bool, true, false, List, ◌⊎◌, ℕ, ◌+◌, ◌-◌, ◌*◌, ◌^◌, ◌≤◌, ◌<◌, eqb, length, set}
use Rattle.std.proofs.Common.{sym, ap, ap₂, ◌∙◌, subst, inl, inr, ⊎_elim, arith, add-one, length-set, get_or-set_same, get_or-set_other, eq-eqb, ne_eqb, eqb-true}
use Rattle.std.proofs.Math.Decide.{ℕ_discrete}
use Rattle.std.specs.Int.Bits.{bit_and}
use Rattle.bits.specs.Logic.{andb, orb, pick}
use Rattle.bits.specs.Digit.{on}
use Rattle.bits.specs.DigitLaws.{on_and, on-ones, on_zero}
use Rattle.bits.specs.LogicLaws.{never_both}
use Rattle.bits.specs.Count.{count, sum}
use Rattle.cells.specs.Sets.{With}
use Rattle.problem.specs.Problem.{label_at, part_at, item}
use Rattle.holding.specs.Wants.{New, Near, Wanted, need, share, Totals, Tight, TightBelow}

-- ======== the parts without a place
pub tight_start : (ts : List ℕ) (spot : ℕ) → TightBelow ts spot 0 0
tight_start ts spot = record { all = λ p e. absurd (never_both e (on_zero p)) }

pub tight_same : (ts : List ℕ) (spot n r r' : ℕ) → r' ≡ r → TightBelow ts spot n r → TightBelow ts spot (n + 1) r'
tight_same ts spot n r r' e s = record { all = λ p t. let a = s.all p (ap (λ (z : ℕ). on z p) (sym e) ∙ t) in ((let z = a.0 in omega arith), a.1) }

pub tight_more : (ts : List ℕ) (spot n r r' w : ℕ) → item ts n ≡ spot → With r n w → r' ≡ w → TightBelow ts spot n r → TightBelow ts spot (n + 1) r'
tight_more ts spot n r r' w q is e s = record { all = λ p t. go p (on r p) refl (ap (λ (z : ℕ). on z p) (sym e) ∙ t) }
  where
    go : (p : ℕ) (b : Bool) → on r p ≡ b → on w p ≡ true → (p < n + 1) × (item ts p ≡ spot)
    go p true f t = let a = s.all p f in ((let z = a.0 in omega arith), a.1)
    go p false f t = let i : p ≡ n = eqb-true p n (sym (ap (λ (b : Bool). orb b (eqb p n)) f) ∙ sym (is p) ∙ t) in (omega arith, ap (item ts) i ∙ q)

pub tight_end : (cl wants base : List ℕ) (o spot : ℕ) (ts : List ℕ) (tight : ℕ) → Totals cl wants base o 32 ts → TightBelow ts spot 32 tight → Tight cl wants base o spot tight
tight_end cl wants base o spot ts tight t s = record { full = λ p h e. sym (t.each p h) ∙ (s.all p e).1 }

-- ======== the scan of totals
pub totals_start : (cl owns base : List ℕ) (o : ℕ) (t : List ℕ) → length t ≡ 32 → ((p : ℕ) → p < 32 → item t p ≡ 0) → Totals cl owns base o 0 t
unfolding sum
totals_start cl owns base o t e z = record { long = e; each = λ p h. z p h; low = λ p h. let a = z p h in omega arith }

pub totals_more : (cl owns base : List ℕ) (o n : ℕ) (t : List ℕ) (q x : ℕ) → q ≡ part_at cl o n → q < 32 → x ≡ need owns base o n → x ≤ 255 → Totals cl owns base o n t
    → Totals cl owns base o (n + 1) (set t q (item t q + x))
unfolding sum
totals_more cl owns base o n t q x a b c d s = record {
  long = length-set t q (item t q + x) ∙ s.long;
  each = λ p h. go p h (ℕ_discrete p q) ∙ sym (ap (sum (share cl owns base o p)) (add-one n));
  low = λ p h. lows p h (ℕ_discrete p q);
}
  where
    here : item (set t q (item t q + x)) q ≡ item t q + x
    here = get_or-set_same t q (item t q + x) 0 (let z = s.long in omega arith)

    other : (p : ℕ) → (p ≡ q → ⊥) → item (set t q (item t q + x)) p ≡ item t p
    other p ne = get_or-set_other t q p (item t q + x) 0 ne

    go : (p : ℕ) → p < 32 → Dec (p ≡ q) → item (set t q (item t q + x)) p ≡ sum (share cl owns base o p) n + share cl owns base o p n
    go p h (yes e) =
        let f : item (set t q (item t q + x)) p ≡ item t q + x = ap (item (set t q (item t q + x))) e ∙ here in
        let k : item t q ≡ sum (share cl owns base o p) n = ap (item t) (sym e) ∙ s.each p h in
        let w : share cl owns base o p n ≡ x = ap (λ (b : Bool). pick b (need owns base o n) 0) (eq-eqb (part_at cl o n) p (sym a ∙ sym e)) ∙ sym c in
        omega arith
    go p h (no e) =
        let f = other p e in
        let k = s.each p h in
        let w : share cl owns base o p n ≡ 0 = ap (λ (b : Bool). pick b (need owns base o n) 0) (ne_eqb (part_at cl o n) p (λ i. e (sym i ∙ sym a))) in
        omega arith

    lows : (p : ℕ) → p < 32 → Dec (p ≡ q) → item (set t q (item t q + x)) p ≤ (n + 1) * 255
    lows p h (yes e) = let f : item (set t q (item t q + x)) p ≡ item t q + x = ap (item (set t q (item t q + x))) e ∙ here in let k = s.low q b in omega arith
    lows p h (no e) = let f = other p e in let k = s.low p h in omega arith

-- ======== the scan of what is wanted
-- a class wants what it holds, or more
pub wanted_held : (cl : List ℕ) (o mask y : ℕ) (dom own owns wants meet : List ℕ) → Wanted cl o mask y dom own owns wants meet → (l : ℕ) → l < 32 → item owns l ≤ item wants l
wanted_held cl o mask y dom own owns wants meet s l h = go (s.each l h)
  where
    go : (item wants l ≡ item owns l) ⊎ (New cl o y dom own l × ((item wants l ≡ item owns l + 1) ⊎ ((item wants l ≡ item owns l + 2) × (item meet l ≡ 0)))) → item owns l ≤ item wants l
    go (inl e) = omega arith
    go (inr (n, inl e)) = omega arith
    go (inr (n, inr e)) = let z = e.0 in omega arith

module _ (cl : List ℕ) (o mask : ℕ) (dom own owns : List ℕ) where
  -- what is said of a class when y vertices are seen
  abbrev Each : ℕ → ℕ → ℕ → ℕ → Type 0
  Each y l w m = (w ≡ item owns l) ⊎ (New cl o y dom own l × ((w ≡ item owns l + 1) ⊎ ((w ≡ item owns l + 2) × (m ≡ 0))))

  up_one : (y l w m : ℕ) → Each y l w m → Each (y + 1) l w m
  up_one y l w m = ⊎_elim inl (λ r. inr ((r.0.0, (let z = r.0.1 in omega arith), r.0.2, r.0.3), r.1))

  pub wanted_start : (wants meet : List ℕ) → wants ≡ owns → length owns ≡ 32 → length meet ≡ 32 → ((l : ℕ) → l < 32 → item meet l ≡ 2 ^ 64 - 1) → Wanted cl o mask 0 dom own owns wants meet
  wanted_start wants meet w e f a = record {
    long = ap length w ∙ e;
    meet_long = f;
    each = λ l h. inl (ap (λ (z : List ℕ). item z l) w);
    meets = λ l k h i q. ap (λ (z : ℕ). on z k) (a l h) ∙ on-ones 64 k i;
  }

  pub wanted_same : (y : ℕ) (wants meet wants' meet' : List ℕ) → wants' ≡ wants → meet' ≡ meet → Wanted cl o mask y dom own owns wants meet → Wanted cl o mask (y + 1) dom own owns wants' meet'
  wanted_same y wants meet wants' meet' a b s = subst (λ (z : List ℕ). Wanted cl o mask (y + 1) dom own owns z meet') (sym a) (subst (Wanted cl o mask (y + 1) dom own owns wants) (sym b) (record {
    long = s.long;
    meet_long = s.meet_long;
    each = λ l h. up_one y l (item wants l) (item meet l) (s.each l h);
    meets = λ l k h i q. s.meets l k h i (λ x b. q x (omega arith));
  }))

  -- y's class q can take none of its blocks at y; t has the codes of the blocks that y can take
  pub wanted_more : (y q t n : ℕ) (wants meet wants' meet' : List ℕ) → q ≡ label_at cl o y → q < 32
      → bit_and (item dom y) (item own q) ≡ 0 → ((k : ℕ) → k < 64 → Near mask (item dom y) k → on t k ≡ true)
      → (bit_and (item meet q) t ≡ 0 → n ≡ item owns q + 2) × ((bit_and (item meet q) t ≡ 0 → ⊥) → n ≡ item owns q + 1)
      → meet' ≡ set meet q (bit_and (item meet q) t) → wants' ≡ set wants q n
      → Wanted cl o mask y dom own owns wants meet → Wanted cl o mask (y + 1) dom own owns wants' meet'
  wanted_more y q t n wants meet wants' meet' e h z near count a b s = subst (λ (z : List ℕ). Wanted cl o mask (y + 1) dom own owns z meet') (sym b)
      (subst (Wanted cl o mask (y + 1) dom own owns W) (sym a) (record {
        long = length-set wants q n ∙ s.long;
        meet_long = length-set meet q m ∙ s.meet_long;
        each = λ l b. each l b (ℕ_discrete l q);
        meets = λ l k b i c. meets l k b i c (ℕ_discrete l q);
      }))
    where
      W : List ℕ
      W = set wants q n

      m : ℕ
      m = bit_and (item meet q) t

      M : List ℕ
      M = set meet q m

      w-here : item W q ≡ n
      w-here = get_or-set_same wants q n 0 (let z = s.long in omega arith)

      m-here : item M q ≡ m
      m-here = get_or-set_same meet q m 0 (let z = s.meet_long in omega arith)

      number : Dec (m ≡ 0) → (item W q ≡ item owns q + 1) ⊎ ((item W q ≡ item owns q + 2) × (item M q ≡ 0))
      number (yes i) = inr (w-here ∙ count.0 i, m-here ∙ i)
      number (no i) = inl (w-here ∙ count.1 i)

      each : (l : ℕ) → l < 32 → Dec (l ≡ q) → Each (y + 1) l (item W l) (item M l)
      each l b (yes p) = subst (λ (l : ℕ). Each (y + 1) l (item W l) (item M l)) (sym p) (inr ((y, (omega arith), sym e, z), number (ℕ_discrete m 0)))
      each l b (no ne) = subst (λ (w : ℕ). Each (y + 1) l w (item M l)) (sym (get_or-set_other wants q l n 0 ne))
          (subst (λ (c : ℕ). Each (y + 1) l (item wants l) c) (sym (get_or-set_other meet q l m 0 ne)) (up_one y l (item wants l) (item meet l) (s.each l b)))

      All-near : ℕ → ℕ → Type 0
      All-near l k = (x : ℕ) → x < y + 1 → label_at cl o x ≡ l → bit_and (item dom x) (item own l) ≡ 0 → Near mask (item dom x) k

      meets : (l k : ℕ) → l < 32 → k < 64 → All-near l k → Dec (l ≡ q) → on (item M l) k ≡ true
      meets l k b i c (no ne) = ap (λ (n : ℕ). on n k) (get_or-set_other meet q l m 0 ne) ∙ s.meets l k b i (λ x d. c x (omega arith))
      meets l k b i c (yes p) = subst (λ (l : ℕ). on (item M l) k ≡ true) (sym p)
          (ap (λ (n : ℕ). on n k) m-here ∙ on_and (item meet q) t k ∙ ap₂ andb (s.meets q k h i (λ x d r u. at-q x (omega arith) r u)) (near k i (at-q y (omega arith) (sym e) z)))
        where
          at-q : (x : ℕ) → x < y + 1 → label_at cl o x ≡ q → bit_and (item dom x) (item own q) ≡ 0 → Near mask (item dom x) k
          at-q x d r u = c x d (r ∙ sym p) (subst (λ (l : ℕ). bit_and (item dom x) (item own l) ≡ 0) (sym p) u)
