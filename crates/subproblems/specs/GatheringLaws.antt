-- Why a subproblem may be asked in another form. Open cells in another order: codes are moved alike, and tell apart what they
-- told apart; cell 0 stays where digits of it may be known. The outputs asked about, gathered without the others: codes answer
-- the subproblem exactly where they tell apart what the given tables leave of these outputs. Assumes nothing.
use Rattle.std.specs.Prelude.{◌≡◌, refl, Bool, true, false, List, ℕ, ◌+◌, ◌*◌, ◌/◌, ◌%◌, ◌^◌, ◌<◌, length, set}
use Rattle.std.proofs.Common.{sym, ap, ◌∙◌, subst, ⊎_elim, arith, length-set, get_or-set_same, get_or-set_other, eq-eqb, ne_eqb}
use Rattle.std.proofs.Math.Decide.{ℕ_discrete, dec_lt}
use Rattle.std.specs.Int.Bits.{bit_and, bit_or}
use Rattle.std.proofs.lemmas.Nat.{and_le_r}
use Rattle.bits.specs.Logic.{andb, orb}
use Rattle.bits.specs.Digit.{on}
use Rattle.bits.specs.DigitLaws.{on_and, on_zero, on-ones, equal_digits}
use Rattle.bits.specs.LogicLaws.{never_both, and_true, or_true, or_false}
use Rattle.bits.specs.CountLaws.{less_or_equal}
use Rattle.bits.specs.FilledLaws.{each_more}
use Rattle.cells.specs.CodesLaws.{on_digits, digits_none}
use Rattle.cells.specs.SetsLaws.{with_power}
use Rattle.cells.specs.PigeonLaws.{agree_and, and_agree}
use Rattle.cells.specs.Core.{Within}
use Rattle.cells.specs.Sets.{With}
use Rattle.cells.specs.Codes.{Coded, digits_of}
use Rattle.problem.specs.Problem.{label_at, part_at, item, Fixed}
use Rattle.readers.specs.Masks.{Decided}
use Rattle.sorting.specs.Order.{Order}
use Rattle.relation.specs.Relation.{Left, Leaves}
use Rattle.relation.specs.RelationLaws.{coded_left, left_coded}
use Rattle.subproblems.specs.Subproblem.{open_of, given_of, Answers, Settled, Same}
use Rattle.subproblems.specs.Gathering.{Moved, Turned, Gathered}

-- ======== open cells in another order
pub moved-start : (f : ℕ) (perm : List ℕ) → Moved f perm 0 0
moved-start f perm = record { digits = λ j h. absurd (omega arith); rest = λ j h. on_zero j }

pub moved_off : (f : ℕ) (perm : List ℕ) (i r r' : ℕ) → false ≡ on f (item perm i) → r' ≡ r → Moved f perm i r → Moved f perm (i + 1) r'
moved_off f perm i r r' e q s = subst (Moved f perm (i + 1)) (sym q) record {
  digits = λ j h. ⊎_elim (s.digits j) (λ p. subst (λ (z : ℕ). on r z ≡ on f (item perm z)) (sym p) (s.rest i (omega arith) ∙ e)) (less_or_equal j i (omega arith));
  rest = λ j h. s.rest j (omega arith);
}

pub moved_on : (f : ℕ) (perm : List ℕ) (i r p r' : ℕ) → true ≡ on f (item perm i) → p ≡ 2 ^ i → r' ≡ bit_or r p → Moved f perm i r → Moved f perm (i + 1) r'
moved_on f perm i r p r' e pq q s = record {
  digits = λ j h. ⊎_elim
      (λ l. w j ∙ ap (λ (b : Bool). orb (on r j) b) (ne_eqb j i (λ q. omega arith)) ∙ or_false (on r j) ∙ s.digits j l)
      (λ p. subst (λ (z : ℕ). on r' z ≡ on f (item perm z)) (sym p) (w i ∙ ap (λ (b : Bool). orb (on r i) b) (eq-eqb i i refl) ∙ or_true (on r i) ∙ e))
      (less_or_equal j i (omega arith));
  rest = λ j h. w j ∙ ap (λ (b : Bool). orb (on r j) b) (ne_eqb j i (λ q. omega arith)) ∙ or_false (on r j) ∙ s.rest j (omega arith);
}
  where
    w : With r i r'
    w = subst (With r i) (sym (q ∙ ap (bit_or r) pq)) (with_power r i)

pub moved-low : (f : ℕ) (perm : List ℕ) (r : ℕ) → Moved f perm 6 r → r < 64
moved-low f perm r s = low_of (equal_digits (bit_and r 63) r (λ k. on_and r 63 k ∙ go k (dec_lt k 6)))
  where
    low_of : bit_and r 63 ≡ r → r < 64
    low_of e = let h = and_le_r r 63 in omega arith

    go : (k : ℕ) → Dec (k < 6) → andb (on r k) (on 63 k) ≡ on r k
    go k (yes l) = ap (λ (b : Bool). andb (on r k) b) (on-ones 6 k l) ∙ and_true (on r k)
    go k (no l) = ap (λ (b : Bool). andb b (on 63 k)) (s.rest k (omega arith)) ∙ sym (s.rest k (omega arith))

-- ======== the subproblem, output by output
pub turned-start : (asked : ℕ) (rows perm r : List ℕ) → length r ≡ 8 → Turned asked rows perm 0 r
turned-start asked rows perm r e = record { long = e; same-given = λ q h. absurd (omega arith); moved_open = λ q h. absurd (omega arith) }

module _ (asked : ℕ) (rows perm : List ℕ) (o : ℕ) (r : List ℕ) (h : o < 8) (s : Turned asked rows perm o r) where
  pub turned_skip : (r' : List ℕ) → false ≡ on asked o → r' ≡ r → Turned asked rows perm (o + 1) r'
  turned_skip r' e q = subst (Turned asked rows perm (o + 1)) (sym q) record {
    long = s.long;
    same-given = λ q b a. ⊎_elim (λ l. s.same-given q l a) (λ p. absurd (off q p a)) (less_or_equal q o (omega arith));
    moved_open = λ q b a. ⊎_elim (λ l. s.moved_open q l a) (λ p. absurd (off q p a)) (less_or_equal q o (omega arith));
  }
    where
      off : (q : ℕ) → q ≡ o → on asked q ≡ true → ⊥
      off q p a = never_both a (ap (on asked) p ∙ sym e)

  pub turned_more : (f k : ℕ) (r' : List ℕ) → f < 64 → Moved (open_of (item rows o)) perm 6 f → k ≡ given_of (item rows o) * 64 + f → r' ≡ set r o k → Turned asked rows perm (o + 1) r'
  turned_more f k r' low m e q = subst (Turned asked rows perm (o + 1)) (sym q) record {
    long = length-set r o k ∙ s.long;
    same-given = λ q b a. ⊎_elim (λ l. ap given_of (old q l) ∙ s.same-given q l a)
        (λ p. subst (λ (q : ℕ). given_of (item (set r o k) q) ≡ given_of (item rows q)) (sym p) (ap given_of new ∙ given_is)) (less_or_equal q o (omega arith));
    moved_open = λ q b a. ⊎_elim (λ l. subst (λ (z : ℕ). Moved (open_of (item rows q)) perm 6 (open_of z)) (sym (old q l)) (s.moved_open q l a))
        (λ p. subst (λ (q : ℕ). Moved (open_of (item rows q)) perm 6 (open_of (item (set r o k) q))) (sym p)
        (subst (Moved (open_of (item rows o)) perm 6) (sym (ap open_of new ∙ open_is)) m)) (less_or_equal q o (omega arith));
  }
    where
      new : item (set r o k) o ≡ k
      new = get_or-set_same r o k 0 (let z = s.long in omega arith)

      old : (q : ℕ) → q < o → item (set r o k) q ≡ item r q
      old q l = get_or-set_other r o q k 0 (λ p. let z : q ≡ o = p in omega arith)

      given_is : given_of k ≡ given_of (item rows o)
      given_is = let z : k / 64 ≡ given_of (item rows o) = omega arith in z

      open_is : open_of k ≡ f
      open_is = let z : k % 64 ≡ f = omega arith in z

-- what no codes answer in one order of the open cells, none answer in another
pub same_of : (asked : ℕ) (known : Bool) (rows perm r : List ℕ) → Order perm 6 → (known ≡ true → item perm 0 ≡ 0) → Turned asked rows perm 8 r → Same asked known rows r
same_of asked known rows perm r order stays s = record {
  barred = λ cl given kn val v free b. record {
    none = λ f z w. b.none (turned f) (ap (λ (x : ℕ). digits_of (λ (i : ℕ). on x (item perm i)) 6) z ∙ digits_none (λ (i : ℕ). on 0 (item perm i)) 6 (λ i. on_zero (item perm i)))
        (record {
          tells = λ o x y h a c d l e. w.tells o x y h a c d (subst (λ (g : ℕ). Left cl given g o x y) (s.same-given o h a) l) (agree f o x y h a e);
          fixed = λ x h a. on_digits (λ (i : ℕ). on (f x) (item perm i)) 6 0 (omega arith) ∙ kept kn val f x free (w.fixed x h a) a known refl;
        });
  };
}
  where
    turned : (ℕ → ℕ) → ℕ → ℕ
    turned f x = digits_of (λ (i : ℕ). on (f x) (item perm i)) 6

    back : (f : ℕ → ℕ) (x j i : ℕ) → i < 6 → item perm i ≡ j → on (f x) j ≡ on (turned f x) i
    back f x j i h e = ap (on (f x)) (sym e) ∙ sym (on_digits (λ (i : ℕ). on (f x) (item perm i)) 6 i h)

    agree : (f : ℕ → ℕ) (o x y : ℕ) → o < 8 → on asked o ≡ true → bit_and (turned f x) (open_of (item r o)) ≡ bit_and (turned f y) (open_of (item r o))
        → bit_and (f x) (open_of (item rows o)) ≡ bit_and (f y) (open_of (item rows o))
    agree f o x y h a e = agree_and 6 (open_of (item rows o)) (f x) (f y) (let z : item rows o % 64 < 64 = omega arith in z) (λ j g u.
        let i = order.onto j g in
        back f x j i.0 i.1 i.2
        ∙ and_agree 6 (open_of (item r o)) (turned f x) (turned f y) e i.0 i.1 ((s.moved_open o h a).digits i.0 i.1 ∙ ap (on (open_of (item rows o))) i.2 ∙ u)
        ∙ sym (back f y j i.0 i.1 i.2))

    kept : (kn val : ℕ) (f : ℕ → ℕ) (x : ℕ) → (known ≡ false → kn ≡ 0) → on (f x) 0 ≡ on val x → on kn x ≡ true → (b : Bool) → known ≡ b → on (f x) (item perm 0) ≡ on val x
    kept kn val f x free e a true q = ap (on (f x)) (stays q) ∙ e
    kept kn val f x free e a false q = absurd (never_both a (ap (λ (k : ℕ). on k x) (free q) ∙ on_zero x))

-- ======== the outputs asked about
pub gathered-start : (asked : ℕ) (rows from cells tables : List ℕ) → length from ≡ 8 → length cells ≡ 8 → length tables ≡ 8 → ((i : ℕ) → item from i ≡ 0)
    → Gathered asked rows 0 0 from cells tables
gathered-start asked rows from cells tables a b c z = record {
  from_long = a;
  cells_long = b;
  tables_long = c;
  few = omega arith;
  from_low = λ i h. let e = z i in omega arith;
  within = λ i h. absurd (omega arith);
  all = λ q h. absurd (omega arith);
  reads-cells = λ i h. absurd (omega arith);
  reads_tables = λ i h. absurd (omega arith);
}

module _ (asked : ℕ) (rows : List ℕ) (o n : ℕ) (from cells tables : List ℕ) (h : o < 8) (s : Gathered asked rows o n from cells tables) where
  pub gathered_skip : false ≡ on asked o → Gathered asked rows (o + 1) n from cells tables
  gathered_skip e = record {
    from_long = s.from_long;
    cells_long = s.cells_long;
    tables_long = s.tables_long;
    few = (let z = s.few in omega arith);
    from_low = s.from_low;
    within = s.within;
    all = λ q b a. ⊎_elim (λ l. s.all q l a) (λ p. absurd (never_both a (ap (on asked) p ∙ sym e))) (less_or_equal q o (omega arith));
    reads-cells = s.reads-cells;
    reads_tables = s.reads_tables;
  }

  pub gathered_more : (f g : ℕ) → true ≡ on asked o → f ≡ open_of (item rows o) → g ≡ given_of (item rows o)
      → Gathered asked rows (o + 1) (n + 1) (set from n o) (set cells n f) (set tables n g)
  gathered_more f g e ef eg = record {
    from_long = length-set from n o ∙ s.from_long;
    cells_long = length-set cells n f ∙ s.cells_long;
    tables_long = length-set tables n g ∙ s.tables_long;
    few = (let z = s.few in omega arith);
    from_low = λ i b. low i b (ℕ_discrete i n);
    within = each_more (λ i q. on asked q ≡ true) n o from (let z = s.from_long in let w = s.few in omega arith) (sym e) s.within;
    all = λ q b a. ⊎_elim (λ l. let i = s.all q l a in let z = i.1 in (i.0, omega arith, old i.0 i.1 ∙ i.2)) (λ p. (n, omega arith, new ∙ sym p)) (less_or_equal q o (omega arith));
    reads-cells = each_more (λ i c. c ≡ open_of (item rows (item (set from n o) i))) n f cells (let z = s.cells_long in let w = s.few in omega arith)
        (ef ∙ ap (λ (q : ℕ). open_of (item rows q)) (sym new))
        (λ i b. s.reads-cells i b ∙ ap (λ (q : ℕ). open_of (item rows q)) (sym (old i b)));
    reads_tables = each_more (λ i c. c ≡ given_of (item rows (item (set from n o) i))) n g tables (let z = s.tables_long in let w = s.few in omega arith)
        (eg ∙ ap (λ (q : ℕ). given_of (item rows q)) (sym new))
        (λ i b. s.reads_tables i b ∙ ap (λ (q : ℕ). given_of (item rows q)) (sym (old i b)));
  }
    where
      new : item (set from n o) n ≡ o
      new = get_or-set_same from n o 0 (let z = s.from_long in let w = s.few in omega arith)

      old : (i : ℕ) → i < n → item (set from n o) i ≡ item from i
      old i g = get_or-set_other from n i o 0 (λ p. let z : i ≡ n = p in omega arith)

      low : (i : ℕ) → i < 8 → Dec (i ≡ n) → item (set from n o) i < 8
      low i b (yes p) = subst (λ (i : ℕ). item (set from n o) i < 8) (sym p) (let w = new in omega arith)
      low i b (no p) = let w = get_or-set_other from n i o 0 p in let z = s.from_low i b in omega arith

pub gathered_same : (asked : ℕ) (rows : List ℕ) (o n n' : ℕ) (from from' cells cells' tables tables' : List ℕ) → n' ≡ n → from' ≡ from → cells' ≡ cells → tables' ≡ tables
    → Gathered asked rows o n from cells tables → Gathered asked rows o n' from' cells' tables'
gathered_same asked rows o n n' from from' cells cells' tables tables' a b c d s =
    subst (λ (z : ℕ). Gathered asked rows o z from' cells' tables') (sym a)
    (subst (λ (z : List ℕ). Gathered asked rows o n z cells' tables') (sym b)
    (subst (λ (z : List ℕ). Gathered asked rows o n from z tables') (sym c)
    (subst (Gathered asked rows o n from cells) (sym d) s)))

module _ (asked : ℕ) (rows : List ℕ) (n : ℕ) (from cells tables : List ℕ) (s : Gathered asked rows 8 n from cells tables) where
  pub gathered_short : (i : ℕ) → i < n → item cells i < 64
  gathered_short i h = let e = s.reads-cells i h in omega arith

  module _ (cl given : List ℕ) (v : ℕ) (labels : List ℕ) (l : Leaves cl given from tables n v labels) where
    -- codes answer the subproblem exactly when they tell the labels and parts of the outputs gathered apart
    answers_coded : (kn val : ℕ) (f : ℕ → ℕ) → Answers cl given kn val v asked (item rows) f → Coded v n (Within (part_at labels) (label_at labels)) (item cells) f
    answers_coded kn val f w = left_coded cl given from tables n v labels l n (omega arith) (item cells) f record {
      tells = λ i x y h a b k e. w.tells (item from i) x y (s.from_low i (let z = s.few in omega arith)) (s.within i h) a b
          (subst (λ (g : ℕ). Left cl given g (item from i) x y) (s.reads_tables i h) k)
          (subst (λ (c : ℕ). bit_and (f x) c ≡ bit_and (f y) c) (s.reads-cells i h) e);
    }

    coded_answers : (kn val : ℕ) (f : ℕ → ℕ) → Coded v n (Within (part_at labels) (label_at labels)) (item cells) f → Fixed kn val v f → Answers cl given kn val v asked (item rows) f
    coded_answers kn val f w fixed = record {
      tells = λ o x y h a b c k e.
          let i = s.all o h a in
          (coded_left cl given from tables n v labels l n (omega arith) (item cells) f w).tells i.0 x y i.1 b c
          (subst (λ (g : ℕ). Left cl given g (item from i.0) x y) (sym (s.reads_tables i.0 i.1))
          (subst (λ (q : ℕ). Left cl given (given_of (item rows q)) q x y) (sym i.2) k))
          (subst (λ (m : ℕ). bit_and (f x) m ≡ bit_and (f y) m) (sym (s.reads-cells i.0 i.1 ∙ ap (λ (q : ℕ). open_of (item rows q)) i.2)) e);
      fixed = fixed;
    }

    -- the answer for these labels and parts is the answer to the subproblem
    pub settled_of : (kn val : ℕ) (ok : Bool) (codes : List ℕ) → Decided labels v n cells kn val ok codes → Settled cl given kn val v asked (item rows) ok codes
    settled_of kn val true codes d = coded_answers kn val (item codes) d.0 d.1
    settled_of kn val false codes d = record { none = λ f z w. d f (answers_coded kn val f w) w.fixed z }
