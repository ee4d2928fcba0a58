-- Why rows that are not tried lose no core. Of open cells that may change places and that the outputs so far read alike, the
-- next output may be taken to read the first ones: a core is replaced by one that differs in the order of these cells alone. So
-- only rows in that order are tried. Of these, rows that no codes answer, alone or with those chosen before, are passed over:
-- no core has them. Assumes nothing.
use Rattle.std.specs.Prelude.{◌≡◌, ℕ, zero, suc, ◌+◌, ◌-◌, ◌*◌, ◌/◌, ◌%◌, ◌^◌, ◌<◌, ◌≤◌, min, Bool, true, false, not, ◌⊎◌, List, length, ◌==◌, ◌≢◌, bit_and, bit_or, bit_xor, nat_eq, slice_set, refl, Option, Some, None}
use Rattle.std.proofs.Common.{sym, ap, ap₂, ◌∙◌, subst, inl, inr, ⊎_elim, arith, mod-eq_of_lt, mod-lt, div-lt_iff_lt-mul}
use Rattle.std.proofs.Common.{mul_comm, mul-suc, mul-le-mul_left, length-set, pow-add, pow_mono, pow_pos, shr-shr, get_or-set_same, get_or-set_other, eqb-true}
use Rattle.std.proofs.Math.Decide.{ℕ_discrete, dec_lt}
use Rattle.std.proofs.Math.Nat.{div-eq_of_lt, add-mul-div_left, add-mul-mod_self_left}
use Rattle.std.proofs.lemmas.Nat.{and_le_r}
use Rattle.std.proofs.lemmas.Bool.{eqb-false, not-false}
use Rattle.bits.specs.Logic.{andb, orb, xorb}
use Rattle.bits.specs.LogicLaws.{true_false, and_left, and_right, never_both, and_true}
use Rattle.bits.specs.Digit.{digit, on}
use Rattle.bits.specs.DigitLaws.{on_and, on_or, on_or_one, on_or_none, on_xor, on-ones, on_above, on_complement, on_single, on_none, on_zero, equal_digits}
use Rattle.bits.specs.Count.{count}
use Rattle.bits.specs.CountLaws.{less_or_equal, count-le, count-alike, count-drop}
use Rattle.bits.specs.ShiftLaws.{on_half}
use Rattle.cells.specs.SetsLaws.{on_power_other}
use Rattle.cells.specs.ReorderLaws.{in_order_none, reordered}
use Rattle.cells.specs.Codes.{Coded}
use Rattle.cells.specs.Reorder.{Exchangeable, InOrder, Exchanged}
use Rattle.problem.specs.Problem.{item, Fixed}
use Rattle.relation.specs.Relation.{Left}
use Rattle.subproblems.specs.Subproblem.{open_of, given_of, Barred, Settled}
use Rattle.subproblems.specs.SubproblemLaws.{on_open}
use Rattle.cache.specs.CacheLaws.{barred_among}
use Rattle.readingsets.specs.Choice.{RowFits, numbered, turned, first_outputs, Core, Rows, ReadAlike, Agree, Found, Lost, Chosen, disorder, Suits, still_alike, Next, number_of, Tried}

-- ======== digits of rows
on-given : (row i : ℕ) → on row (6 + i) ≡ on (row / 64) i
unfolding on digit
on-given row i = ap (λ (z : ℕ). nat_eq (z % 2) 1) (sym (shr-shr row 6 i))

pub count-sum : (p : ℕ → Bool) (a b : ℕ) → count p (a + b) ≡ count p a + count (λ (i : ℕ). p (a + i)) b
unfolding count
count-sum p a zero = ap (count p) (let e : a + 0 ≡ a = omega arith in e) ∙ (let e : count p a ≡ count p a + 0 = omega arith in e)
count-sum p a (suc b) = ap (count p) (let e : a + suc b ≡ suc (a + b) = omega arith in e) ∙ (let h = count-sum p a b in omega arith)

-- what a row reads: open cells and given tables
pub count-row : (row : ℕ) → count (on row) 16 ≡ count (on (row % 64)) 6 + count (on (row / 64)) 10
count-row row = count-sum (on row) 6 10 ∙ ap₂ (λ (a b : ℕ). a + b)
    (count-alike (on row) (on (row % 64)) 6 (λ i h. sym (on_open row i h)))
    (count-alike (λ (i : ℕ). on row (6 + i)) (on (row / 64)) 10 (λ i h. on-given row i))

-- ======== a row and its number
power_low : (u : ℕ) → u ≤ 6 → 2 ^ u ≤ 64
power_low u h = let p : 2 ^ u ≤ 2 ^ 6 = pow_mono h in p

pub number-row : (u row : ℕ) → open_of row < 2 ^ u → numbered u (number_of u row) ≡ row
number-row u row h =
    let a : number_of u row / 2 ^ u ≡ row / 64 =
    add-mul-div_left (row % 64) (row / 64) (pow_pos u) ∙ ap (λ (z : ℕ). z + row / 64) (div-eq_of_lt h) ∙ (let e : 0 + row / 64 ≡ row / 64 = omega arith in e) in
    let b : number_of u row % 2 ^ u ≡ row % 64 = add-mul-mod_self_left (row % 64) (2 ^ u) (row / 64) ∙ mod-eq_of_lt h in
    ap₂ (λ (x y : ℕ). x * 64 + y) a b ∙ (let e : row / 64 * 64 + row % 64 ≡ row = omega arith in e)

pub number-low : (u g row : ℕ) → open_of row < 2 ^ u → given_of row < 2 ^ g → number_of u row < 2 ^ (u + g)
number-low u g row a b = subst (λ (z : ℕ). number_of u row < z) (sym (pow-add 2 u g))
    (let e : 2 ^ u * suc (given_of row) ≤ 2 ^ u * 2 ^ g = mul-le-mul_left (2 ^ u) b in let f = mul-suc (2 ^ u) (given_of row) in omega arith)

pub turned_down : (down : Bool) (end i : ℕ) → down ≡ true → end - 1 - i ≡ turned down end i
turned_down true end i e = refl
turned_down false end i e = absurd (true_false (sym e))

pub turned_up : (down : Bool) (end i : ℕ) → down ≡ false → i ≡ turned down end i
turned_up false end i e = refl
turned_up true end i e = absurd (true_false e)

-- every number below end is tried at one place
turned-low : (down : Bool) (end i : ℕ) → i < end → turned down end i < end
turned-low false end i h = h
turned-low true end i h = omega arith

turned_twice : (down : Bool) (end i : ℕ) → i < end → turned down end (turned down end i) ≡ i
turned_twice false end i h = refl
turned_twice true end i h = omega arith

module _ (u g r : ℕ) (few : u ≤ 6) (low : r < 2 ^ (u + g)) where
  rest-low : r % 2 ^ u < 64
  rest-low = let a = power_low u few in let b : r % 2 ^ u < 2 ^ u = mod-lt r (pow_pos u) in omega arith

  pub numbered_open : open_of (numbered u r) ≡ r % 2 ^ u
  numbered_open = go (r / 2 ^ u) (r % 2 ^ u) rest-low
    where
      go : (a b : ℕ) → b < 64 → (a * 64 + b) % 64 ≡ b
      go a b h = omega arith

  pub numbered-given : given_of (numbered u r) ≡ r / 2 ^ u
  numbered-given = go (r / 2 ^ u) (r % 2 ^ u) rest-low
    where
      go : (a b : ℕ) → b < 64 → (a * 64 + b) / 64 ≡ a
      go a b h = omega arith

  pub given-low : r / 2 ^ u < 2 ^ g
  given-low = (div-lt_iff_lt-mul (pow_pos u)).1 (subst (λ (z : ℕ). r < z) (pow-add 2 u g ∙ mul_comm (2 ^ u) (2 ^ g)) low)

  numbered_fits : (budget : ℕ) → count (on (numbered u r)) 16 ≡ min budget (u + g) → RowFits budget u g (numbered u r)
  numbered_fits budget e = record {
    cells_low = subst (λ (z : ℕ). z < 2 ^ u) (sym numbered_open) (mod-lt r (pow_pos u));
    tables_low = subst (λ (z : ℕ). z < 2 ^ g) (sym numbered-given) given-low;
    full = e;
  }

-- ======== a core whose next row is in order
-- the first cell that may change places: cell 0 may not where it may have known digits
abbrev first_free : ℕ → ℕ
first_free zero = 0
first_free (suc kn) = 1

first_free_from : (kn same i : ℕ) → (on same 0 ≡ true → kn ≡ 0) → on same i ≡ true → first_free kn ≤ i
first_free_from zero same i h e = omega arith
first_free_from (suc kn) same zero h e = absurd (let z : suc kn ≡ 0 = h e in omega arith)
first_free_from (suc kn) same (suc i) h e = omega arith

kept_fixed : (kn val v : ℕ) (f f' : ℕ → ℕ) → ((x i : ℕ) → (i < first_free kn) ⊎ (6 ≤ i) → on (f' x) i ≡ on (f x) i) → Fixed kn val v f → Fixed kn val v f'
kept_fixed zero val v f f' k h x a e = absurd (never_both e (on_zero x))
kept_fixed (suc kn) val v f f' k h x a e = k x 0 (inl (omega arith)) ∙ h x a e

-- the outputs asked about are the first m
pub first_outputs_low : (m o : ℕ) → on (first_outputs m) o ≡ true → o < m
first_outputs_low m o e = go (dec_lt o m)
  where
    go : Dec (o < m) → o < m
    go (yes h) = h
    go (no h) = absurd (never_both e (on_above m (2 ^ m - 1) o (let p : 0 < 2 ^ m = pow_pos m in omega arith) (omega arith)))

module _ (cl given budgets : List ℕ) (kn val v m u g done : ℕ) (rows : List ℕ) (same n : ℕ) (few : u ≤ 6) (room : m ≤ 8)
    (alike : ReadAlike kn u done rows same) (R F : ℕ → ℕ) (c : Core cl given budgets kn val v m u g R F) (e : Agree done rows R) where
  abbrev Before : ℕ → Type 0
  Before p = on done p ≡ true

  abbrev Kept : ℕ → ℕ → ℕ → Type 0
  Kept o x y = Left cl given (given_of (R o)) o x y

  abbrev opens : ℕ → ℕ
  opens o = open_of (R o)

  exchangeable : Exchangeable (first_free kn) u Before opens same
  exchangeable = record {
    from = λ i s. first_free_from kn same i alike.unknown s;
    within = alike.within;
    alike = λ i p s b.
        let h = alike.within i s in
        on_open (R p) i (omega arith) ∙ ap (λ (z : ℕ). on z i) (e p b) ∙ alike.alike i p s b ∙ sym (ap (λ (z : ℕ). on z (suc i)) (e p b)) ∙ sym (on_open (R p) (suc i) (omega arith));
  }

  coded : Coded v m Kept opens F
  coded = record { tells = λ o x y h a b l q. c.answers.tells o x y (omega arith) (on-ones m o h) a b l q }

  module _ (rows' F' : ℕ → ℕ) (x : Exchanged v m (first_free kn) u Kept Before opens F rows' F') where
    -- the given tables stay
    abbrev R' : ℕ → ℕ
    R' o = given_of (R o) * 64 + rows' o

    short : (o : ℕ) → rows' o < 64
    short o = x.short o 6 few (omega arith)

    open_is : (o : ℕ) → open_of (R' o) ≡ rows' o
    open_is o = let h = short o in omega arith

    given_is : (o : ℕ) → given_of (R' o) ≡ given_of (R o)
    given_is o = let h = short o in omega arith

    count_is : (o : ℕ) → count (on (R' o)) 16 ≡ count (on (R o)) 16
    count_is o =
        count-row (R' o) ∙ ap₂ (λ (a b : ℕ). count (on a) 6 + count (on b) 10) (open_is o) (given_is o)
        ∙ ap (λ (z : ℕ). z + count (on (given_of (R o))) 10) (x.counts o 6 few) ∙ sym (count-row (R o))

    zero_is : F' 0 ≡ 0
    zero_is = on_none (F' 0) (λ i. go i (dec_lt i (first_free kn)) (dec_lt i u))
      where
        off : (i : ℕ) → on (F 0) i ≡ false
        off i = ap (λ (z : ℕ). on z i) c.zero ∙ on_zero i

        go : (i : ℕ) → Dec (i < first_free kn) → Dec (i < u) → on (F' 0) i ≡ false
        go i (yes a) b = x.codes_kept 0 i (inl a) ∙ off i
        go i (no a) (yes b) = x.off 0 (λ i p q. off i) i (omega arith) b
        go i (no a) (no b) = x.codes_kept 0 i (inr (omega arith)) ∙ off i

    core-kept : Core cl given budgets kn val v m u g R' F'
    core-kept = record {
      answers = record {
        tells = λ o a b h k p q l s. (x.coded coded).tells o a b (first_outputs_low m o k) p q (subst (λ (z : ℕ). Left cl given z o a b) (given_is o) l)
            (ap (bit_and (F' a)) (sym (open_is o)) ∙ s ∙ ap (bit_and (F' b)) (open_is o));
        fixed = kept_fixed kn val v F F' (λ a i h. x.codes_kept a i (⊎_elim inl (λ k. inr (omega arith)) h)) c.answers.fixed;
      };
      rows = λ o h. let f = c.rows o h in record {
        cells_low = subst (λ (z : ℕ). z < 2 ^ u) (sym (open_is o)) (x.short o u (omega arith) f.cells_low);
        tables_low = subst (λ (z : ℕ). z < 2 ^ g) (sym (given_is o)) f.tables_low;
        full = count_is o ∙ f.full;
      };
      zero = zero_is;
    }

    rows_kept : Agree done rows R'
    rows_kept p b = ap (λ (z : ℕ). given_of (R p) * 64 + z) (x.before p b) ∙ (let q : R p / 64 * 64 + R p % 64 ≡ R p = omega arith in q) ∙ e p b

  in_order : (R' : ℕ → ℕ) × (F' : ℕ → ℕ) × Core cl given budgets kn val v m u g R' F' × Agree done rows R' × InOrder same (open_of (R' n))
  in_order =
      let t = reordered v m (first_free kn) u Kept Before n same opens F exchangeable in
      (R' t.0 t.1 t.2, t.1, core-kept t.0 t.1 t.2, rows_kept t.0 t.1 t.2, subst (InOrder same) (sym (open_is t.0 t.1 t.2 n)) t.3)

-- ======== whether a row suits
pub suits_count : (row want same n : ℕ) → n ≡ want → n ≡ count (on row) 16 → Suits row want same (disorder (open_of row) same == 0)
suits_count row want same n e d = record { right = λ q. sym d ∙ e; wrong = λ q c z. eqb-false (disorder (open_of row) same) 0 q z }

pub suits_not : (row want same n : ℕ) → (n ≢ want) → n ≡ count (on row) 16 → Suits row want same false
suits_not row want same n ne d = record { right = λ q. absurd (true_false (sym q)); wrong = λ q c z. ne (d ∙ c) }

-- ======== cells read like the next
abbrev alike-cells : ℕ → ℕ
alike-cells f = 2 ^ 8 - 1 - bit_xor f (f / 2)

reads-alike : (f : ℕ) → f < 64 → (i : ℕ) → on (alike-cells f) i ≡ true → on f i ≡ on f (suc i)
reads-alike f low i e = go (dec_lt i 8)
  where
    low_digits : (x : ℕ) → ((i : ℕ) → 8 ≤ i → on x i ≡ false) → x < 2 ^ 8
    low_digits x z = let e : bit_and x 255 ≡ x = equal_digits (bit_and x 255) x (λ i. on_and x 255 i ∙ case i (dec_lt i 8)) in let w = and_le_r x 255 in omega arith
      where
        case : (i : ℕ) → Dec (i < 8) → andb (on x i) (on 255 i) ≡ on x i
        case i (yes l) = ap (λ (b : Bool). andb (on x i) b) (on-ones 8 i l) ∙ and_true (on x i)
        case i (no l) = ap (λ (b : Bool). andb b (on 255 i)) (z i (omega arith)) ∙ sym (z i (omega arith))

    xor_low : bit_xor f (f / 2) < 2 ^ 8
    xor_low = low_digits (bit_xor f (f / 2)) (λ i l. on_xor f (f / 2) i ∙ ap₂ xorb (on_above 6 f i low (omega arith)) (on_above 6 (f / 2) i (omega arith) (omega arith)))

    same_of : (a b : Bool) → not (xorb a b) ≡ true → a ≡ b
    same_of true true e = refl
    same_of false false e = refl
    same_of true false e = absurd (true_false (sym e))
    same_of false true e = absurd (true_false (sym e))

    go : Dec (i < 8) → on f i ≡ on f (suc i)
    go (yes l) = same_of (on f i) (on f (suc i))
        (ap (λ (b : Bool). not (xorb (on f i) b)) (on_half f i) ∙ ap not (sym (on_xor f (f / 2) i)) ∙ sym (on_complement 8 (bit_xor f (f / 2)) i xor_low l) ∙ e)
    go (no l) = on_above 6 f i low (omega arith) ∙ sym (on_above 6 f (suc i) low (omega arith))

-- ======== one more output
-- the outputs of done and output n, as a set
module _ (done n : ℕ) where
  on_with_next : (o : ℕ) → on (bit_or done (2 ^ n)) o ≡ true → (on done o ≡ true) ⊎ (o ≡ n)
  on_with_next o e = go (ℕ_discrete o n) (on done o) refl
    where
      go : Dec (o ≡ n) → (b : Bool) → on done o ≡ b → (on done o ≡ true) ⊎ (o ≡ n)
      go (yes d) b h = inr d
      go (no d) true h = inl h
      go (no d) false h = absurd (never_both e (on_or done (2 ^ n) o ∙ ap₂ orb h (on_power_other n o d)))

  pub on_with_same : on (bit_or done (2 ^ n)) n ≡ true
  on_with_same = on_or_one done (2 ^ n) n (on_single n)

  -- outputs without a row, one less
  with_next_less : n < 8 → on done n ≡ false → 8 - count (on (bit_or done (2 ^ n))) 8 < 8 - count (on done) 8
  with_next_less h e =
      let a = count-drop (on (bit_or done (2 ^ n))) (on done) 8 n h on_with_same e (λ i d. sym (on_or_none done (2 ^ n) i (on_power_other n i d))) in
      let b = count-le (on (bit_or done (2 ^ n))) 8 in
      omega arith

  module _ (rows : List ℕ) (row : ℕ) (long : length rows ≡ 8) (h : n < 8) (free : on done n ≡ false) where
    new_row : item (slice_set rows n row) n ≡ row
    new_row = get_or-set_same rows n row 0 (omega arith)

    old_row : (o : ℕ) → on done o ≡ true → item (slice_set rows n row) o ≡ item rows o
    old_row o e = get_or-set_other rows n o row 0 (λ d. never_both e (ap (on done) d ∙ free))

    -- what holds of the rows so far and of the new one holds of all
    each_row : (P : ℕ → ℕ → Type 0) → ((o : ℕ) → on done o ≡ true → P o (item rows o)) → P n row → (o : ℕ) → on (bit_or done (2 ^ n)) o ≡ true → P o (item (slice_set rows n row) o)
    each_row P old new o e = ⊎_elim (λ d. subst (P o) (sym (old_row o d)) (old o d))
        (λ d. subst (λ (o : ℕ). P o (item (slice_set rows n row) o)) (sym d) (subst (P n) (sym new_row) new)) (on_with_next o e)

    rows_more : (budgets : List ℕ) (m u g : ℕ) → n < m → RowFits (item budgets n) u g row → Rows budgets m u g done rows → Rows budgets m u g (bit_or done (2 ^ n)) (slice_set rows n row)
    rows_more budgets m u g l f s = record {
      long = length-set rows n row ∙ s.long;
      few = λ o e. ⊎_elim (s.few o) (λ d. subst (λ (o : ℕ). o < m) (sym d) l) (on_with_next o e);
      fit = each_row (λ (o r : ℕ). RowFits (item budgets o) u g r) s.fit f;
    }

    pub agree_more : (R : ℕ → ℕ) → Agree done rows R → R n ≡ row → Agree (bit_or done (2 ^ n)) (slice_set rows n row) R
    agree_more R a e = each_row (λ (o r : ℕ). R o ≡ r) a e

    -- the cells that the new row too reads like the next
    alike_more : (kn u same : ℕ) → u ≤ 6 → ReadAlike kn u done rows same
        → ReadAlike kn u (bit_or done (2 ^ n)) (slice_set rows n row) (still_alike same row)
    alike_more kn u same few s = record {
      within = λ i e. s.within i (of-same i e);
      unknown = λ e. s.unknown (of-same 0 e);
      alike = λ i p e. each_row (λ (p r : ℕ). on r i ≡ on r (suc i)) (λ p b. s.alike i p (of-same i e) b)
          (let l = s.within i (of-same i e) in
          sym (on_open row i (omega arith)) ∙ reads-alike (open_of row) (omega arith) i (and_right (on same i) (on (alike-cells (open_of row)) i) (sym (on_and same (alike-cells (open_of row)) i) ∙ e))
          ∙ on_open row (suc i) (omega arith)) p;
    }
      where
        of-same : (i : ℕ) → on (bit_and same (alike-cells (open_of row))) i ≡ true → on same i ≡ true
        of-same i e = and_left (on same i) (on (alike-cells (open_of row)) i) (sym (on_and same (alike-cells (open_of row)) i) ∙ e)

-- ======== rows tried for output n
module _ (cl given budgets : List ℕ) (kn val v m u g done : ℕ) (rows : List ℕ) where
  abbrev CoreOf : (ℕ → ℕ) → (ℕ → ℕ) → Type 0
  CoreOf R F = Core cl given budgets kn val v m u g R F

  -- no codes answer a subproblem about outputs that have rows
  barred_lost : (asked : ℕ) → ((o : ℕ) → on asked o ≡ true → (o < m) × (on done o ≡ true)) → Barred cl given kn val v asked (item rows)
      → Lost cl given budgets kn val v m u g done rows
  barred_lost asked h b = record {
    none = λ R F c a. b.none F c.zero (record {
      tells = λ o x y k e p q l s.
          let d = a o (h o e).1 in
          c.answers.tells o x y k (on-ones m o (h o e).0) p q (subst (λ (z : ℕ). Left cl given (given_of z) o x y) (sym d) l)
          (ap (λ (z : ℕ). bit_and (F x) (open_of z)) d ∙ s ∙ sym (ap (λ (z : ℕ). bit_and (F y) (open_of z)) d));
      fixed = c.answers.fixed;
    });
  }

  pub done_lost : Rows budgets m u g done rows → Barred cl given kn val v done (item rows) → Lost cl given budgets kn val v m u g done rows
  done_lost s = barred_lost done (λ o e. (s.few o e, e))

  -- all rows are chosen: the codes decide
  pub chosen_end : (ok : Bool) (rows' codes : List ℕ) → ((o : ℕ) → o < m → on done o ≡ true) → (ok ≡ true → rows' ≡ rows) → Rows budgets m u g done rows
      → Settled cl given kn val v (first_outputs m) (item rows) ok codes → Chosen cl given budgets kn val v m u g done rows ok rows' codes
  chosen_end true rows' codes all q s d = subst (λ (z : List ℕ). Found cl given budgets kn val v m u g z codes) (sym (q refl)) record {
    fit = record { long = s.long; few = λ o e. first_outputs_low m o e; fit = λ o e. s.fit o (all o (first_outputs_low m o e)) };
    answers = d;
  }
  chosen_end false rows' codes all q s d = barred_lost (first_outputs m) (λ o e. let h = first_outputs_low m o e in (h, all o h)) d

  module _ (same n : ℕ) (down : Bool) (few : u ≤ 6) (l : n < m) where
    abbrev TriedTo : ℕ → Type 0
    TriedTo i = Tried cl given budgets kn val v m u g done rows same n down i

    -- the number of the row tried at place i
    abbrev number_at : ℕ → ℕ
    number_at i = turned down (2 ^ (u + g)) i

    pub tried_start : TriedTo 0
    tried_start = record { past = λ R F c a o. omega arith }

    place_number : (i : ℕ) (R F : ℕ → ℕ) → CoreOf R F → i ≡ number_at (number_of u (R n)) → R n ≡ numbered u (number_at i)
    place_number i R F c e =
        let f = c.rows n l in
        let low = number-low u g (R n) f.cells_low f.tables_low in
        sym (number-row u (R n) f.cells_low) ∙ ap (numbered u) (sym (ap number_at e ∙ turned_twice down (2 ^ (u + g)) (number_of u (R n)) low))

    -- a core whose row is tried at place i has the row of that number
    tried_next : (i : ℕ) → ((R F : ℕ → ℕ) → CoreOf R F → Agree done rows R → InOrder same (open_of (R n)) → R n ≢ numbered u (number_at i))
        → TriedTo i → TriedTo (i + 1)
    tried_next i bad t = record {
      past = λ R F c a o. ⊎_elim (λ (k : i < number_at (number_of u (R n))). omega arith)
          (λ q. absurd (bad R F c a o (place_number i R F c q)))
          (less_or_equal i (number_at (number_of u (R n))) (let z = t.past R F c a o in omega arith));
    }

    tried_unfit : (i want : ℕ) (ok : Bool) → want ≡ min (item budgets n) (u + g) → ok ≡ false → Suits (numbered u (number_at i)) want same ok
        → TriedTo i → TriedTo (i + 1)
    tried_unfit i want ok w q s = tried_next i (λ R F c a o z. s.wrong q
        (ap (λ (x : ℕ). count (on x) 16) (sym z) ∙ (c.rows n l).full ∙ sym w)
        (ap (λ (x : ℕ). disorder (open_of x) same) (sym z) ∙ in_order_none 8 (open_of (R n)) same (omega arith) o))

    tried_lost : (i : ℕ) → length rows ≡ 8 → n < 8 → on done n ≡ false
        → Lost cl given budgets kn val v m u g (bit_or done (2 ^ n)) (slice_set rows n (numbered u (number_at i))) → TriedTo i → TriedTo (i + 1)
    tried_lost i long h free s = tried_next i (λ R F c a o z. s.none R F c (agree_more done n rows (numbered u (number_at i)) long h free R a z))

    pub tried_all : (i : ℕ) → m ≤ 8 → ReadAlike kn u done rows same → 2 ^ (u + g) ≤ i → TriedTo i → Lost cl given budgets kn val v m u g done rows
    tried_all i room s h t = record {
      none = λ R F c a.
          let b = in_order cl given budgets kn val v m u g done rows same n few room s R F c a in
          let f = b.2.rows n l in
          let p = t.past b.0 b.1 b.2 b.3 b.4 in
          let q = turned-low down (2 ^ (u + g)) (number_of u (b.0 n)) (number-low u g (b.0 n) f.cells_low f.tables_low) in
          omega arith;
    }

-- a core that was found below
pub chosen-found : (cl given budgets : List ℕ) (kn val v m u g done done₀ : ℕ) (rows rows₀ rows' codes : List ℕ) (ok : Bool) → ok ≡ true
    → Chosen cl given budgets kn val v m u g done₀ rows₀ ok rows' codes → Chosen cl given budgets kn val v m u g done rows ok rows' codes
chosen-found cl given budgets kn val v m u g done done₀ rows rows₀ rows' codes true e c = c
chosen-found cl given budgets kn val v m u g done done₀ rows rows₀ rows' codes false e c = absurd (true_false (sym e))

pub chosen_lost : (cl given budgets : List ℕ) (kn val v m u g done : ℕ) (rows rows' codes : List ℕ) (ok : Bool) → ok ≡ false
    → Chosen cl given budgets kn val v m u g done rows ok rows' codes → Lost cl given budgets kn val v m u g done rows
chosen_lost cl given budgets kn val v m u g done rows rows' codes false e c = c
chosen_lost cl given budgets kn val v m u g done rows rows' codes true e c = absurd (true_false e)

-- ======== one step: output n gets row number r
module _ (cl given budgets : List ℕ) (kn val v m u g done : ℕ) (rows : List ℕ) (same n with-n row r : ℕ) (few : u ≤ 6) (l : n < m) (h : n < 8) (free : on done n ≡ false)
    (ew : with-n ≡ bit_or done (2 ^ n)) (er : row ≡ numbered u r) (s : Rows budgets m u g done rows) where
  step_less : 8 - count (on with-n) 8 < 8 - count (on done) 8
  step_less = subst (λ (d : ℕ). 8 - count (on d) 8 < 8 - count (on done) 8) (sym ew) (with_next_less done n h free)

  pub step_fits : r < 2 ^ (u + g) → count (on row) 16 ≡ min (item budgets n) (u + g) → RowFits (item budgets n) u g row
  step_fits low full = subst (RowFits (item budgets n) u g) (sym er) (numbered_fits u g r few low (item budgets n)
      (subst (λ (z : ℕ). count (on z) 16 ≡ min (item budgets n) (u + g)) er full))

  step_rows : r < 2 ^ (u + g) → count (on row) 16 ≡ min (item budgets n) (u + g) → Rows budgets m u g with-n (slice_set rows n row)
  step_rows low full = subst (λ (d : ℕ). Rows budgets m u g d (slice_set rows n row)) (sym ew) (rows_more done n rows row s.long h free budgets m u g l (step_fits low full) s)

  step_alike : (z : ℕ) → z ≡ still_alike same row → ReadAlike kn u done rows same → ReadAlike kn u with-n (slice_set rows n row) z
  step_alike z e a = subst (ReadAlike kn u with-n (slice_set rows n row)) (sym e)
      (subst (λ (d : ℕ). ReadAlike kn u d (slice_set rows n row) (still_alike same row)) (sym ew) (alike_more done n rows row s.long h free kn u same few a))

  -- what the search with one output more asks for
  pub step_on : r < 2 ^ (u + g) → count (on row) 16 ≡ min (item budgets n) (u + g) → (z : ℕ) → z ≡ still_alike same row → ReadAlike kn u done rows same
      → (8 - count (on with-n) 8 < 8 - count (on done) 8) × Rows budgets m u g with-n (slice_set rows n row) × ReadAlike kn u with-n (slice_set rows n row) z
  step_on low full z e a = (step_less, step_rows low full, step_alike z e a)

  -- that row is tried at place i
  module _ (down : Bool) (i : ℕ) (et : r ≡ turned down (2 ^ (u + g)) i) where
    abbrev TriedTo' : ℕ → Type 0
    TriedTo' i = Tried cl given budgets kn val v m u g done rows same n down i

    at_place : row ≡ numbered u (turned down (2 ^ (u + g)) i)
    at_place = er ∙ ap (numbered u) et

    step_lost : Lost cl given budgets kn val v m u g with-n (slice_set rows n row) → TriedTo' i → TriedTo' (i + 1)
    step_lost x = tried_lost cl given budgets kn val v m u g done rows same n down few l i s.long h free
        (subst (λ (z : ℕ). Lost cl given budgets kn val v m u g (bit_or done (2 ^ n)) (slice_set rows n z)) at_place
        (subst (λ (d : ℕ). Lost cl given budgets kn val v m u g d (slice_set rows n row)) ew x))

    step_dead : Barred cl given kn val v with-n (item (slice_set rows n row)) → TriedTo' i → TriedTo' (i + 1)
    step_dead b = step_lost (barred_lost cl given budgets kn val v m u g with-n (slice_set rows n row) with-n (λ o e. (within o (subst (λ (d : ℕ). on d o ≡ true) ew e), e)) b)
      where
        within : (o : ℕ) → on (bit_or done (2 ^ n)) o ≡ true → o < m
        within o e = ⊎_elim (s.few o) (λ d. subst (λ (o : ℕ). o < m) (sym d) l) (on_with_next done n o e)

    step_unfit : (want : ℕ) (ok : Bool) → want ≡ min (item budgets n) (u + g) → ok ≡ false → Suits row want same ok → TriedTo' i → TriedTo' (i + 1)
    step_unfit want ok w q x = tried_unfit cl given budgets kn val v m u g done rows same n down few l i want ok w q (subst (λ (z : ℕ). Suits z want same ok) at_place x)

    -- it is past where the search below found nothing, where no codes answer it, and where it doesn't suit
    pub step_past : (want : ℕ) (ok : Bool) → want ≡ min (item budgets n) (u + g) → (Lost cl given budgets kn val v m u g with-n (slice_set rows n row) → TriedTo' i → TriedTo' (i + 1))
        × (Barred cl given kn val v with-n (item (slice_set rows n row)) → TriedTo' i → TriedTo' (i + 1)) × (ok ≡ false → Suits row want same ok → TriedTo' i → TriedTo' (i + 1))
    step_past want ok w = (step_lost, step_dead, step_unfit want ok w)

-- ======== no core
pub settled_none : (cl given : List ℕ) (kn val v asked : ℕ) (rows : ℕ → ℕ) (ok : Bool) (codes : List ℕ) → ok ≡ false → Barred cl given kn val v asked rows
    → Settled cl given kn val v asked rows ok codes
settled_none cl given kn val v asked rows false codes e b = b
settled_none cl given kn val v asked rows true codes e b = absurd (true_false e)

pub settled_lost : (cl given : List ℕ) (kn val v asked : ℕ) (rows : ℕ → ℕ) (ok : Bool) (codes : List ℕ) → ok ≡ false → Settled cl given kn val v asked rows ok codes
    → Barred cl given kn val v asked rows
settled_lost cl given kn val v asked rows false codes e s = s
settled_lost cl given kn val v asked rows true codes e s = absurd (true_false e)

pub chosen_none : (cl given budgets : List ℕ) (kn val v m u g done : ℕ) (rows rows' codes : List ℕ) (ok : Bool) → ok ≡ false
    → Lost cl given budgets kn val v m u g done rows → Chosen cl given budgets kn val v m u g done rows ok rows' codes
chosen_none cl given budgets kn val v m u g done rows rows' codes false e s = s
chosen_none cl given budgets kn val v m u g done rows rows' codes true e s = absurd (true_false e)

-- what no codes answer for output n alone, none answer for a set with n
pub barred_alone : (cl given : List ℕ) (kn val v done n one : ℕ) (rows : ℕ → ℕ) → one ≡ bit_or 0 (2 ^ n) → on done n ≡ true
    → Barred cl given kn val v one rows → Barred cl given kn val v done rows
barred_alone cl given kn val v done n one rows e h = barred_among cl given kn val v one done rows
    (λ o q. ⊎_elim (λ z. absurd (never_both z (on_zero o))) (λ z. ap (on done) z ∙ h) (on_with_next 0 n o (subst (λ (a : ℕ). on a o ≡ true) e q)))

-- where cell 0 may have known digits
pub known_or_none : (kn : ℕ) → not (kn == 0) ≡ false → kn ≡ 0
known_or_none kn e = eqb-true kn 0 (not-false (kn == 0) e)

-- ======== powers of two
-- the first m outputs as a set: below 2 ^ 8
pub first_outputs_are : (m : ℕ) → m ≤ 8 → (0 < 2 ^ m) × (2 ^ m ≤ 256)
first_outputs_are m h = (pow_pos m, let p : 2 ^ m ≤ 2 ^ 8 = pow_mono h in p)

-- the parts of a row's number
pub number_parts : (u r p : ℕ) → u ≤ 6 → p ≡ 2 ^ u → r < 2 ^ (u + 10) → (0 < p) × (r / p < 1024) × (r % p < 64)
number_parts u r p h e l = subst (λ (p : ℕ). (0 < p) × (r / p < 1024) × (r % p < 64)) (sym e) (pow_pos u, given-low u 10 r h l, rest-low u 10 r h l)

pub number_room : (u g r end : ℕ) → g ≤ 10 → end ≡ 2 ^ (u + g) → r < end → r < 2 ^ (u + 10)
number_room u g r end h e l = let p : 2 ^ (u + g) ≤ 2 ^ (u + 10) = pow_mono (omega arith) in omega arith

-- ======== the next output
pub next_start : (done : ℕ) → Next 0 done None
next_start done = λ o h. absurd (omega arith)

pub next_here : (done o : ℕ) → o < 8 → on done o ≡ false → Next (o + 1) done (Some o)
next_here done o h e = (omega arith, e)

pub next-found : (done o best : ℕ) → Next o done (Some best) → Next (o + 1) done (Some best)
next-found done o best s = let l = s.0 in (omega arith, s.1)

pub next_done : (done o : ℕ) (best : Option ℕ) → on done o ≡ true → Next o done best → Next (o + 1) done best
next_done done o (Some best) h s = next-found done o best s
next_done done o None h s = λ q l. ⊎_elim (s q) (λ e. ap (on done) e ∙ h) (less_or_equal q o (omega arith))

pub next_none : (m done : ℕ) (r : Option ℕ) → ((o : ℕ) → r ≡ Some o → ⊥) → Next m done r → (o : ℕ) → o < m → on done o ≡ true
next_none m done None d all = all
next_none m done (Some o) d here = absurd (d o refl)
