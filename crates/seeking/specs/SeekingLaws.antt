-- What readingsets finds and what it rules out, in words of cells. A core that serves is made to read as many tables as it may,
-- and its open cells are made 0 at vertex 0 (FullSize of cells); its rows and the codes of its open cells are then a core of
-- readingsets, so none is missed. The way back puts the open cells and the given tables after one another. A round that gave
-- something up says nothing, and the last one gives nothing up. Assumes nothing.
use Rattle.std.specs.Prelude.{◌≡◌, refl, Bool, true, false, List, [], ◌∷◌, ◌++◌, eqb, leb, length}
use Rattle.std.proofs.Common.{sym, ap, ap₂, ◌∙◌, subst, ⊎_elim, arith, mod-eq_of_lt, mod-lt, pow_pos, shr-shr}
use Rattle.std.proofs.Math.Path.{fun_ext}
use Prim.Native.Nat.{ℕ, zero, suc, ◌+◌, ◌-◌, ◌*◌, ◌/◌, ◌%◌, ◌^◌, ◌≤◌, ◌<◌, min}
use Rattle.std.proofs.Math.Decide.{dec_lt}
use Rattle.std.proofs.Math.Nat.{div-eq_of_lt, add-mul-div_left, add-mul-mod_self_left}
use Rattle.std.specs.Int.Bits.{bit_and}
use Rattle.bits.specs.Logic.{andb, bit}
use Rattle.bits.specs.LogicLaws.{and_left, and_right, never_both, xor_off}
use Rattle.bits.specs.Digit.{digit, on}
use Rattle.bits.specs.DigitLaws.{on_zero, on_and, on_xor, on-ones, on_above, on_none}
use Rattle.bits.specs.Count.{count}
use Rattle.bits.specs.CountLaws.{count-alike}
use Rattle.bits.specs.ShiftLaws.{on_cut}
use Rattle.cells.specs.PigeonLaws.{agree_and, and_agree}
use Rattle.cells.specs.FullSizeLaws.{code_first, full_of, full_serves, cleared_off, cleared-full}
use Rattle.cells.specs.CodesLaws.{on-low, on_digits}
use Rattle.cells.specs.Core.{Cell, Serves, cells_from, core_of}
use Rattle.cells.specs.Codes.{Coded, code_of}
use Rattle.cells.specs.FullSize.{Full, read_by, between, cleared}
use Rattle.problem.specs.Problem.{item, Fixed}
use Rattle.relation.specs.Relation.{Conflict}
use Rattle.coding.specs.Limit.{no_limit, Sure}
use Rattle.subproblems.specs.Subproblem.{open_of, given_of}
use Rattle.readingsets.specs.Choice.{RowFits, numbered, first_outputs, Core, Rows, ReadAlike, Found, Lost, Chosen, number_of}
use Rattle.readingsets.specs.ChoiceLaws.{count-sum, count-row, number-row, number-low, numbered_open, numbered-given, given-low, first_outputs_low}
use Rattle.seeking.specs.Seeking.{Tables, Known, Begins, Lacks, open_cells, given_cells, Has, Sought, AllFit, SoughtWhere, round_count, Places}

-- ======== digits
on_next : (u n i : ℕ) → on n (u + i) ≡ on (n / 2 ^ u) i
unfolding on digit
on_next u n i = ap (λ (z : ℕ). eqb (z % 2) 1) (sym (shr-shr n u i))

-- the lowest u digits of a, and b after them
abbrev joined : ℕ → ℕ → ℕ → ℕ
joined u a b = a % 2 ^ u + 2 ^ u * b

joined-rest : (u a b : ℕ) → joined u a b % 2 ^ u ≡ a % 2 ^ u
joined-rest u a b = add-mul-mod_self_left (a % 2 ^ u) (2 ^ u) b ∙ mod-eq_of_lt (mod-lt a (pow_pos u))

joined_next : (u a b : ℕ) → joined u a b / 2 ^ u ≡ b
joined_next u a b = add-mul-div_left (a % 2 ^ u) b (pow_pos u) ∙ ap (λ (z : ℕ). z + b) (div-eq_of_lt (mod-lt a (pow_pos u))) ∙ (let e : 0 + b ≡ b = omega arith in e)

on_joined_first : (u a b i : ℕ) → i < u → on (joined u a b) i ≡ on a i
on_joined_first u a b i h = sym (on_cut u (joined u a b) i h) ∙ ap (λ (z : ℕ). on z i) (joined-rest u a b) ∙ on_cut u a i h

on_joined_next : (u a b i : ℕ) → on (joined u a b) (u + i) ≡ on b i
on_joined_next u a b i = on_next u (joined u a b) i ∙ ap (λ (z : ℕ). on z i) (joined_next u a b)

count_none : (p : ℕ → Bool) (n : ℕ) → ((i : ℕ) → p i ≡ false) → count p n ≡ 0
unfolding count
count_none p zero h = refl
count_none p (suc n) h = ap₂ (λ (a : ℕ) (b : Bool). a + bit b) (count_none p n h) (h n)

-- a number has no digits above its length
count-within : (n w k : ℕ) → n < 2 ^ w → w ≤ k → count (on n) k ≡ count (on n) w
count-within n w k h l =
    ap (count (on n)) (let e : k ≡ w + (k - w) = omega arith in e) ∙ count-sum (on n) w (k - w)
    ∙ ap (λ (z : ℕ). count (on n) w + z) (count_none (λ (i : ℕ). on n (w + i)) (k - w) (λ i. on_above w n (w + i) h (omega arith)))
    ∙ (let e : count (on n) w + 0 ≡ count (on n) w = omega arith in e)

-- a row reads as many tables as its number has digits
count-numbered : (u g r : ℕ) → u ≤ 6 → g ≤ 10 → r < 2 ^ (u + g) → count (on (numbered u r)) 16 ≡ count (on r) (u + g)
count-numbered u g r few room low =
    count-row (numbered u r)
    ∙ ap₂ (λ (a b : ℕ). count (on a) 6 + count (on b) 10) (numbered_open u g r few low) (numbered-given u g r few low)
    ∙ ap₂ (λ (a b : ℕ). a + b) (count-within (r % 2 ^ u) u 6 (mod-lt r (pow_pos u)) few) (count-within (r / 2 ^ u) g 10 (given-low u g r few low) room)
    ∙ ap₂ (λ (a b : ℕ). a + b) (count-alike (on (r % 2 ^ u)) (on r) u (λ i h. on_cut u r i h)) (count-alike (on (r / 2 ^ u)) (λ (i : ℕ). on r (u + i)) g (λ i h. sym (on_next u r i)))
    ∙ sym (count-sum (on r) u g)

-- where no table is given, an output reads open cells alone
pub fit_open : (budget u row : ℕ) → u ≤ 6 → RowFits budget u 0 row → count (on (open_of row)) u ≡ min budget u
fit_open budget u row few f =
    sym (count-within (open_of row) u 6 f.cells_low few)
    ∙ (let e : count (on (open_of row)) 6 ≡ count (on (open_of row)) 6 + 0 = omega arith in e)
    ∙ ap (λ (z : ℕ). count (on (open_of row)) 6 + z) (sym (count_none (on (given_of row)) 10 (λ i. on_above 0 (given_of row) i f.tables_low (omega arith))))
    ∙ sym (count-row row) ∙ f.full ∙ ap (min budget) (let e : u + 0 ≡ u = omega arith in e)

-- ======== from cells to a core of readingsets
known_first : (kn val v : ℕ) (l : List Cell) → 0 < length l → Known kn val v l → (x : ℕ) → x < v → on kn x ≡ true → on (code_of l x) 0 ≡ on val x
known_first kn val v [] h k x a e = absurd (omega arith)
known_first kn val v (c ∷ l) h k x a e = code_first c l x ∙ k x a e

module _ (cl given budgets : List ℕ) (kn val v m u g : ℕ) (few : u ≤ 6) (room : g ≤ 10) where
  module _ (ts : List Cell) (t : Tables given v g ts) (rows codes : ℕ → ℕ) (s : Full u g v m (Conflict cl) (item budgets) (code_of ts) rows codes) where
    abbrev rows_of : ℕ → ℕ
    rows_of o = numbered u (rows o)

    abbrev codes_of : ℕ → ℕ
    codes_of x = codes x % 2 ^ u

    -- what the open cells and the given tables that o reads do not tell apart, all cells that it reads do not
    alike : (o x y : ℕ) → x < v → y < v → bit_and (item given x) (given_of (rows_of o)) ≡ bit_and (item given y) (given_of (rows_of o))
        → bit_and (codes_of x) (open_of (rows_of o)) ≡ bit_and (codes_of y) (open_of (rows_of o)) → bit_and (codes x) (rows o) ≡ bit_and (codes y) (rows o)
    alike o x y a b e q = agree_and (u + g) (rows o) (codes x) (codes y) (s.short o) (λ i h r. go i h r (dec_lt i u))
      where
        table : (i z : ℕ) → i < g → z < v → on (codes z) (u + i) ≡ on (item given z) i
        table i z h l = s.known i z h ∙ t.digits i z h l

        go : (i : ℕ) → i < u + g → on (rows o) i ≡ true → Dec (i < u) → on (codes x) i ≡ on (codes y) i
        go i h r (yes l) = sym (on_cut u (codes x) i l) ∙ and_agree u (open_of (rows_of o)) (codes_of x) (codes_of y) q i l
            (ap (λ (z : ℕ). on z i) (numbered_open u g (rows o) few (s.short o)) ∙ on_cut u (rows o) i l ∙ r) ∙ on_cut u (codes y) i l
        go i h r (no l) = subst (λ (i : ℕ). on (codes x) i ≡ on (codes y) i) (sym place) (table j x (omega arith) a
            ∙ and_agree g (given_of (rows_of o)) (item given x) (item given y) e j (omega arith)
            (ap (λ (z : ℕ). on z j) (numbered-given u g (rows o) few (s.short o)) ∙ sym (on_next u (rows o) j) ∙ ap (on (rows o)) (sym place) ∙ r)
            ∙ sym (table j y (omega arith) b))
          where
            j : ℕ
            j = i - u

            place : i ≡ u + j
            place = omega arith

    full-core : Fixed kn val v codes_of → codes_of 0 ≡ 0 → Core cl given budgets kn val v m u g rows_of codes_of
    full-core f z = record {
      answers = record {
        tells = λ o x y h e a b l q. s.coded.tells o x y (first_outputs_low m o e) a b l.conflict (alike o x y a b l.agree q);
        fixed = f;
      };
      rows = λ o h. record {
        cells_low = subst (λ (z : ℕ). z < 2 ^ u) (sym (numbered_open u g (rows o) few (s.short o))) (mod-lt (rows o) (pow_pos u));
        tables_low = subst (λ (z : ℕ). z < 2 ^ g) (sym (numbered-given u g (rows o) few (s.short o))) (given-low u g (rows o) few (s.short o));
        full = count-numbered u g (rows o) few room (s.short o) ∙ s.full o h;
      };
      zero = z;
    }

  -- where no core of readingsets has any rows, no cells serve
  lost_lacks : Begins kn val u → (rows : List ℕ) → Lost cl given budgets kn val v m u g 0 rows → Lacks cl given budgets kn val v m u g
  lost_lacks begins none lost = record {
    none = λ l ts e t k s.
        let r = full_of u g v m (Conflict cl) (item budgets) l ts (let z = e in omega arith) t.long s in
        let w = cleared-full 0 u g v m (Conflict cl) (item budgets) (code_of ts) r.0 r.1 r.2 in
        lost.none (rows_of ts t r.0 (cleared 0 u r.1) w) (codes_of ts t r.0 (cleared 0 u r.1) w)
        (full-core ts t r.0 (cleared 0 u r.1) w (fixed l e k r.1 r.3) (zero r.1))
        (λ p h. absurd (never_both h (on_zero p)));
  }
    where
      zero : (codes : ℕ → ℕ) → cleared 0 u codes 0 % 2 ^ u ≡ 0
      zero codes = on_none (cleared 0 u codes 0 % 2 ^ u) (λ i. go i (dec_lt i u))
        where
          go : (i : ℕ) → Dec (i < u) → on (cleared 0 u codes 0 % 2 ^ u) i ≡ false
          go i (yes l) = on_cut u (cleared 0 u codes 0) i l ∙ cleared_off 0 u codes i (omega arith) l
          go i (no l) = on_above u (cleared 0 u codes 0 % 2 ^ u) i (mod-lt (cleared 0 u codes 0) (pow_pos u)) (omega arith)

      fixed : (l : List Cell) → length l ≡ u → Known kn val v l → (codes : ℕ → ℕ) → ((i x : ℕ) → i < length l → on (codes x) i ≡ on (code_of l x) i)
          → Fixed kn val v (λ x. cleared 0 u codes x % 2 ^ u)
      fixed l e k codes same x a h = ⊎_elim
          (λ q. absurd (never_both h (ap (λ (z : ℕ). on z x) q ∙ on_zero x)))
          (λ q. let some = q.0 in
          on_cut u (cleared 0 u codes x) 0 q.0
          ∙ on_xor (codes x) (between 0 u (codes 0)) 0
          ∙ xor_off (on (codes x) 0) (on (between 0 u (codes 0)) 0)
          (on_digits (λ (i : ℕ). andb (leb 0 i) (on (codes 0) i)) u 0 q.0 ∙ same 0 0 (omega arith) ∙ known_first kn val v l (omega arith) k 0 (omega arith) q.1 ∙ q.2)
          ∙ same 0 x (omega arith) ∙ known_first kn val v l (omega arith) k x a h)
          begins

-- ======== from rows and codes to cells
cells_same : (n i : ℕ) (rows rows' codes codes' : ℕ → ℕ) → ((o k : ℕ) → k < i + n → on (rows o) k ≡ on (rows' o) k) → ((x k : ℕ) → k < i + n → on (codes x) k ≡ on (codes' x) k)
    → cells_from n i rows codes ≡ cells_from n i rows' codes'
unfolding cells_from
cells_same zero i rows rows' codes codes' r c = refl
cells_same (suc n) i rows rows' codes codes' r c = ap₂ (λ (a : Cell) (l : List Cell). a ∷ l)
    (ap₂ (λ (t p : ℕ → Bool). record { table = t; readers = p }) (fun_ext (λ x. c x i (omega arith))) (fun_ext (λ o. r o i (omega arith))))
    (cells_same n (suc i) rows rows' codes codes' (λ o k h. r o k (omega arith)) (λ x k h. c x k (omega arith)))

read_by_same : (i j : ℕ) (rows rows' : ℕ → ℕ) (l : List Cell) → ((o d : ℕ) → on (rows o) (i + d) ≡ on (rows' o) (j + d)) → read_by i rows l ≡ read_by j rows' l
unfolding read_by
read_by_same i j rows rows' [] e = refl
read_by_same i j rows rows' (c ∷ l) e = ap₂ (λ (a : Cell) (l : List Cell). a ∷ l)
    (ap (λ (p : ℕ → Bool). record { table = c.table; readers = p })
    (fun_ext (λ o. ap (on (rows o)) (let z : i ≡ i + 0 = omega arith in z) ∙ e o 0 ∙ ap (on (rows' o)) (let z : j + 0 ≡ j = omega arith in z))))
    (read_by_same (suc i) (suc j) rows rows' l (λ o d.
    ap (on (rows o)) (let z : suc i + d ≡ i + suc d = omega arith in z) ∙ e o (suc d) ∙ ap (on (rows' o)) (let z : j + suc d ≡ suc j + d = omega arith in z)))

module _ (cl given budgets : List ℕ) (kn val v m u g : ℕ) (rows codes : List ℕ) (few : u ≤ 6) (room : g ≤ 10) (outs : m ≤ 8) (found : Found cl given budgets kn val v m u g rows codes) where
  -- the outputs are those asked about
  asked : (o : ℕ) → o < m → on (first_outputs m) o ≡ true
  asked o h = on-ones m o h

  fit : (o : ℕ) → o < m → RowFits (item budgets o) u g (item rows o)
  fit o h = found.fit.fit o (asked o h)

  -- open cells and given tables after one another
  abbrev rows_to : ℕ → ℕ
  rows_to o = joined u (open_of (item rows o)) (given_of (item rows o))

  abbrev codes_to : ℕ → ℕ
  codes_to x = joined u (item codes x) (item given x)

  rows_number : (o : ℕ) → o < m → rows_to o ≡ number_of u (item rows o)
  rows_number o h = ap (λ (z : ℕ). z + 2 ^ u * given_of (item rows o)) (mod-eq_of_lt (fit o h).cells_low)

  rows_low : (o : ℕ) → o < m → rows_to o < 2 ^ (u + g)
  rows_low o h = subst (λ (z : ℕ). z < 2 ^ (u + g)) (sym (rows_number o h)) (number-low u g (item rows o) (fit o h).cells_low (fit o h).tables_low)

  rows_count : (o : ℕ) → o < m → count (on (rows_to o)) (u + g) ≡ min (item budgets o) (u + g)
  rows_count o h = sym (count-numbered u g (rows_to o) few room (rows_low o h))
      ∙ ap (λ (z : ℕ). count (on z) 16) (ap (numbered u) (rows_number o h) ∙ number-row u (item rows o) (fit o h).cells_low) ∙ (fit o h).full

  joined_coded : Coded v m (Conflict cl) rows_to codes_to
  joined_coded = record {
    tells = λ o x y h a b c e. found.answers.tells o x y (omega arith) (asked o h) a b (record { conflict = c; agree = tables o x y h e }) (cells o x y h e);
  }
    where
      tables : (o x y : ℕ) → o < m → bit_and (codes_to x) (rows_to o) ≡ bit_and (codes_to y) (rows_to o)
          → bit_and (item given x) (given_of (item rows o)) ≡ bit_and (item given y) (given_of (item rows o))
      tables o x y h e = agree_and g (given_of (item rows o)) (item given x) (item given y) (fit o h).tables_low (λ i l r.
          sym (on_joined_next u (item codes x) (item given x) i)
          ∙ and_agree (u + g) (rows_to o) (codes_to x) (codes_to y) e (u + i) (omega arith) (on_joined_next u (open_of (item rows o)) (given_of (item rows o)) i ∙ r)
          ∙ on_joined_next u (item codes y) (item given y) i)

      cells : (o x y : ℕ) → o < m → bit_and (codes_to x) (rows_to o) ≡ bit_and (codes_to y) (rows_to o)
          → bit_and (item codes x) (open_of (item rows o)) ≡ bit_and (item codes y) (open_of (item rows o))
      cells o x y h e = agree_and u (open_of (item rows o)) (item codes x) (item codes y) (fit o h).cells_low (λ i l r.
          sym (on_joined_first u (item codes x) (item given x) i l)
          ∙ and_agree u (rows_to o) (codes_to x) (codes_to y) e i l (on_joined_first u (open_of (item rows o)) (given_of (item rows o)) i l ∙ r)
          ∙ on_joined_first u (item codes y) (item given y) i l)

  open_same : core_of u rows_to codes_to ≡ open_cells u rows codes
  open_same = cells_same u 0 rows_to (λ o. open_of (item rows o)) codes_to (item codes)
      (λ o k h. on_joined_first u (open_of (item rows o)) (given_of (item rows o)) k (omega arith)) (λ x k h. on_joined_first u (item codes x) (item given x) k (omega arith))

  given_same : (ts : List Cell) → read_by u rows_to ts ≡ given_cells rows ts
  given_same ts = read_by_same u 6 rows_to (item rows) ts (λ o d. on_joined_next u (open_of (item rows o)) (given_of (item rows o)) d ∙ sym (on_next 6 (item rows o) d))

  first_known : (n : ℕ) → Known kn val v (open_cells n rows codes)
  unfolding cells_from
  first_known zero = tt
  first_known (suc n) = found.answers.fixed

  -- rows and codes of readingsets are cells that serve
  found-has : Has cl given budgets kn val v m u g rows codes
  found-has = record {
    fit = fit;
    known = first_known u;
    serves = λ ts t. subst (Serves v m (Conflict cl) (item budgets)) (ap₂ (λ (a b : List Cell). a ++ b) open_same (given_same ts))
        (full_serves u g v m (Conflict cl) (item budgets) rows_to codes_to ts t.long joined_coded rows_low
        (λ o h. let e = rows_count o h in omega arith)
        (λ i x h a. on_joined_next u (item codes x) (item given x) i ∙ sym (t.digits i x h a)));
  }

pub chosen_sought : (cl given budgets : List ℕ) (kn val v m u g : ℕ) (none : List ℕ) (ok : Bool) (rows codes : List ℕ) → u ≤ 6 → g ≤ 10 → m ≤ 8 → Begins kn val u
    → Chosen cl given budgets kn val v m u g 0 none ok rows codes → Sought cl given budgets kn val v m u g ok rows codes
chosen_sought cl given budgets kn val v m u g none true rows codes few room outs begins c = found-has cl given budgets kn val v m u g rows codes few room outs c
chosen_sought cl given budgets kn val v m u g none false rows codes few room outs begins c = lost_lacks cl given budgets kn val v m u g few room begins none c

-- ======== where the search begins
pub rows_start : (budgets : List ℕ) (m u g : ℕ) (rows : List ℕ) → length rows ≡ 8 → Rows budgets m u g 0 rows
rows_start budgets m u g rows e = record { long = e; few = λ o h. absurd (never_both h (on_zero o)); fit = λ o h. absurd (never_both h (on_zero o)) }

pub alike-start : (kn u : ℕ) (rows : List ℕ) (same : ℕ) → Places kn u same → ReadAlike kn u 0 rows same
alike-start kn u rows same p = record { within = p.within; unknown = p.unknown; alike = λ i q h e. absurd (never_both e (on_zero q)) }

pub places_none : (kn : ℕ) → Places kn 0 0
places_none kn = record { within = λ i h. absurd (never_both h (on_zero i)); unknown = λ h. absurd (never_both h (on_zero 0)) }

pub places_all : (kn u p same : ℕ) → 0 < u → p ≡ 2 ^ (u - 1) → same ≡ p - 1 → kn ≡ 0 → Places kn u same
places_all kn u p same h d e q = record { within = λ i s. let l = first_outputs_low (u - 1) i (ap (λ (z : ℕ). on z i) (sym (e ∙ ap (λ (z : ℕ). z - 1) d)) ∙ s) in omega arith; unknown = λ s. q }

pub places_rest : (kn u p same : ℕ) → 0 < u → p ≡ 2 ^ (u - 1) → same ≡ bit_and (p - 1) 254 → Places kn u same
places_rest kn u p same h d e = record {
  within = λ i s. let l = first_outputs_low (u - 1) i (ap (λ (z : ℕ). on (z - 1) i) (sym d) ∙ and_left (on (p - 1) i) (on 254 i) (digits i s)) in omega arith;
  unknown = λ s. absurd (never_both (and_right (on (p - 1) 0) (on 254 0) (digits 0 s)) even);
}
  where
    even : on 254 0 ≡ false
    even = on-low false 127

    digits : (i : ℕ) → on same i ≡ true → andb (on (p - 1) i) (on 254 i) ≡ true
    digits i s = sym (on_and (p - 1) 254 i) ∙ ap (λ (z : ℕ). on z i) (sym e) ∙ s

-- a round that was given up is none of the last
pub unsure_early : (limit i : ℕ) (unsure : Bool) (says : Type 0) → Sure limit unsure says → (round_count ≤ i → limit ≡ no_limit) → unsure ≡ true → i < round_count
unsure_early limit i unsure says s f e = go (dec_lt i 7)
  where
    go : Dec (i < 7) → i < 7
    go (yes h) = h
    go (no h) = absurd (never_both e (s.never (f (omega arith))))

-- ---- outputs without a budget
pub sought_where : (fits : ℕ) (cl given budgets : List ℕ) (kn val v m u g : ℕ) (ok : Bool) (rows codes : List ℕ) → AllFit fits m
    → Sought cl given budgets kn val v m u g ok rows codes → SoughtWhere fits cl given budgets kn val v m u g ok rows codes
sought_where fits cl given budgets kn val v m u g true rows codes a s = (a, s)
sought_where fits cl given budgets kn val v m u g false rows codes a s = λ _. s
