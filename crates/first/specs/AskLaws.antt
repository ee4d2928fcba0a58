-- The question about one digit, put to the search: the tables before it are given, the digits before it are known, and the digit is
-- known to be 0. Cells found are a witness with these tables and digits, and where none are found no such tables serve: a core with
-- them would be given cells and open ones. Assumes nothing.
use Rattle.std.specs.Prelude.{◌≡◌, Bool, true, false, List, ℕ, zero, suc, ◌+◌, ◌-◌, ◌^◌, ◌≤◌, ◌<◌, min, length, get_or, take, drop}
use Rattle.std.proofs.Common.{sym, ap, ◌∙◌, subst, ⊎_elim, arith, length-take, length-drop}
use Rattle.std.proofs.Math.Decide.{dec_lt}
use Rattle.bits.specs.Logic.{xorb}
use Rattle.bits.specs.LogicLaws.{true_false, xor_off, xor_self}
use Rattle.bits.specs.Digit.{on}
use Rattle.bits.specs.Count.{count}
use Rattle.bits.specs.CountLaws.{less_or_equal}
use Rattle.order.specs.TablesLaws.{shaped_at}
use Rattle.cells.specs.PigeonLaws.{agree_and, and_agree}
use Rattle.cells.specs.FullSizeLaws.{full_of, read_by_length, read_by_code, xor_same}
use Rattle.cells.specs.CodesLaws.{cells-length, core_serves}
use Rattle.cells.specs.Core.{Cell, Serves, cells_from, core_of}
use Rattle.cells.specs.Codes.{code_of}
use Rattle.cells.specs.FullSize.{Full}
use Rattle.cells.specs.WrittenLaws.{core_code, table-digit}
use Rattle.order.specs.LeastTables.{table}
use Rattle.problem.specs.Problem.{item}
use Rattle.relation.specs.Relation.{Conflict}
use Rattle.subproblems.specs.Subproblem.{open_of}
use Rattle.seeking.specs.Seeking.{Tables, Known, Lacks, Has, Sought, open_cells, given_cells}
use Rattle.cache.specs.Cache.{Honest}
use Rattle.witness.specs.Witness.{Witness, Digits, Joined}
use Rattle.first.specs.Drawn.{shown, Upto, Stands, Remembers, Replied}
use Rattle.first.specs.DrawnLaws.{agrees_before, agrees-here, agrees_zero, shown_shaped, shown-digit, shown-agrees}
use Rattle.first.specs.PartLaws.{parts_exchanged, rest_first, code_take, known_drop}

-- the first of some open cells has its known digits, in codes
first_known : (kn val v n : ℕ) (rows codes : List ℕ) → 0 < n → Known kn val v (open_cells n rows codes) → (x : ℕ) → x < v → on kn x ≡ true → on (item codes x) 0 ≡ on val x
unfolding cells_from
first_known kn val v zero rows codes h k = absurd (omega arith)
first_known kn val v (suc n) rows codes h k = k

module _ (cl budgets given codes : List ℕ) (v m u i x kn val : ℕ) (few : v ≤ 32) (cells : u ≤ 6) (h : i < u) (l : x < v)
    (w : Witness cl budgets v m u codes) (t : Stands codes i v given) (n : Upto x kn) (d : Digits codes i x val) where
  pub val_first : on val 0 ≡ false
  val_first = go (dec_lt 0 x)
    where
      go : Dec (0 < x) → on val 0 ≡ false
      go (yes b) = d.are 0 b ∙ w.zero i h
      go (no b) = d.others 0 (omega arith)

  -- ======== found
  module _ (rows opened r : List ℕ) (has : Has cl given budgets kn val v m (u - i) i rows opened) (j : Joined codes opened i r) where
    opened_digit : (y : ℕ) → y < suc x → on (item opened y) 0 ≡ on val y
    opened_digit y b = first_known kn val v (u - i) rows opened (omega arith) has.known y (omega arith) (n.has y (omega arith))

    joined-digit : (y : ℕ) → y < suc x → on (item r y) i ≡ on val y
    joined-digit y b = ap (on (item r y)) (let e : i ≡ i + 0 = omega arith in e) ∙ j.after y 0 (omega arith) (omega arith)
        ∙ xor_off (on (item opened y) 0) (on (item opened 0) 0) (opened_digit 0 (omega arith) ∙ val_first) ∙ opened_digit y b

    abbrev front : List Cell
    front = core_of i (λ o. 0) (item codes)

    front_tables : Tables given v i front
    front_tables = record {
      long = cells-length i 0 (λ o. 0) (item codes);
      digits = λ k y a b. core_code y k i (λ o. 0) (item codes) a ∙ sym (t.digits k y a b);
    }

    abbrev opens : List Cell
    opens = open_cells (u - i) rows opened

    numbers : (rs : ℕ → ℕ) × (cs : ℕ → ℕ) × Full i (u - i) v m (Conflict cl) (item budgets) (code_of opens) rs cs
        × ((k y : ℕ) → k < length (given_cells rows front) → on (cs y) k ≡ on (code_of (given_cells rows front) y) k)
    numbers = full_of i (u - i) v m (Conflict cl) (item budgets) (given_cells rows front) opens
        (let e = read_by_length 6 (item rows) front in let f = cells-length i 0 (λ o. 0) (item codes) in omega arith)
        (cells-length (u - i) 0 (λ o. open_of (item rows o)) (item opened))
        (parts_exchanged v m (Conflict cl) (item budgets) opens (given_cells rows front) (has.serves front front_tables))

    all : i + (u - i) ≡ u
    all = omega arith

    -- what the joined codes do not tell apart, those found do not
    joined-alike : (k y z : ℕ) → k < u → y < v → z < v → on (item r y) k ≡ on (item r z) k → on (numbers.1 y) k ≡ on (numbers.1 z) k
    joined-alike k y z a b c e = go (dec_lt k i)
      where
        before : (y : ℕ) → k < i → y < v → on (numbers.1 y) k ≡ on (item r y) k
        before y n b =
            numbers.3 k y (let e = read_by_length 6 (item rows) front in let f = cells-length i 0 (λ o. 0) (item codes) in omega arith)
            ∙ ap (λ (c : ℕ). on c k) (read_by_code 6 (item rows) front y) ∙ core_code y k i (λ o. 0) (item codes) n ∙ sym (j.before y k (omega arith) n)

        after : (y : ℕ) → i ≤ k → on (numbers.1 y) k ≡ on (item opened y) (k - i)
        after y n = ap (on (numbers.1 y)) (let e : k ≡ i + (k - i) = omega arith in e) ∙ numbers.2.known (k - i) y (omega arith)
            ∙ core_code y (k - i) (u - i) (λ o. open_of (item rows o)) (item opened) (omega arith)

        complemented : (y : ℕ) → i ≤ k → y < v → on (item r y) k ≡ xorb (on (item opened y) (k - i)) (on (item opened 0) (k - i))
        complemented y n b = ap (on (item r y)) (let e : k ≡ i + (k - i) = omega arith in e) ∙ j.after y (k - i) (omega arith) (omega arith)

        go : Dec (k < i) → on (numbers.1 y) k ≡ on (numbers.1 z) k
        go (yes n) = before y n b ∙ e ∙ sym (before z n c)
        go (no n) = let q : i ≤ k = omega arith in
            after y q ∙ xor_same (on (item opened y) (k - i)) (on (item opened z) (k - i)) (on (item opened 0) (k - i))
            (sym (complemented y q b) ∙ e ∙ complemented z q c) ∙ sym (after z q)

    joined_serves : Serves v m (Conflict cl) (item budgets) (core_of u numbers.0 (item r))
    joined_serves = core_serves u v m (Conflict cl) (item budgets) numbers.0 (item r)
        (record {
          tells = λ o y z a b c q e. numbers.2.coded.tells o y z a b c q
              (agree_and u (numbers.0 o) (numbers.1 y) (numbers.1 z) (short o)
              (λ k g p. joined-alike k y z g b c (and_agree u (numbers.0 o) (item r y) (item r z) e k g p)));
        })
        (λ o a. short o)
        (λ o a. let e = full o a in omega arith)
      where
        short : (o : ℕ) → numbers.0 o < 2 ^ u
        short o = subst (λ (n : ℕ). numbers.0 o < 2 ^ n) all (numbers.2.short o)

        full : (o : ℕ) → o < m → count (on (numbers.0 o)) u ≡ min (item budgets o) u
        full o a = subst (λ (n : ℕ). count (on (numbers.0 o)) n ≡ min (item budgets o) n) all (numbers.2.full o a)

    joined_zero : (k : ℕ) → k < u → on (item r 0) k ≡ false
    joined_zero k a = go (dec_lt k i)
      where
        go : Dec (k < i) → on (item r 0) k ≡ false
        go (yes n) = j.before 0 k (omega arith) n ∙ w.zero k a
        go (no n) = ap (on (item r 0)) (let e : k ≡ i + (k - i) = omega arith in e) ∙ j.after 0 (k - i) (omega arith) (omega arith) ∙ xor_self (on (item opened 0) (k - i))

    has_replied : Replied cl budgets v m u codes i x true r
    has_replied = (
      record { long = j.long; rows = numbers.0; serves = joined_serves; zero = joined_zero },
      shown-agrees v u i x codes r h l (λ k y a b. j.before y k (omega arith) a)
          (λ y a. joined-digit y (omega arith) ∙ d.are y a)
          (joined-digit x (omega arith) ∙ d.others x (omega arith)),
    )

  -- ======== none
  module _ (lacks : Lacks cl given budgets kn val v m (u - i) i) where
    lacks_replied : (r : List ℕ) → Replied cl budgets v m u codes i x false r
    lacks_replied r vs s drawn a = lacks.none (drop i c) (take i c) (length-drop i c ∙ ap (λ (n : ℕ). n - i) drawn.counted) tables
        (known_drop kn val v i c (λ y b e. (let f = n.no_more y e in known y b (omega arith))))
        (rest_first v m (Conflict cl) (item budgets) i c drawn.serves)
      where
        c : List Cell
        c = drawn.cells

        within : x < length (table (shown v u codes) i)
        within = subst (λ (n : ℕ). x < n) (sym (shaped_at (shown_shaped v u codes) i h)) l

        digit : (k y : ℕ) → k < u → y < v → on (code_of c y) k ≡ get_or (table vs k) y false
        digit k y p q = sym (table-digit v y k c q (let e = drawn.counted in omega arith)) ∙ ap (λ (ts : List (List Bool)). get_or (table ts k) y false) drawn.tables

        tables : Tables given v i (take i c)
        tables = record {
          long = length-take i c ∙ (let e = drawn.counted in let f : min i (length c) ≡ i = omega arith in f);
          digits = λ k y p q. code_take i k y c p ∙ digit k y (omega arith) q ∙ agrees_before i x k y (shown v u codes) vs p a
              ∙ shown-digit v u k y codes (omega arith) q ∙ sym (t.digits k y p q);
        }

        known : (y : ℕ) → y < v → y < suc x → on (code_of c y) i ≡ on val y
        known y b e = digit i y h b ∙ ⊎_elim
            (λ q. agrees-here i x y (shown v u codes) vs within q a ∙ shown-digit v u i y codes h b ∙ sym (d.are y q))
            (λ q. subst (λ (y : ℕ). get_or (table vs i) y false ≡ on val y) (sym q) (agrees_zero i x (shown v u codes) vs within a ∙ sym (d.others x (omega arith))))
            (less_or_equal y x e)

  -- ======== either
  remembers_asked : (mem : List ℕ) → Honest cl given kn val v mem → Remembers cl given v mem
  remembers_asked mem h = record { kn = kn; val = val; free = λ _. val_first; honest = h }

  pub found_replied : (rows opened r mem : List ℕ) (ok : Bool) → Sought cl given budgets kn val v m (u - i) i ok rows opened → ok ≡ true
      → Joined codes opened i r → Honest cl given kn val v mem → Replied cl budgets v m u codes i x true r × Remembers cl given v mem
  found_replied rows opened r mem true s e j h = (has_replied rows opened r s j, remembers_asked mem h)
  found_replied rows opened r mem false s e j h = absurd (true_false (sym e))

  pub none_replied : (rows opened r mem : List ℕ) (ok : Bool) → Sought cl given budgets kn val v m (u - i) i ok rows opened → ok ≡ false
      → Honest cl given kn val v mem → Replied cl budgets v m u codes i x false r × Remembers cl given v mem
  none_replied rows opened r mem true s e h = absurd (true_false e)
  none_replied rows opened r mem false s e h = (lacks_replied s r, remembers_asked mem h)
