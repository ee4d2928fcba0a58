-- From lists to numbers: idle cells fill the open ones up to u, and each output reads more cells until it reads as many as it may, or
-- all; reading more tells apart more, and no table changes by that. From numbers to lists: the given cells have their tables, so the
-- numbers' cells can be replaced by them. Open cells may be asked to be 0 at vertex 0: one number exclusive-or'd to all codes changes
-- no pair that is told apart. Assumes nothing.
use Rattle.std.specs.Prelude.{◌≡◌, refl, Bool, true, false, not, List, [], ◌∷◌, ◌++◌, ◌⊎◌, ℕ, zero, suc, ◌+◌, ◌-◌, ◌*◌, ◌^◌, min, ◌≤◌, ◌<◌, leb, length}
use Rattle.std.proofs.Common.{sym, ap, ap₂, ◌∙◌, subst, inl, inr, ⊎_elim, arith, length-append, pow_pos, le-leb}
use Rattle.std.proofs.Math.Decide.{dec_lt}
use Rattle.std.specs.Int.Bits.{bit_and, bit_xor}
use Rattle.std.proofs.lemmas.Nat.{and_le_r}
use Rattle.std.proofs.lemmas.Bool.{lt-leb}
use Rattle.bits.specs.Logic.{andb, xorb, bit}
use Rattle.bits.specs.Digit.{on}
use Rattle.bits.specs.DigitLaws.{on_zero, on_and, on_xor, on-ones, on_above, equal_digits}
use Rattle.bits.specs.LogicLaws.{and_true, and_false, xor_off, xor_self}
use Rattle.bits.specs.Count.{count}
use Rattle.cells.specs.PigeonLaws.{and_agree}
use Rattle.cells.specs.FreeLaws.{filled-length, filled_apart, filled-reading}
use Rattle.cells.specs.CodesLaws.{on-low, on_high, on_digits, number_lt, number-reading, number-apart, core_serves}
use Rattle.cells.specs.Core.{Cell, Apart, reading, Serves, cells_from, core_of}
use Rattle.cells.specs.Free.{filled}
use Rattle.cells.specs.Codes.{Coded, number_of, row_of, code_of, digits_of}
use Rattle.cells.specs.Reorder.{Off}
use Rattle.cells.specs.FullSize.{Full, read_by, between, cleared}

-- n cells that are 0 everywhere and that nobody reads
unfoldable idle : ℕ → List Cell
idle zero = []
idle (suc n) = record { table = λ x. false; readers = λ o. false } ∷ idle n

-- ---- lists after one another
append-reading : (o : ℕ) (l a b : List Cell) → reading o a ≡ reading o b → reading o (l ++ a) ≡ reading o (l ++ b)
unfolding reading
append-reading o [] a b e = e
append-reading o (c ∷ l) a b e = ap (λ (n : ℕ). bit (c.readers o) + n) (append-reading o l a b e)

append-apart : (o x y : ℕ) (l a b : List Cell) → (Apart o x y a → Apart o x y b) → Apart o x y (l ++ a) → Apart o x y (l ++ b)
append-apart o x y [] a b f h = f h
append-apart o x y (c ∷ l) a b f h = ⊎_elim inl (λ r. inr (append-apart o x y l a b f r)) h

idle-length : (n : ℕ) → length (idle n) ≡ n
unfolding idle
idle-length zero = refl
idle-length (suc n) = ap suc (idle-length n)

idle-reading : (o n : ℕ) (l : List Cell) → reading o (idle n ++ l) ≡ reading o l
unfolding idle reading
idle-reading o zero l = refl
idle-reading o (suc n) l = let e = idle-reading o n l in omega arith

idle-apart : (o x y n : ℕ) (l : List Cell) → Apart o x y l → Apart o x y (idle n ++ l)
unfolding idle
idle-apart o x y zero l a = a
idle-apart o x y (suc n) l a = inr (idle-apart o x y n l a)

-- ---- digits of codes
pub code_first : (c : Cell) (l : List Cell) (x : ℕ) → on (code_of (c ∷ l) x) 0 ≡ c.table x
unfolding number_of
code_first c l x = on-low (c.table x) (code_of l x)

pub code_next : (c : Cell) (l : List Cell) (x i : ℕ) → on (code_of (c ∷ l) x) (suc i) ≡ on (code_of l x) i
unfolding number_of
code_next c l x i = on_high (c.table x) (code_of l x) i

code_append_first : (l k : List Cell) (x i : ℕ) → i < length l → on (code_of (l ++ k) x) i ≡ on (code_of l x) i
code_append_first [] k x i h = absurd (omega arith)
code_append_first (c ∷ l) k x zero h = code_first c (l ++ k) x ∙ sym (code_first c l x)
code_append_first (c ∷ l) k x (suc i) h = code_next c (l ++ k) x i ∙ code_append_first l k x i (omega arith) ∙ sym (code_next c l x i)

code_append_next : (l k : List Cell) (x i : ℕ) → on (code_of (l ++ k) x) (length l + i) ≡ on (code_of k x) i
code_append_next [] k x i = ap (on (code_of k x)) (let e : 0 + i ≡ i = omega arith in e)
code_append_next (c ∷ l) k x i =
    ap (on (code_of (c ∷ l ++ k) x)) (let e : suc (length l) + i ≡ suc (length l + i) = omega arith in e)
    ∙ code_next c (l ++ k) x (length l + i) ∙ code_append_next l k x i

filled_code : (d : ℕ → ℕ) (l : List Cell) (x : ℕ) → code_of (filled d l) x ≡ code_of l x
unfolding filled number_of
filled_code d [] x = refl
filled_code d (c ∷ l) x = ap (λ (n : ℕ). bit (c.table x) + 2 * n) (filled_code (λ (o : ℕ). d o - bit (not (c.readers o))) l x)

-- ---- from lists to numbers
full_of_length : (u v m : ℕ) (Conflict : ℕ → ℕ → ℕ → Type 0) (budget : ℕ → ℕ) (l given : List Cell) → length l ≤ u → Serves v m Conflict budget (l ++ given)
    → (rows : ℕ → ℕ) × (codes : ℕ → ℕ) × Full u (length given) v m Conflict budget (code_of given) rows codes
    × ((i x : ℕ) → i < length l → on (codes x) i ≡ on (code_of l x) i)
full_of_length u v m Conflict budget l given h s = (
  row_of k,
  code_of k,
  record {
    coded = record {
      tells = λ o x y i p q c e. number-apart o x y k (filled_apart o x y d k₀ (apart o x y (s.tells o x y i p q c)))
          (λ i r. and_agree (suc i) (row_of k o) (code_of k x) (code_of k y) e i (omega arith) r);
    };
    full = λ o i. subst (λ (n : ℕ). count (on (row_of k o)) n ≡ min (budget o) (u + length given)) long
        (number-reading o k ∙ filled-reading o d k₀ ∙ (let b = s.within o i in let r = same o in let z = long₀ in omega arith));
    short = λ o. subst (λ (n : ℕ). row_of k o < 2 ^ n) long (number_lt (λ c. c.readers o) k);
    low = λ x. subst (λ (n : ℕ). code_of k x < 2 ^ n) long (number_lt (λ c. c.table x) k);
    known = λ i x b. ap (λ (z : ℕ). on z (u + i)) (filled_code d k₀ x) ∙ ap (on (code_of k₀ x)) (place i) ∙ code_append_next l (idle pad ++ given) x (length (idle pad) + i)
        ∙ code_append_next (idle pad) given x i;
  },
  λ i x b. ap (λ (z : ℕ). on z i) (filled_code d k₀ x) ∙ code_append_first l (idle pad ++ given) x i b,
)
  where
    pad : ℕ
    pad = u - length l

    k₀ : List Cell
    k₀ = l ++ (idle pad ++ given)

    d : ℕ → ℕ
    d o = budget o - reading o k₀

    k : List Cell
    k = filled d k₀

    long₀ : length k₀ ≡ u + length given
    long₀ = length-append l (idle pad ++ given) ∙ ap (λ (n : ℕ). length l + n) (length-append (idle pad) given)
        ∙ (let e = idle-length pad in let f : length l + (length (idle pad) + length given) ≡ u + length given = omega arith in f)

    long : length k ≡ u + length given
    long = filled-length d k₀ ∙ long₀

    same : (o : ℕ) → reading o k₀ ≡ reading o (l ++ given)
    same o = append-reading o l (idle pad ++ given) given (idle-reading o pad given)

    apart : (o x y : ℕ) → Apart o x y (l ++ given) → Apart o x y k₀
    apart o x y a = append-apart o x y l given (idle pad ++ given) (idle-apart o x y pad given) a

    place : (i : ℕ) → u + i ≡ length l + (length (idle pad) + i)
    place i = let e = idle-length pad in omega arith

-- a core that serves with at most u cells beside the given ones gives one of u open cells in which each output reads as
-- many cells as it may; the tables are kept
pub full_of : (u g v m : ℕ) (Conflict : ℕ → ℕ → ℕ → Type 0) (budget : ℕ → ℕ) (l given : List Cell) → length l ≤ u → length given ≡ g
    → Serves v m Conflict budget (l ++ given)
    → (rows : ℕ → ℕ) × (codes : ℕ → ℕ) × Full u g v m Conflict budget (code_of given) rows codes × ((i x : ℕ) → i < length l → on (codes x) i ≡ on (code_of l x) i)
full_of u g v m Conflict budget l given h e s =
    let r = full_of_length u v m Conflict budget l given h s in
    (r.0, r.1, subst (λ (g : ℕ). Full u g v m Conflict budget (code_of given) r.0 r.1) e r.2, r.3)

-- ---- from numbers to lists
pub read_by_length : (i : ℕ) (rows : ℕ → ℕ) (l : List Cell) → length (read_by i rows l) ≡ length l
unfolding read_by
read_by_length i rows [] = refl
read_by_length i rows (c ∷ l) = ap suc (read_by_length (suc i) rows l)

pub read_by_code : (i : ℕ) (rows : ℕ → ℕ) (l : List Cell) (x : ℕ) → code_of (read_by i rows l) x ≡ code_of l x
unfolding read_by number_of
read_by_code i rows [] x = refl
read_by_code i rows (c ∷ l) x = ap (λ (n : ℕ). bit (c.table x) + 2 * n) (read_by_code (suc i) rows l x)

cells_split : (u g i : ℕ) (rows codes : ℕ → ℕ) → cells_from (u + g) i rows codes ≡ cells_from u i rows codes ++ cells_from g (i + u) rows codes
unfolding cells_from
cells_split zero g i rows codes = ap₂ (λ (n i : ℕ). cells_from n i rows codes) (let e : 0 + g ≡ g = omega arith in e) (let e : i ≡ i + 0 = omega arith in e)
cells_split (suc u) g i rows codes =
    ap (λ (n : ℕ). cells_from n i rows codes) (let e : suc u + g ≡ suc (u + g) = omega arith in e)
    ∙ ap (λ (l : List Cell). record { table = λ x. on (codes x) i; readers = λ o. on (rows o) i } ∷ l)
    (cells_split u g (suc i) rows codes ∙ ap (λ (n : ℕ). cells_from u (suc i) rows codes ++ cells_from g n rows codes) (let e : suc i + u ≡ i + suc u = omega arith in e))

-- codes agree at x with the tables of l, from digit i on
abbrev Tables : ℕ → (ℕ → ℕ) → List Cell → ℕ → Type 0
Tables i codes l x = (d : ℕ) → d < length l → on (codes x) (i + d) ≡ on (code_of l x) d

tables_first : (i : ℕ) (codes : ℕ → ℕ) (c : Cell) (l : List Cell) (x : ℕ) → Tables i codes (c ∷ l) x → on (codes x) i ≡ c.table x
tables_first i codes c l x t = ap (on (codes x)) (let e : i ≡ i + 0 = omega arith in e) ∙ t 0 (omega arith) ∙ code_first c l x

tables_next : (i : ℕ) (codes : ℕ → ℕ) (c : Cell) (l : List Cell) (x : ℕ) → Tables i codes (c ∷ l) x → Tables (suc i) codes l x
tables_next i codes c l x t d h = ap (on (codes x)) (let e : suc i + d ≡ i + suc d = omega arith in e) ∙ t (suc d) (omega arith) ∙ code_next c l x d

read_by_apart : (o x y i : ℕ) (rows codes : ℕ → ℕ) (l : List Cell) → Tables i codes l x → Tables i codes l y → Apart o x y (cells_from (length l) i rows codes) → Apart o x y (read_by i rows l)
unfolding cells_from read_by
read_by_apart o x y i rows codes [] s t a = a
read_by_apart o x y i rows codes (c ∷ l) s t a = ⊎_elim
    (λ p. inl (p.0, λ e. p.1 (tables_first i codes c l x s ∙ e ∙ sym (tables_first i codes c l y t))))
    (λ r. inr (read_by_apart o x y (suc i) rows codes l (tables_next i codes c l x s) (tables_next i codes c l y t) r))
    a

read_by_reading : (o i : ℕ) (rows codes : ℕ → ℕ) (l : List Cell) → reading o (cells_from (length l) i rows codes) ≡ reading o (read_by i rows l)
unfolding cells_from read_by reading
read_by_reading o i rows codes [] = refl
read_by_reading o i rows codes (c ∷ l) = ap (λ (n : ℕ). bit (on (rows o) i) + n) (read_by_reading o (suc i) rows codes l)

-- rows and codes within the budgets, the given cells having their tables, give cells that serve
pub full_serves : (u g v m : ℕ) (Conflict : ℕ → ℕ → ℕ → Type 0) (budget rows codes : ℕ → ℕ) (given : List Cell) → length given ≡ g
    → Coded v m Conflict rows codes → ((o : ℕ) → o < m → rows o < 2 ^ (u + g)) → ((o : ℕ) → o < m → count (on (rows o)) (u + g) ≤ budget o)
    → ((i x : ℕ) → i < g → x < v → on (codes x) (u + i) ≡ on (code_of given x) i)
    → Serves v m Conflict budget (core_of u rows codes ++ read_by u rows given)
full_serves u g v m Conflict budget rows codes given e c short within known = record {
  tells = λ o x y h p q k. append-apart o x y (core_of u rows codes) (cells_from (length given) u rows codes) (read_by u rows given)
      (read_by_apart o x y u rows codes given (λ d b. known d x (omega arith) p) (λ d b. known d y (omega arith) q))
      (subst (Apart o x y) split (s.tells o x y h p q k));
  within = λ o h. subst (λ (n : ℕ). n ≤ budget o)
      (ap (reading o) split ∙ append-reading o (core_of u rows codes) (cells_from (length given) u rows codes) (read_by u rows given) (read_by_reading o u rows codes given))
      (s.within o h);
}
  where
    s : Serves v m Conflict budget (core_of (u + g) rows codes)
    s = core_serves (u + g) v m Conflict budget rows codes c short within

    split : core_of (u + g) rows codes ≡ core_of u rows codes ++ cells_from (length given) u rows codes
    split = cells_split u g 0 rows codes ∙ ap₂ (λ (n i : ℕ). core_of u rows codes ++ cells_from n i rows codes) (sym e) (let e : 0 + u ≡ u = omega arith in e)

-- ---- 0 at vertex 0
pub xor_same : (a b c : Bool) → xorb a c ≡ xorb b c → a ≡ b
xor_same true true c e = refl
xor_same false false c e = refl
xor_same true false true e = sym e
xor_same true false false e = e
xor_same false true true e = sym e
xor_same false true false e = e

-- one number exclusive-or'd to all codes: what was told apart still is
zeroed_coded : (v j : ℕ) (Conflict : ℕ → ℕ → ℕ → Type 0) (rows codes : ℕ → ℕ) (c : ℕ) → Coded v j Conflict rows codes → Coded v j Conflict rows (λ x. bit_xor (codes x) c)
zeroed_coded v j Conflict rows codes c s = record { tells = λ o x y h p q k e. s.tells o x y h p q k (same (rows o) (codes x) (codes y) e) }
  where
    same : (r a b : ℕ) → bit_and (bit_xor a c) r ≡ bit_and (bit_xor b c) r → bit_and a r ≡ bit_and b r
    same r a b e = equal_digits (bit_and a r) (bit_and b r) (λ i. on_and a r i ∙ go i (on r i) refl ∙ sym (on_and b r i))
      where
        go : (i : ℕ) (t : Bool) → on r i ≡ t → andb (on a i) t ≡ andb (on b i) t
        go i true q = ap (λ (z : Bool). andb z true) (xor_same (on a i) (on b i) (on c i)
            (sym (on_xor a c i) ∙ and_agree (suc i) r (bit_xor a c) (bit_xor b c) e i (omega arith) q ∙ on_xor b c i))
        go i false q = and_false (on a i) ∙ sym (and_false (on b i))

digits_above : (p : ℕ → Bool) (n i : ℕ) → n ≤ i → on (digits_of p n) i ≡ false
unfolding digits_of
digits_above p zero i h = on_zero i
digits_above p (suc n) zero h = absurd (omega arith)
digits_above p (suc n) (suc i) h = on_high (p 0) (digits_of (λ (i : ℕ). p (suc i)) n) i ∙ digits_above (λ (i : ℕ). p (suc i)) n i (omega arith)

-- a number without digits from w on is below 2 ^ w
low_digits : (w n : ℕ) → ((i : ℕ) → w ≤ i → on n i ≡ false) → n < 2 ^ w
low_digits w n h =
    let e : bit_and n (2 ^ w - 1) ≡ n = equal_digits (bit_and n (2 ^ w - 1)) n (λ i. on_and n (2 ^ w - 1) i ∙ go i (dec_lt i w)) in
    let l = and_le_r n (2 ^ w - 1) in
    let p : 0 < 2 ^ w = pow_pos w in
    omega arith
  where
    go : (i : ℕ) → Dec (i < w) → andb (on n i) (on (2 ^ w - 1) i) ≡ on n i
    go i (yes l) = ap (λ (b : Bool). andb (on n i) b) (on-ones w i l) ∙ and_true (on n i)
    go i (no l) = ap (λ (b : Bool). andb b (on (2 ^ w - 1) i)) (h i (omega arith)) ∙ sym (h i (omega arith))

between_out : (k u n i : ℕ) → (i < k) ⊎ (u ≤ i) → on (between k u n) i ≡ false
between_out k u n i = ⊎_elim (λ a. below a (dec_lt i u)) (λ b. digits_above (λ (i : ℕ). andb (leb k i) (on n i)) u i b)
  where
    below : i < k → Dec (i < u) → on (between k u n) i ≡ false
    below a (yes l) = on_digits (λ (i : ℕ). andb (leb k i) (on n i)) u i l ∙ ap (λ (b : Bool). andb b (on n i)) (lt-leb k i a)
    below a (no l) = digits_above (λ (i : ℕ). andb (leb k i) (on n i)) u i (omega arith)

module _ (k u : ℕ) (codes : ℕ → ℕ) where
  cleared-kept : (x i : ℕ) → (i < k) ⊎ (u ≤ i) → on (cleared k u codes x) i ≡ on (codes x) i
  cleared-kept x i h = on_xor (codes x) (between k u (codes 0)) i ∙ xor_off (on (codes x) i) (on (between k u (codes 0)) i) (between_out k u (codes 0) i h)

  pub cleared_off : Off k u (cleared k u codes 0)
  cleared_off i a b =
      on_xor (codes 0) (between k u (codes 0)) i
      ∙ ap (xorb (on (codes 0) i)) (on_digits (λ (i : ℕ). andb (leb k i) (on (codes 0) i)) u i b ∙ ap (λ (t : Bool). andb t (on (codes 0) i)) (le-leb k i a))
      ∙ xor_self (on (codes 0) i)

  cleared-low : (x n : ℕ) → u ≤ n → codes x < 2 ^ n → cleared k u codes x < 2 ^ n
  cleared-low x n l h = low_digits n (cleared k u codes x) (λ i a. cleared-kept x i (inr (omega arith)) ∙ on_above n (codes x) i h a)

-- ---- what keeps a core full
pub cleared-full : (k u g v m : ℕ) (Conflict : ℕ → ℕ → ℕ → Type 0) (budget given rows codes : ℕ → ℕ) → Full u g v m Conflict budget given rows codes
    → Full u g v m Conflict budget given rows (cleared k u codes)
cleared-full k u g v m Conflict budget given rows codes s = record {
  coded = zeroed_coded v m Conflict rows codes (between k u (codes 0)) s.coded;
  full = s.full;
  short = s.short;
  low = λ x. cleared-low k u codes x (u + g) (omega arith) (s.low x);
  known = λ i x h. cleared-kept k u codes x (u + i) (inr (omega arith)) ∙ s.known i x h;
}
