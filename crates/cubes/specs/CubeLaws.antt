-- Reading a cube line is the inverse of printing it, both ways: a line has one spelling for a cube, and says one cube. Its length
-- is that of both parts and the space, and it is never the last line of a PLA text. Assumes nothing.
use Rattle.std.specs.Prelude.{◌≡◌, refl, Bool, true, false, List, [], ◌∷◌, ◌++◌, map, ℕ, zero, suc, ◌+◌, eqb, length, get_or}
use Rattle.std.proofs.Common.{sym, ap, ap₂, ◌∙◌, append-nil, arith, length-append, eqb-true}
use Rattle.std.proofs.Math.Option.{Option, some, none}
use Rattle.std.proofs.lemmas.List.{length-map}
use Rattle.bits.specs.Logic.{pick}
use Rattle.text.specs.Bytes.{bytes, Read, found, after, eat, space}
use Rattle.text.specs.EatLaws.{bad_found, found-item, found-rest, eat-found, after-found, whole-found, found-whole}
use Rattle.cubes.specs.Cube.{Literal, is_zero, is_one, any, Cube, literal_byte, literal_of, ahead}
use Rattle.cubes.specs.Spelled.{CubeWritten}
use Rattle.cubes.specs.Cube.{print_cube, read_literals, read_bytes, read_cube}

-- ---- one literal
literal_read_of_print : (a : Literal) → literal_of (literal_byte a) ≡ some a
literal_read_of_print is_zero = refl
literal_read_of_print is_one = refl
literal_read_of_print any = refl

literal_print_of_read : (b : ℕ) (a : Literal) → literal_of b ≡ some a → b ≡ literal_byte a
literal_print_of_read b a e = go (eqb b 0x30) (eqb b 0x31) (eqb b 0x2D) (eqb-true b 0x30) (eqb-true b 0x31) (eqb-true b 0x2D) e
  where
    go : (x y z : Bool)
        → (x ≡ true → b ≡ 0x30)
        → (y ≡ true → b ≡ 0x31)
        → (z ≡ true → b ≡ 0x2D)
        → pick x (some is_zero) (pick y (some is_one) (pick z (some any) none)) ≡ some a
        → b ≡ literal_byte a
    go true y z p q r e =
        let f : is_zero ≡ a = cc in
        p refl ∙ ap literal_byte f
    go false true z p q r e =
        let f : is_one ≡ a = cc in
        q refl ∙ ap literal_byte f
    go false false true p q r e =
        let f : any ≡ a = cc in
        r refl ∙ ap literal_byte f
    go false false false p q r e = cc

-- ---- an item before others
-- the item, the others, and what was read of each
record Ahead {A : Type 0} (x : Option A) (r : Read (List A)) (all : List A) (t : List ℕ) : Type 0 where
  pub item : A
  pub others : List A
  pub item_is : x ≡ some item
  pub others_are : r ≡ found others t
  pub all_are : item ∷ others ≡ all

ahead-found : {A : Type 0} (x : Option A) (r : Read (List A)) (all : List A) (t : List ℕ) → ahead x r ≡ found all t → Ahead x r all t
ahead-found none r all t e = absurd (bad_found e)
ahead-found {A} (some a) r all t e =
    let f = after-found r (λ (others : List A) (s : List ℕ). found (a ∷ others) s) all t e in
    record {
      item = a;
      others = f.0;
      item_is = refl;
      others_are = f.2 ∙ ap (λ (s : List ℕ). found f.0 s) (found-rest f.3);
      all_are = found-item f.3;
    }

-- ---- so many literals
literals_read_of_print : (ls : List Literal) (t : List ℕ) → read_literals (length ls) (map literal_byte ls ++ t) ≡ found ls t
unfolding read_literals
literals_read_of_print [] t = refl
literals_read_of_print (a ∷ ls) t = rw (literal_read_of_print a, literals_read_of_print ls t) refl

-- k literals at the front of s, with t after them
record LiteralsFront (k : ℕ) (s : List ℕ) (ls : List Literal) (t : List ℕ) : Type 0 where
  pub counted : length ls ≡ k
  pub is_split : s ≡ map literal_byte ls ++ t

literals_print_of_read : (k : ℕ) (s : List ℕ) (ls : List Literal) (t : List ℕ) → read_literals k s ≡ found ls t → LiteralsFront k s ls t
unfolding read_literals
literals_print_of_read zero s ls t e = rw (← found-item e, ← found-rest e) (record { counted = refl; is_split = refl })
literals_print_of_read (suc k) [] ls t e = absurd (bad_found e)
literals_print_of_read (suc k) (b ∷ s) ls t e =
    let f = ahead-found (literal_of b) (read_literals k s) ls t e in
    let p = literals_print_of_read k s f.others t f.others_are in
    let r : LiteralsFront (suc k) (b ∷ s) (f.item ∷ f.others) t =
    record {
      counted = ap suc p.counted;
      is_split = ap₂ (λ (x : ℕ) (l : List ℕ). x ∷ l) (literal_print_of_read b f.item f.item_is) p.is_split;
    } in
    rw f.all_are at r

-- ---- so many bytes
bytes_read_of_print : (ms t : List ℕ) → read_bytes (length ms) (ms ++ t) ≡ found ms t
unfolding read_bytes
bytes_read_of_print [] t = refl
bytes_read_of_print (m ∷ ms) t = rw (bytes_read_of_print ms t) refl

-- k bytes at the front of s, with t after them
record BytesFront (k : ℕ) (s ms t : List ℕ) : Type 0 where
  pub counted : length ms ≡ k
  pub is_split : s ≡ ms ++ t

bytes_print_of_read : (k : ℕ) (s ms t : List ℕ) → read_bytes k s ≡ found ms t → BytesFront k s ms t
unfolding read_bytes
bytes_print_of_read zero s ms t e = rw (← found-item e, ← found-rest e) (record { counted = refl; is_split = refl })
bytes_print_of_read (suc k) [] ms t e = absurd (bad_found e)
bytes_print_of_read (suc k) (b ∷ s) ms t e =
    let f = ahead-found (some b) (read_bytes k s) ms t e in
    let p = bytes_print_of_read k s f.others t f.others_are in
    let same : b ≡ f.item = go b f.item f.item_is in
    let r : BytesFront (suc k) (b ∷ s) (f.item ∷ f.others) t =
    record { counted = ap suc p.counted; is_split = ap₂ (λ (x : ℕ) (l : List ℕ). x ∷ l) same p.is_split } in
    rw f.all_are at r
  where
    go : (a c : ℕ) → some a ≡ some c → a ≡ c
    go a c e = cc

-- what is read after the literals ls, and after the space
abbrev marks_after : ℕ → List Literal → List ℕ → Read Cube
marks_after o ls t = after (read_bytes o t) (λ ms u. found (record { literals = ls; marks = ms }) u)

abbrev space_after : ℕ → List Literal → List ℕ → Read Cube
space_after o ls s = after (eat (space ∷ []) s) (λ _ t. marks_after o ls t)

written_of_parts : (i o : ℕ) (l : List ℕ) (ls : List Literal) (s t ms : List ℕ)
    → LiteralsFront i l ls s
    → eat (space ∷ []) s ≡ found tt t
    → BytesFront o t ms []
    → CubeWritten i o l (record { literals = ls; marks = ms })
unfolding print_cube
written_of_parts i o l ls s t ms p e q =
    record {
      is_print = p.is_split
          ∙ ap (λ (x : List ℕ). map literal_byte ls ++ x) (eat-found (space ∷ []) s t e ∙ ap (λ (x : List ℕ). space ∷ x) (q.is_split ∙ append-nil ms));
      literals_counted = p.counted;
      marks_counted = q.counted;
    }

pub cube_print_of_read : (i o : ℕ) (l : List ℕ) (c : Cube) → read_cube i o l ≡ some c → CubeWritten i o l c
unfolding read_cube
cube_print_of_read i o l c e =
    let line = after (read_literals i l) (space_after o) in
    let (ls, s, f, g) = after-found (read_literals i l) (space_after o) c [] (whole-found line c e) in
    let (a, t, h, j) = after-found (eat (space ∷ []) s) (λ _ u. marks_after o ls u) c [] g in
    let (ms, u, k, m) = after-found (read_bytes o t) (λ ns v. found (record { literals = ls; marks = ns }) v) c [] j in
    let k' : read_bytes o t ≡ found ms [] = k ∙ ap (λ (v : List ℕ). found ms v) (found-rest m) in
    rw (found-item m) at (written_of_parts i o l ls s t ms (literals_print_of_read i l ls s f) h (bytes_print_of_read o t ms [] k'))

pub cube_read_of_print : (i o : ℕ) (l : List ℕ) (c : Cube) → CubeWritten i o l c → read_cube i o l ≡ some c
unfolding read_cube print_cube eat
cube_read_of_print i o l c w =
    let ls = c.literals in
    let ms = c.marks in
    let literals : read_literals i (map literal_byte ls ++ (space ∷ ms)) ≡ found ls (space ∷ ms)
    = ap (λ (n : ℕ). read_literals n (map literal_byte ls ++ (space ∷ ms))) (sym w.literals_counted) ∙ literals_read_of_print ls (space ∷ ms) in
    let marks : read_bytes o ms ≡ found ms []
    = ap₂ read_bytes (sym w.marks_counted) (sym (append-nil ms)) ∙ bytes_read_of_print ms [] in
    ap (read_cube i o) w.is_print
    ∙ found-whole (after (read_literals i (map literal_byte ls ++ (space ∷ ms))) (space_after o)) c
    (ap (λ (r : Read (List Literal)). after r (space_after o)) literals
    ∙ ap (λ (r : Read (List ℕ)). after r (λ ns u. found (record { literals = ls; marks = ns }) u)) marks)

cube_print_length : (c : Cube) → length (print_cube c) ≡ length c.literals + 1 + length c.marks
unfolding print_cube
cube_print_length c =
    omega (arith, length-append (map literal_byte c.literals) (space ∷ c.marks), length-map c.literals literal_byte)

pub cube_line_length : (i o : ℕ) (l : List ℕ) (c : Cube) → read_cube i o l ≡ some c → length l ≡ i + 1 + o
cube_line_length i o l c e =
    let w = cube_print_of_read i o l c e in
    omega (arith, ap length w.is_print, cube_print_length c, w.literals_counted, w.marks_counted)

pub cube_no_end : (c : Cube) → print_cube c ≡ bytes ".e" → ⊥
unfolding print_cube
cube_no_end c e = go c.literals c.marks e
  where
    go : (ls : List Literal) (ms : List ℕ) → map literal_byte ls ++ (space ∷ ms) ≡ bytes ".e" → ⊥
    go [] ms e = omega (arith, ap (λ (l : List ℕ). get_or l 0 0) e)
    go (is_zero ∷ ls) ms e = omega (arith, ap (λ (l : List ℕ). get_or l 0 0) e)
    go (is_one ∷ ls) ms e = omega (arith, ap (λ (l : List ℕ). get_or l 0 0) e)
    go (any ∷ ls) ms e = omega (arith, ap (λ (l : List ℕ). get_or l 0 0) e)
