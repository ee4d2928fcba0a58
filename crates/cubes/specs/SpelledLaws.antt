-- A line is a cube exactly where it has a byte for each input, a space and a byte for each output, and the bytes before the
-- space are literals. Assumes nothing.
use Rattle.std.specs.Prelude.{◌≡◌, Bool, ◌||◌, ℕ, zero, suc, ◌+◌, ◌-◌, ◌≤◌, ◌<◌, take}
use Rattle.std.proofs.Math.Path.{refl, sym, ap, ap₂}
use Rattle.std.proofs.Common.{◌∙◌, ⊎_elim, arith, take-append-drop, drop-cons, get_or-take, eqb-true, eq-eqb}
use Rattle.std.proofs.Math.Bool.{true, false}
use mathlib.Core.List.{List, [], ◌∷◌, ◌++◌, map}
use Rattle.std.proofs.Math.Option.{Option, some, none}
use Rattle.std.proofs.Math.Dec.{eqb}
use Rattle.std.proofs.Math.ListN.{length, get_or, drop, length-map, length-drop}
use Rattle.std.proofs.Math.Seq.{length-take-le}
use Rattle.bits.specs.Logic.{pick}
use Rattle.bits.specs.LogicLaws.{true_false}
use Rattle.bits.specs.CountLaws.{less_or_equal}
use Rattle.text.specs.Bytes.{space}
use Rattle.cubes.specs.Cube.{Literal, is_zero, is_one, any, Cube, literal_byte, print_cube, read_cube}
use Rattle.cubes.specs.CubeLaws.{cube_print_of_read, cube_read_of_print, cube_line_length}
use Rattle.cubes.specs.Spelled.{is_literal, is_there, CubeWritten}

no_cube : (x : Option Cube) → ((c : Cube) → x ≡ some c → ⊥) → false ≡ is_there x
no_cube none h = refl
no_cube (some c) h = absurd (h c refl)

-- ---- the bytes of literals
byte_is_literal : (l : Literal) → is_literal (literal_byte l) ≡ true
unfolding is_literal
byte_is_literal is_zero = refl
byte_is_literal is_one = refl
byte_is_literal any = refl

literal_at : (ls : List Literal) (t : List ℕ) (k : ℕ) → k < length ls → is_literal (get_or (map literal_byte ls ++ t) k 0) ≡ true
literal_at [] t k h = absurd (omega arith)
literal_at (l ∷ ls) t zero h = byte_is_literal l
literal_at (l ∷ ls) t (suc k) h = literal_at ls t k (omega arith)

space_at : (ls : List Literal) (t : List ℕ) → get_or (map literal_byte ls ++ (space ∷ t)) (length ls) 0 ≡ space
space_at [] t = refl
space_at (l ∷ ls) t = space_at ls t

-- the literal that a byte is
abbrev literal_or : ℕ → Literal
literal_or b = pick (eqb b 0x30) is_zero (pick (eqb b 0x31) is_one any)

literal_back : (b : ℕ) → is_literal b ≡ true → literal_byte (literal_or b) ≡ b
unfolding is_literal
literal_back b h = go (eqb b 0x30) (eqb b 0x31) refl refl h
  where
    go : (x y : Bool) → eqb b 0x30 ≡ x → eqb b 0x31 ≡ y → x || y || eqb b 0x2D ≡ true
        → literal_byte (pick x is_zero (pick y is_one any)) ≡ b
    go true y e f g = sym (eqb-true b 0x30 e)
    go false true e f g = sym (eqb-true b 0x31 f)
    go false false e f g = sym (eqb-true b 0x2D g)

literals_back : (bs : List ℕ) → ((k : ℕ) → k < length bs → is_literal (get_or bs k 0) ≡ true) → map literal_byte (map literal_or bs) ≡ bs
literals_back [] h = refl
literals_back (b ∷ bs) h =
    ap₂ (λ (x : ℕ) (xs : List ℕ). x ∷ xs) (literal_back b (h 0 (omega arith))) (literals_back bs (λ k l. h (suc k) (omega arith)))

-- ---- the line
module _ (i o : ℕ) (l : List ℕ) where
  pub too_short : length l ≤ i → false ≡ is_there (read_cube i o l)
  too_short h = no_cube (read_cube i o l) (λ c e. omega (arith, cube_line_length i o l c e))

  pub other_length : i < length l → (length l - i - 1 ≡ o → ⊥) → false ≡ is_there (read_cube i o l)
  other_length h g = no_cube (read_cube i o l) (λ c e. g (omega (arith, cube_line_length i o l c e)))

  pub no_literal : (k : ℕ) → k < i → false ≡ is_literal (get_or l k 0) → false ≡ is_there (read_cube i o l)
  unfolding print_cube
  no_literal k h g =
      no_cube (read_cube i o l)
      (λ c e.
      let w = cube_print_of_read i o l c e in
      let n = w.literals_counted in
      true_false (sym (literal_at c.literals (space ∷ c.marks) k (omega arith)) ∙ ap (λ (t : List ℕ). is_literal (get_or t k 0)) (sym w.is_print) ∙ sym g))

  -- the bytes before the place k are literals
  pub record Literals (k : ℕ) : Type 0 where
    pub few : k ≤ i
    pub each : (j : ℕ) → j < k → is_literal (get_or l j 0) ≡ true

  pub literals_more : (k : ℕ) → Literals k → k < i → is_literal (get_or l k 0) ≡ true → Literals (k + 1)
  literals_more k h g e =
      record {
        few = omega arith;
        each = λ j b. ⊎_elim (λ c. h.each j c) (λ c. ap (λ (n : ℕ). is_literal (get_or l n 0)) c ∙ e) (less_or_equal j k (omega arith));
      }

  pub literals_all : (k : ℕ) → Literals k → i ≤ k → Literals i
  literals_all k h g = record { few = omega arith; each = λ j b. h.each j (omega arith) }

  module _ (size : length l ≡ i + 1 + o) (all : Literals i) where
    abbrev made : Cube
    made = record { literals = map literal_or (take i l); marks = drop (suc i) l }

    made-written : get_or l i 0 ≡ space → CubeWritten i o l made
    unfolding print_cube
    made-written e =
        let head : length (take i l) ≡ i = length-take-le i l (omega arith) in
        record {
          is_print =
              sym (take-append-drop i l)
              ∙ ap₂ (λ (a b : List ℕ). a ++ b)
              (sym (literals_back (take i l) (λ k h. ap is_literal (get_or-take i l k 0 (omega arith)) ∙ all.each k (omega arith))))
              (drop-cons l i 0 (omega arith) ∙ ap (λ (b : ℕ). b ∷ drop (suc i) l) e);
          literals_counted = length-map (take i l) literal_or ∙ head;
          marks_counted = omega (arith, length-drop (suc i) l);
        }

    pub by_space : eqb (get_or l i 0) space ≡ is_there (read_cube i o l)
    unfolding print_cube
    by_space = go (eqb (get_or l i 0) space) refl
      where
        go : (b : Bool) → eqb (get_or l i 0) space ≡ b → b ≡ is_there (read_cube i o l)
        go true e = sym (ap is_there (cube_read_of_print i o l made (made-written (eqb-true (get_or l i 0) space e))))
        go false e =
            no_cube (read_cube i o l)
            (λ c f.
            let w = cube_print_of_read i o l c f in
            let at : get_or l i 0 ≡ space
            = ap₂ (λ (t : List ℕ) (k : ℕ). get_or t k 0) w.is_print (sym w.literals_counted) ∙ space_at c.literals c.marks in
            true_false (sym (eq-eqb (get_or l i 0) space at) ∙ e))
