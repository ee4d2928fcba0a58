-- Question 14: the bytes of an output part, and a walk over the cubes, one after another. Assumes nothing.
use Rattle.std.specs.Prelude.{◌≡◌, Bool, true, false, ◌&&◌, ◌||◌, List, [], ◌∷◌, ℕ, suc, ◌+◌, ◌-◌, ◌≤◌, ◌<◌, eqb, length, get_or, take, drop, Some, None}
use Rattle.std.specs.List.{list_all}
use Rattle.std.proofs.Math.Path.{refl, sym, ap, subst}
use Rattle.std.proofs.Common.{◌∙◌, arith, add-one, drop_of_length-le, drop-cons, eq-eqb, ne_eqb}
use Rattle.std.proofs.Math.Option.{some}
use Rattle.bits.specs.Logic.{pick}
use Rattle.bits.specs.LogicLaws.{or_second}
use Rattle.cubes.specs.Cube.{Cube}
use Rattle.cubes.specs.Cover.{cube_at}
use Rattle.platext.specs.Lines.{first_cube}
use Rattle.platext.specs.Reading.{Stand}
use Rattle.panel.specs.Questions.{zeros_and_ones, other_mark}
use Rattle.panel.specs.Held.{OtherIs}
use Rattle.panel.specs.PassLaws.{CubesFrom, from_start, from_more, cube_there, mark_bytes}

-- ---- the bytes of an output part
abbrev pub zero_or_one : ℕ → Bool
zero_or_one b = eqb b 0x30 || eqb b 0x31

pub all_zero_or_one : (m : List ℕ) → list_all zero_or_one m ≡ zeros_and_ones m
unfolding zeros_and_ones
all_zero_or_one [] = refl
all_zero_or_one (b ∷ m) = ap (λ (t : Bool). zero_or_one b && t) (all_zero_or_one m)

-- those before i are 0 or 1
pub record MarksPassed (m : List ℕ) (i : ℕ) : Type 0 where
  pub few : i ≤ length m
  pub is : zeros_and_ones m ≡ zeros_and_ones (drop i m)

module _ (m : List ℕ) (i : ℕ) (w : MarksPassed m i) where
  byte_next : i < length m
      → zeros_and_ones m ≡ (eqb (get_or m i 0) 0x30 || eqb (get_or m i 0) 0x31) && zeros_and_ones (drop (suc i) m)
  unfolding zeros_and_ones
  byte_next h = w.is ∙ ap zeros_and_ones (drop-cons m i 0 h)

  byte_more : i < length m → eqb (get_or m i 0) 0x30 || eqb (get_or m i 0) 0x31 ≡ true → MarksPassed m (i + 1)
  byte_more h e =
      record {
        few = omega arith;
        is =
            byte_next h ∙ ap (λ (b : Bool). b && zeros_and_ones (drop (suc i) m)) e
            ∙ ap (λ (k : ℕ). zeros_and_ones (drop k m)) (sym (add-one i));
      }

  pub byte_zero : i < length m → get_or m i 0 ≡ 0x30 → MarksPassed m (i + 1)
  byte_zero h e = byte_more h (ap (λ (b : Bool). b || eqb (get_or m i 0) 0x31) (eq-eqb (get_or m i 0) 0x30 e))

  pub byte_one : i < length m → get_or m i 0 ≡ 0x31 → MarksPassed m (i + 1)
  byte_one h e = byte_more h (or_second (eqb (get_or m i 0) 0x30) (eqb (get_or m i 0) 0x31) (eq-eqb (get_or m i 0) 0x31 e))

  pub byte_other : i < length m → (get_or m i 0 ≡ 0x30 → ⊥) → (get_or m i 0 ≡ 0x31 → ⊥) → false ≡ zeros_and_ones m
  byte_other h a b =
      sym
      (byte_next h
      ∙ ap (λ (t : Bool). (t || eqb (get_or m i 0) 0x31) && zeros_and_ones (drop (suc i) m)) (ne_eqb (get_or m i 0) 0x30 a)
      ∙ ap (λ (t : Bool). t && zeros_and_ones (drop (suc i) m)) (ne_eqb (get_or m i 0) 0x31 b))

  pub bytes_all : length m ≤ i → true ≡ zeros_and_ones m
  unfolding zeros_and_ones
  bytes_all h = sym (w.is ∙ ap zeros_and_ones (drop_of_length-le m h))

-- ---- the cubes
-- k cubes are passed, with no other mark
pub record MarksFrom (s : List ℕ) (i o first cubes at k : ℕ) : Type 0 where
  pub cubes_from : CubesFrom s i o first cubes at k
  pub same : (cs : List Cube) (e : ℕ)
      → Stand s i o first cs e
      → length cs ≡ cubes
      → other_mark first_cube cs ≡ other_mark (first_cube + k) (drop k cs)

pub marks_start : (s : List ℕ) (i o first cubes : ℕ) → MarksFrom s i o first cubes first 0
marks_start s i o first cubes = record { cubes_from = from_start s i o first cubes; same = λ cs e h n. refl }

other_next : (n k : ℕ) (cs : List Cube)
    → k < length cs
    → other_mark n (drop k cs) ≡ pick (zeros_and_ones (cube_at cs k).marks) (other_mark (suc n) (drop (suc k) cs)) (some n)
unfolding other_mark
other_next n k cs h =
    let none-at : Cube = record { literals = []; marks = [] } in
    ap (other_mark n) (drop-cons cs k none-at h)

module _ (s : List ℕ) (i o first cubes at k : ℕ) (w : MarksFrom s i o first cubes at k) where
  -- the next cube has its marks between m and e
  module _ (l : k < cubes) (m e : ℕ) (p : m ≡ at + i + 1) (q : e ≡ m + o) where
    mark_next : (cs : List Cube) (end : ℕ)
        → Stand s i o first cs end
        → length cs ≡ cubes
        → other_mark first_cube cs
        ≡ pick (zeros_and_ones (take (e - m) (drop m s))) (other_mark (suc (first_cube + k)) (drop (suc k) cs)) (some (first_cube + k))
    mark_next cs end h n =
        let c = cube_there w.cubes_from l cs end h n in
        w.same cs end h n
        ∙ other_next (first_cube + k) k cs (omega arith)
        ∙ ap (λ (t : List ℕ). pick (zeros_and_ones t) (other_mark (suc (first_cube + k)) (drop (suc k) cs)) (some (first_cube + k)))
        (sym (mark_bytes s i o at (cube_at cs k) c m e p q))

    pub mark_found : false ≡ zeros_and_ones (take (e - m) (drop m s))
        → (cs : List Cube) (end : ℕ)
        → Stand s i o first cs end
        → length cs ≡ cubes
        → OtherIs (Some (first_cube + k)) (other_mark first_cube cs)
    mark_found f cs end h n =
        subst (OtherIs (Some (first_cube + k)))
        (sym
        (mark_next cs end h n
        ∙ ap (λ (b : Bool). pick b (other_mark (suc (first_cube + k)) (drop (suc k) cs)) (some (first_cube + k))) (sym f)))
        refl

    pub marks_more : true ≡ zeros_and_ones (take (e - m) (drop m s)) → MarksFrom s i o first cubes (e + 1) (k + 1)
    marks_more f =
        record {
          cubes_from = from_more w.cubes_from l (e + 1) (omega arith);
          same = λ cs end h n.
              let up : suc (first_cube + k) ≡ first_cube + (k + 1) = omega arith in
              mark_next cs end h n
              ∙ ap (λ (b : Bool). pick b (other_mark (suc (first_cube + k)) (drop (suc k) cs)) (some (first_cube + k))) (sym f)
              ∙ ap (λ (x : ℕ). other_mark x (drop (suc k) cs)) up
              ∙ ap (λ (x : ℕ). other_mark (first_cube + (k + 1)) (drop x cs)) (sym (add-one k));
        }

  pub marks_none : cubes ≤ k
      → (cs : List Cube) (end : ℕ)
      → Stand s i o first cs end
      → length cs ≡ cubes
      → OtherIs None (other_mark first_cube cs)
  unfolding other_mark
  marks_none l cs end h n =
      subst (OtherIs None)
      (sym (w.same cs end h n ∙ ap (other_mark (first_cube + k)) (drop_of_length-le cs {i = k} (omega arith))))
      refl
