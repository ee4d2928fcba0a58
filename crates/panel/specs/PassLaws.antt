-- A walk over the cubes of a PLA text: where each stands, and which bytes are its literals and its marks. Assumes nothing.
use Rattle.std.specs.Prelude.{◌≡◌, ℕ, suc, ◌+◌, ◌-◌, ◌≤◌, ◌<◌}
use Rattle.std.proofs.Math.Path.{sym, ap}
use Rattle.std.proofs.Common.{◌∙◌, subst, add-one, length-drop, drop-cons, drop-drop, take-take, take-add, drop_at, length-take-le}
use mathlib.Core.List.{List, [], ◌∷◌, map}
use native.Mathlib.Omega.{arith}
use Rattle.std.proofs.Math.ListN.{length, take, drop, length-map}
use Rattle.std.proofs.Math.Seq.{take_at, drop-append-add}
use Rattle.text.specs.Bytes.{space}
use Rattle.cubes.specs.Cube.{Cube, literal_byte, print_cube}
use Rattle.cubes.specs.Cover.{cube_at}
use Rattle.platext.specs.Reading.{CubeHere, Stand}

-- ---- one cube
module _ (s : List ℕ) (i o at : ℕ) (c : Cube) (h : CubeHere s i o at c) where
  pub literal-bytes : (m : ℕ) → m ≡ at + i → take (m - at) (drop at s) ≡ map literal_byte c.literals
  unfolding print_cube
  literal-bytes m e =
      let n : m - at ≡ i = omega arith in
      ap (λ (k : ℕ). take k (drop at s)) n
      ∙ sym (take-take i (i + 1 + o) (drop at s) (omega arith))
      ∙ ap (take i) h.written.is_print
      ∙ take_at (map literal_byte c.literals) (space ∷ c.marks) i (length-map c.literals literal_byte ∙ h.written.literals_counted)

  after-space : drop (i + 1) (take (i + 1 + o) (drop at s)) ≡ c.marks
  unfolding print_cube
  after-space =
      let ls = map literal_byte c.literals in
      let n : length ls ≡ i = length-map c.literals literal_byte ∙ h.written.literals_counted in
      ap (drop (i + 1)) h.written.is_print
      ∙ ap (λ (k : ℕ). drop (k + 1) (print_cube c)) (sym n)
      ∙ drop-append-add ls (space ∷ c.marks) 1

  pub mark_bytes : (m e : ℕ) → m ≡ at + i + 1 → e ≡ m + o → take (e - m) (drop m s) ≡ c.marks
  mark_bytes m e p q =
      let t = drop at s in
      let n : e - m ≡ o = omega arith in
      let there : m ≡ at + (i + 1) = omega arith in
      let room : i + 1 ≤ length t = omega (arith, h.inside, length-drop at s) in
      ap (λ (k : ℕ). take k (drop m s)) n
      ∙ ap (λ (k : ℕ). take o (drop k s)) there
      ∙ ap (take o) (sym (drop-drop (i + 1) at s))
      ∙ sym (drop_at (take (i + 1) t) (take o (drop (i + 1) t)) (i + 1) (length-take-le (i + 1) t room))
      ∙ ap (drop (i + 1)) (sym (take-add (i + 1) o t))
      ∙ after-space

-- ---- one cube after another
-- k of the cubes are passed, and the others stand from `at` on
pub record CubesFrom (s : List ℕ) (i o first cubes at k : ℕ) : Type 0 where
  pub few : k ≤ cubes
  pub apart : k + k ≤ at
  pub stand : (cs : List Cube) (e : ℕ) → Stand s i o first cs e → length cs ≡ cubes → Stand s i o at (drop k cs) e

pub from_start : (s : List ℕ) (i o first cubes : ℕ) → CubesFrom s i o first cubes first 0
from_start s i o first cubes = record { few = omega arith; apart = omega arith; stand = λ cs e h n. h }

module _ {s : List ℕ} {i o first cubes at k : ℕ} (w : CubesFrom s i o first cubes at k) (l : k < cubes) where
  split : (cs : List Cube) (e : ℕ)
      → Stand s i o first cs e
      → length cs ≡ cubes
      → CubeHere s i o at (cube_at cs k) × Stand s i o (at + (i + 1 + o) + 1) (drop (suc k) cs) e
  split cs e h n =
      let none-at : Cube = record { literals = []; marks = [] } in
      subst (λ (t : List Cube). Stand s i o at t e) (drop-cons cs k none-at (omega arith)) (w.stand cs e h n)

  pub cube_there : (cs : List Cube) (e : ℕ) → Stand s i o first cs e → length cs ≡ cubes → CubeHere s i o at (cube_at cs k)
  cube_there cs e h n = (split cs e h n).0

  pub from_more : (at' : ℕ) → at' ≡ at + (i + 1 + o) + 1 → CubesFrom s i o first cubes at' (k + 1)
  from_more at' q =
      record {
        few = omega arith;
        apart = omega (arith, w.apart);
        stand = λ cs e h n.
            subst (λ (a : ℕ). Stand s i o a (drop (k + 1) cs) e) (sym q)
            (subst (λ (m : ℕ). Stand s i o (at + (i + 1 + o) + 1) (drop m cs) e) (sym (add-one k)) (split cs e h n).1);
      }
