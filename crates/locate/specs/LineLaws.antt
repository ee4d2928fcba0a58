-- Line l of a text: where the lines before it and after it are given, it starts after those before it; line 0 and a line past the
-- last is the empty part at the text's end. Assumes nothing.
use Rattle.std.specs.Prelude.{◌≡◌, refl, Bool, true, false, ℕ, suc, ◌+◌, ◌-◌, ◌≤◌, ◌<◌, leb, take, drop}
use Rattle.std.proofs.Common.{sym, ap, ◌∙◌, length-append, take_at, length-take-le, le-leb, leb-true}
use mathlib.Core.List.{List, [], ◌∷◌, ◌++◌}
use native.Mathlib.Omega.{arith}
use Rattle.std.proofs.Math.ListN.{length}
use Rattle.std.proofs.lemmas.List.{get_or_at}
use Rattle.std.proofs.Math.Seq.{split_at}
use Rattle.std.proofs.lemmas.Bool.{lt-leb}
use Rattle.bits.specs.LogicLaws.{and_left, and_right, and_both, and_false}
use Rattle.text.specs.Line.{lines, ended_lines, line_at}
use Rattle.locate.specs.Located.{has_line, start_of, text_of, part_of}
use Rattle.locate.specs.IsLine.{IsLine}

-- ---- whether there is such a line
pub has_line_lem : (t : List ℕ) (l : ℕ) → 1 ≤ l → l ≤ length (lines t) → has_line t l ≡ true
unfolding has_line
has_line_lem t l h i = and_both (leb 1 l) (leb l (length (lines t))) (le-leb 1 l h) (le-leb l (length (lines t)) i)

pub has_some : (t : List ℕ) (l : ℕ) → has_line t l ≡ true → 1 ≤ l
unfolding has_line
has_some t l h = leb-true 1 l (and_left (leb 1 l) (leb l (length (lines t))) h)

pub has_within : (t : List ℕ) (l : ℕ) → has_line t l ≡ true → l ≤ length (lines t)
unfolding has_line
has_within t l h = leb-true l (length (lines t)) (and_right (leb 1 l) (leb l (length (lines t))) h)

pub no_line_0 : (t : List ℕ) → has_line t 0 ≡ false
unfolding has_line
no_line_0 t = refl

pub no_line_past : (t : List ℕ) (l : ℕ) → length (lines t) < l → has_line t l ≡ false
unfolding has_line
no_line_past t l h = rw (lt-leb l (length (lines t)) h) (and_false (leb 1 l))

-- ---- a line that is there
module _ (t : List ℕ) (l : ℕ) (before : List (List ℕ)) (x : List ℕ) (after : List (List ℕ)) (split : lines t ≡ before ++ (x ∷ after))
    (count : length before + 1 ≡ l) where
  has_split : has_line t l ≡ true
  has_split =
      let n : length (lines t) ≡ length before + length (x ∷ after) = ap length split ∙ length-append before (x ∷ after) in
      has_line_lem t l (omega arith) (omega arith)

  pub start_of_lem : start_of t l ≡ length (ended_lines before)
  unfolding start_of
  start_of_lem =
      let n : length before ≡ l - 1 = omega arith in
      rw (has_split, split) (ap (λ (ls : List (List ℕ)). length (ended_lines ls)) (take_at before (x ∷ after) (l - 1) n))

  pub text_of_lem : text_of t l ≡ x
  unfolding text_of
  text_of_lem =
      let n : length before ≡ l - 1 = omega arith in
      rw (has_split, split) (get_or_at before x after [] (l - 1) n)

  pub is_line : (b : Bool) → IsLine t before after l (part_of b t l)
  is_line b =
      record {
        split = split ∙ ap (λ (y : List ℕ). before ++ (y ∷ after)) (sym text_of_lem);
        counts = count;
        starts = start_of_lem;
      }

-- ---- a line that is not there
pub start_none : (t : List ℕ) (l : ℕ) → has_line t l ≡ false → start_of t l ≡ length t
unfolding start_of
start_none t l h = rw h refl

pub text_none : (t : List ℕ) (l : ℕ) → has_line t l ≡ false → text_of t l ≡ []
unfolding text_of
text_none t l h = rw h refl

-- ---- every line that a text has
pub text-has : (t : List ℕ) (l : ℕ) → has_line t l ≡ true → text_of t l ≡ line_at (lines t) l
unfolding text_of
text-has t l h = rw h refl

pub has_is_line : (b : Bool) (t : List ℕ) (l : ℕ)
    → has_line t l ≡ true
    → IsLine t (take (l - 1) (lines t)) (drop (suc (l - 1)) (lines t)) l (part_of b t l)
has_is_line b t l h =
    let i = has_some t l h in
    let j = has_within t l h in
    let n : length (take (l - 1) (lines t)) ≡ l - 1 = length-take-le (l - 1) (lines t) (omega arith) in
    is_line t l (take (l - 1) (lines t)) (line_at (lines t) l) (drop (suc (l - 1)) (lines t))
    (split_at (lines t) (l - 1) [] (omega arith)) (omega arith) b
