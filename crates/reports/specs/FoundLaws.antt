-- An examination asks one line after the other, by a place and what is known so far, and stops at a line: that line has a number,
-- and the lines before it were passed. The walk over a design sheet and the one over a network sheet are both of this kind.
-- Assumes nothing.
use Rattle.std.specs.Prelude.{◌≡◌, refl, Bool, List, [], ◌∷◌, ◌++◌, ℕ, suc, ◌+◌, length}
use Rattle.std.proofs.Common.{ap, ◌∙◌, arith}
use Rattle.text.specs.Line.{lines}
use Rattle.locate.specs.Located.{text_of, part_of}
use Rattle.locate.specs.IsLine.{IsLine}
use Rattle.locate.specs.LineLaws.{text_of_lem, is_line}

-- the line l among the lines ls, the first of which has the number n: from place p on, with k known, the lines before it are passed,
-- and it stops the walk
pub record Found {P K S : Type 0} (pass : P → K → List (List ℕ) → S) (next : P → K → S) (Stops : P → K → List ℕ → List (List ℕ) → Type 0)
    (p : P) (k : K) (n : ℕ) (ls : List (List ℕ)) (l : ℕ) : Type 0 where
  pub before : List (List ℕ)
  pub text : List ℕ
  pub after : List (List ℕ)
  pub split : ls ≡ before ++ (text ∷ after)
  pub counts : n + length before ≡ l
  pub place : P
  pub known : K
  pub passed : pass p k before ≡ next place known
  pub stops : Stops place known text after

module _ {P K S : Type 0} {pass : P → K → List (List ℕ) → S} {next : P → K → S} {Stops : P → K → List ℕ → List (List ℕ) → Type 0} where
  pub found_here : {p : P} {k : K} {n : ℕ} {x : List ℕ} {ls : List (List ℕ)} {l : ℕ}
      → pass p k [] ≡ next p k
      → Stops p k x ls
      → n ≡ l
      → Found pass next Stops p k n (x ∷ ls) l
  found_here {p = p} {k = k} {n = n} {x = x} {ls = ls} {l = l} g s e =
      record {
        before = [];
        text = x;
        after = ls;
        split = refl;
        counts = omega arith;
        place = p;
        known = k;
        passed = g;
        stops = s;
      }

  pub found-later : {p p' : P} {k k' : K} {n : ℕ} {x : List ℕ} {ls : List (List ℕ)} {l : ℕ}
      → ((ms : List (List ℕ)) → pass p k (x ∷ ms) ≡ pass p' k' ms)
      → Found pass next Stops p' k' (suc n) ls l
      → Found pass next Stops p k n (x ∷ ls) l
  found-later {x = x} g f =
      let c = f.counts in
      record {
        before = x ∷ f.before;
        text = f.text;
        after = f.after;
        split = ap (λ (ms : List (List ℕ)). x ∷ ms) f.split;
        counts = omega arith;
        place = f.place;
        known = f.known;
        passed = g f.before ∙ f.passed;
        stops = f.stops;
      }

  -- ---- among all lines of a text
  module _ (s : List ℕ) (l : ℕ) {p : P} {k : K} (f : Found pass next Stops p k 1 (lines s) l) where
    number : length f.before + 1 ≡ l
    number = omega (arith, f.counts)

    pub found_line : (b : Bool) → IsLine s f.before f.after l (part_of b s l)
    found_line b = is_line s l f.before f.text f.after f.split number b

    pub found_text : text_of s l ≡ f.text
    found_text = text_of_lem s l f.before f.text f.after f.split number
