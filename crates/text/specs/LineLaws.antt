-- The lines of a text, part by part: a text up to a 0x0A is the first line, and a text with no 0x0A is the only one. No line has
-- a 0x0A in it. Assumes nothing.
use Rattle.std.specs.Prelude.{◌≡◌, refl, Bool, true, false, not, List, [], ◌∷◌, ◌++◌, ℕ, suc, ◌<◌, eqb, length, get_or}
use Rattle.std.proofs.Common.{arith, ne_eqb}
use Rattle.std.proofs.lemmas.Bool.{not-true}
use Rattle.bits.specs.Logic.{pick}
use Rattle.bits.specs.LogicLaws.{and_left, and_right}
use Rattle.text.specs.Bytes.{newline}
use Rattle.text.specs.Line.{lines, onto}
use Rattle.text.specs.Unbroken.{unbroken, all_unbroken}

-- ---- texts with no 0x0A
unbroken-head : (b : ℕ) (l : List ℕ) → unbroken (b ∷ l) ≡ true → eqb b newline ≡ false
unfolding unbroken
unbroken-head b l u = not-true (eqb b newline) (and_left (not (eqb b newline)) (unbroken l) u)

pub unbroken-tail : (b : ℕ) (l : List ℕ) → unbroken (b ∷ l) ≡ true → unbroken l ≡ true
unfolding unbroken
unbroken-tail b l u = and_right (not (eqb b newline)) (unbroken l) u

pub unbroken-cons : (b : ℕ) (l : List ℕ) → eqb b newline ≡ false → unbroken l ≡ true → unbroken (b ∷ l) ≡ true
unfolding unbroken
unbroken-cons b l e u = rw (e, u) refl

pub unbroken-append : (l m : List ℕ) → unbroken l ≡ true → unbroken m ≡ true → unbroken (l ++ m) ≡ true
unbroken-append [] m u v = v
unbroken-append (b ∷ l) m u v =
    unbroken-cons b (l ++ m) (unbroken-head b l u) (unbroken-append l m (unbroken-tail b l u) v)

pub unbroken_back : (l m : List ℕ) → unbroken (l ++ m) ≡ true → unbroken m ≡ true
unbroken_back [] m u = u
unbroken_back (b ∷ l) m u = unbroken_back l m (unbroken-tail b (l ++ m) u)

pub none_unbroken : (l : List ℕ) → ((k : ℕ) → k < length l → get_or l k 0 ≡ newline → ⊥) → unbroken l ≡ true
unfolding unbroken
none_unbroken [] h = refl
none_unbroken (b ∷ l) h =
    unbroken-cons b l (ne_eqb b newline (h 0 (omega arith))) (none_unbroken l (λ k i. h (suc k) (omega arith)))

-- ---- lines
pub lines-empty : lines [] ≡ []
unfolding lines
lines-empty = refl

pub lines_broken : (l s : List ℕ) → unbroken l ≡ true → lines (l ++ (newline ∷ s)) ≡ l ∷ lines s
unfolding lines
lines_broken [] s u = refl
lines_broken (b ∷ l) s u = rw (unbroken-head b l u, lines_broken l s (unbroken-tail b l u)) refl

pub lines-unbroken : (b : ℕ) (l : List ℕ) → unbroken (b ∷ l) ≡ true → lines (b ∷ l) ≡ (b ∷ l) ∷ []
unfolding lines
lines-unbroken b [] u = rw (unbroken-head b [] u) refl
lines-unbroken b (c ∷ l) u = rw (unbroken-head b (c ∷ l) u, lines-unbroken c l (unbroken-tail b (c ∷ l) u)) refl

pub lines_all_unbroken : (s : List ℕ) → all_unbroken (lines s) ≡ true
unfolding lines all_unbroken unbroken
lines_all_unbroken [] = refl
lines_all_unbroken (b ∷ s) = go (eqb b newline) refl (lines s) (lines_all_unbroken s)
  where
    go : (t : Bool) → eqb b newline ≡ t → (ls : List (List ℕ)) → all_unbroken ls ≡ true → all_unbroken (pick t ([] ∷ ls) (onto b ls)) ≡ true
    go true q ls h = h
    go false q [] h = rw q refl
    go false q (l ∷ ls) h = rw q h
