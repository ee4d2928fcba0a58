-- What the library's equality and its front of a slice say in the words of the specification. Assumes nothing.
use Rattle.std.specs.Prelude.{◌≡◌, refl, Bool, true, false, not, List, [], ◌∷◌, ℕ, ◌+◌, ◌-◌, ◌≤◌, ◌&&◌, eqb, nat_eq, length, get_or, drop}
use Rattle.std.specs.List.{take_while, prefix_len}
use Rattle.std.specs.Cmp.Lexicographic.{pointwise}
use Rattle.std.proofs.Common.{sym, ap, ◌∙◌, arith, length-drop}
use Rattle.std.proofs.Math.Seq.{get_or-drop}
use Rattle.std.proofs.lemmas.Grind.{common_steps}
use Rattle.std.proofs.lemmas.List.Folds.{length-prefix_len}
use Rattle.std.proofs.lemmas.List.Sums.{prefix_len-le-length, prefix_len_passes, prefix_len_stops}
use Rattle.text.specs.Bytes.{same, newline}
use Rattle.text.specs.LineEnd.{LineEnd}
use Rattle.text.specs.LineEndLaws.{line_ends}

pub same_is : (a b : List ℕ) → pointwise nat_eq a b ≡ same a b
unfolding same
same_is [] [] = refl
same_is [] (b ∷ t) = refl
same_is (a ∷ s) [] = refl
same_is (a ∷ s) (b ∷ t) = ap (λ t. eqb a b && t) (same_is s t)

-- the byte ends no line
abbrev pub goes_on : ℕ → Bool
goes_on b = not (nat_eq b newline)

ends : (b : ℕ) → goes_on b ≡ false → b ≡ newline
ends b e = grind (arith, common_steps)

no_end : (b : ℕ) → goes_on b ≡ true → b ≡ newline → ⊥
no_end b e q = absurd (grind (arith, common_steps))

pub line_ends_at : (s : List ℕ) (at n : ℕ) → at ≤ length s → n ≡ length (take_while goes_on (drop at s)) → LineEnd s at (at + n)
line_ends_at s at n h e =
    let t = drop at s in
    let k : n ≡ prefix_len goes_on t = e ∙ length-prefix_len goes_on t in
    let few = prefix_len-le-length goes_on t in
    let size = length-drop at s in
    line_ends s at (at + n) (omega arith)
    (λ j l g q.
    let here : at + (j - at) ≡ j = omega arith in
    no_end (get_or t (j - at) 0) (prefix_len_passes goes_on t (j - at) 0 (omega arith))
    (get_or-drop at s (j - at) 0 ∙ ap (λ (i : ℕ). get_or s i 0) here ∙ q))
    (omega arith)
    (λ l.
    sym (get_or-drop at s n 0) ∙ ap (λ (i : ℕ). get_or t i 0) k
    ∙ ends (get_or t (prefix_len goes_on t) 0) (prefix_len_stops goes_on t 0 (omega arith)))
