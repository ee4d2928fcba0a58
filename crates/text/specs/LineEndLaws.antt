-- What shows that a place is a line's end: no 0x0A stands before it, and one stands there where the text goes on. In a
-- text that ends in 0x0A the end of a line is a place of the text. Assumes nothing.
use Rattle.std.specs.Prelude.{◌≡◌, true, List, ◌∷◌, ◌++◌, ℕ, ◌+◌, ◌-◌, ◌≤◌, ◌<◌, length, get_or, take, drop}
use Rattle.std.proofs.Common.{sym, ap, ap₂, ◌∙◌, arith, add-one, length-drop, take-append-drop, drop-cons, drop-drop, get_or-drop, get_or-take, length-take-le}
use Rattle.std.proofs.Math.Decide.{dec_lt}
use Rattle.text.specs.Bytes.{newline}
use Rattle.text.specs.Line.{lines}
use Rattle.text.specs.LineEnd.{LineEnd}
use Rattle.text.specs.Unbroken.{unbroken}
use Rattle.text.specs.LineLaws.{lines_broken, none_unbroken}

module _ (s : List ℕ) (at e : ℕ) (start : at ≤ e) (passed : (k : ℕ) → k < e → at ≤ k → get_or s k 0 ≡ newline → ⊥) where
  line_unbroken : e < length s → unbroken (take (e - at) (drop at s)) ≡ true
  line_unbroken h =
      none_unbroken (take (e - at) (drop at s))
      (λ k l q.
      let n : length (take (e - at) (drop at s)) ≡ e - at = length-take-le (e - at) (drop at s) (simp length-drop (omega arith)) in
      let i : k < e - at = omega arith in
      passed (at + k) (omega arith) (omega arith) (sym (get_or-drop at s k 0) ∙ sym (get_or-take (e - at) (drop at s) k 0 i) ∙ q))

  line_split : e < length s → get_or s e 0 ≡ newline → drop at s ≡ take (e - at) (drop at s) ++ (newline ∷ drop (e + 1) s)
  line_split h q =
      let m : at + (e - at) ≡ e = omega arith in
      sym (take-append-drop (e - at) (drop at s))
      ∙ ap (λ (t : List ℕ). take (e - at) (drop at s) ++ t)
      (drop-drop (e - at) at s ∙ ap (λ (k : ℕ). drop k s) m ∙ drop-cons s e 0 h
      ∙ ap₂ (λ (b k : ℕ). b ∷ drop k s) q (sym (add-one e)))

  pub line_ends : e ≤ length s → (e < length s → get_or s e 0 ≡ newline) → LineEnd s at e
  line_ends inside stop =
      record {
        after-start = start;
        inside = inside;
        ended = λ h. (stop h, ap lines (line_split h (stop h)) ∙ lines_broken _ _ (line_unbroken h));
        open_ended = λ k a b. passed k b a;
      }

-- in a text that ends in 0x0A, every line does
pub line_end_inside : (s : List ℕ) (at e : ℕ) → at < length s → get_or s (length s - 1) 0 ≡ newline → LineEnd s at e → e < length s
line_end_inside s at e h q l =
    elim (dec_lt e (length s)) as (λ _. e < length s) [
      | yes i ↦ i
      | no g ↦
          let n = l.inside in
          absurd (l.open_ended (length s - 1) (omega arith) (omega arith) q)
    ]
