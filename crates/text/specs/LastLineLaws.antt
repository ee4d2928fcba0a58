-- The last line of a text that may lack its 0x0A: where 0x0A ends a line, the text ends in 0x0A or a line follows; where none is
-- left, one line is left and the text does not end in 0x0A. Assumes nothing.
use Rattle.std.specs.Prelude.{◌≡◌, refl, Bool, true, false, not, ◌||◌, List, [], ◌∷◌, ℕ, suc, ◌+◌, ◌-◌, ◌≤◌, ◌<◌, eqb, length, get_or, take, drop}
use Rattle.std.proofs.Common.{sym, ap, ◌∙◌, arith, length-drop, drop-cons, get_or-drop, eq-eqb, ne_eqb}
use Rattle.std.proofs.Math.Decide.{dec_lt}
use Rattle.text.specs.Bytes.{newline}
use Rattle.text.specs.Line.{lines, ends_line, is_last}
use Rattle.text.specs.LineEnd.{LineEnd}
use Rattle.text.specs.Unbroken.{unbroken}
use Rattle.text.specs.LineLaws.{lines-unbroken, none_unbroken}
use Rattle.text.specs.LineCountLaws.{lines-some}

-- ---- the last byte
ends_last : (s : List ℕ) → 1 ≤ length s → ends_line s ≡ eqb (get_or s (length s - 1) 0) newline
unfolding ends_line
ends_last [] h = absurd (omega arith)
ends_last (b ∷ []) h = refl
ends_last (b ∷ c ∷ s) h =
    let m : suc (suc (length s)) - 1 ≡ suc (length s) = omega arith in
    let n : suc (length s) - 1 ≡ length s = omega arith in
    ends_last (c ∷ s) (omega arith) ∙ rw (m, n) refl

-- ---- the lines from a place on
module _ (t : List ℕ) (at e : ℕ) (h : at < length t) (x : LineEnd t at e) where
  -- no 0x0A is left: one line is left, and 0x0A does not end it
  pub last_line : e ≡ length t → lines (drop at t) ≡ drop at t ∷ []
  last_line g =
      let whole : unbroken (drop at t) ≡ true
      = none_unbroken (drop at t)
      (λ k l q.
      let left = length-drop at t in
      x.open_ended (at + k) (omega arith) (omega arith) (sym (get_or-drop at t k 0) ∙ q)) in
      let split = drop-cons t at 0 h in
      ap lines split
      ∙ lines-unbroken (get_or t at 0) (drop (suc at) t) (ap unbroken (sym split) ∙ whole)
      ∙ ap (λ (l : List ℕ). l ∷ []) (sym split)

  pub not-ended : e ≡ length t → ends_line t ≡ false
  not-ended g =
      ends_last t (omega arith)
      ∙ ne_eqb (get_or t (length t - 1) 0) newline (x.open_ended (length t - 1) (omega arith) (omega arith))

  -- a line that 0x0A ends
  module _ (g : e ≡ length t → ⊥) where
    pub ended_inside : e < length t
    ended_inside = omega (arith, x.inside)

    pub line_here : lines (drop at t) ≡ take (e - at) (drop at t) ∷ lines (drop (e + 1) t)
    line_here = (x.ended ended_inside).1

    pub is_ended : ends_line t || not (is_last (lines (drop (e + 1) t))) ≡ true
    is_ended =
        elim (dec_lt (e + 1) (length t)) as (λ _. ends_line t || not (is_last (lines (drop (e + 1) t))) ≡ true) [
          | yes l ↦
              let left = length-drop (e + 1) t in
              more (ends_line t) (lines (drop (e + 1) t)) (lines-some (drop (e + 1) t) (omega arith))
          | no k ↦
              let i = ended_inside in
              let last : length t - 1 ≡ e = omega arith in
              ap (λ (b : Bool). b || not (is_last (lines (drop (e + 1) t))))
              (ends_last t (omega arith) ∙ ap (λ (j : ℕ). eqb (get_or t j 0) newline) last ∙ eq-eqb (get_or t e 0) newline (x.ended ended_inside).0)
        ]
      where
        more : (b : Bool) (ls : List (List ℕ)) → 0 < length ls → b || not (is_last ls) ≡ true
        more true ls l = refl
        more false [] l = absurd (omega arith)
        more false (a ∷ ls) l = refl
