-- The walk starts at line 1, passes one line at each turn, and finds line l where it comes to it; where it ends, no line is left.
-- Assumes nothing.
use Rattle.std.specs.Prelude.{◌≡◌, refl, false, List, [], ◌∷◌, ◌++◌, ℕ, zero, suc, ◌+◌, ◌-◌, ◌≤◌, ◌<◌, length, take, drop}
use Rattle.std.proofs.Common.{sym, ap, ◌∙◌, append_assoc, append-nil, arith, length-append, length-drop, length-take-le}
use Rattle.std.proofs.Math.Decide.{dec_lt}
use Rattle.std.proofs.Math.Seq.{take-length}
use Rattle.text.specs.Line.{lines, ended_lines}
use Rattle.text.specs.LineEnd.{LineEnd}
use Rattle.text.specs.EndedLaws.{ended_append_length, ended_more_length}
use Rattle.text.specs.LineCountLaws.{lines_past}
use Rattle.text.specs.LastLineLaws.{last_line}
use Rattle.locate.specs.Located.{has_line, start_of, text_of}
use Rattle.locate.specs.Places.{SpanIs}
use Rattle.locate.specs.Reached.{Reached}
use Rattle.locate.specs.LineLaws.{start_of_lem, text_of_lem, no_line_0, no_line_past, start_none, text_none}

pub reached_start : (t : List ℕ) → Reached t 0 1
unfolding ended_lines
reached_start t = record { before = []; split = refl; starts = refl; counts = refl; few = omega arith }

none_length : length (ended_lines []) ≡ 0
unfolding ended_lines
none_length = refl

-- ---- at a line's start
module _ (t : List ℕ) (at n e : ℕ) (h : at < length t) (x : LineEnd t at e) (r : Reached t at n) where
  abbrev here : List ℕ
  here = take (e - at) (drop at t)

  here-length : length here ≡ e - at
  here-length =
      let i = x.inside in
      length-take-le (e - at) (drop at t) (simp length-drop (omega arith))

  -- the line here, and those after it
  here_first : lines (drop at t) ≡ here ∷ lines (drop (e + 1) t)
  here_first =
      elim (dec_lt e (length t)) as (λ _. lines (drop at t) ≡ here ∷ lines (drop (e + 1) t)) [
        | yes i ↦ (x.ended i).1
        | no g ↦
            let i = x.inside in
            let end : e ≡ length t = omega arith in
            let all : length (drop at t) ≡ e - at = length-drop at t ∙ omega arith in
            last_line t at e h x end
            ∙ ap (λ (l : List ℕ). l ∷ []) (sym (ap (λ (k : ℕ). take k (drop at t)) (sym all) ∙ take-length (drop at t)))
            ∙ ap (λ (ls : List (List ℕ)). here ∷ ls) (sym (lines_past t (e + 1) (omega arith)))
      ]

  here_split : lines t ≡ r.before ++ (here ∷ lines (drop (e + 1) t))
  here_split = r.split ∙ ap (λ (ls : List (List ℕ)). r.before ++ ls) here_first

  pub reached_hit : (l : ℕ) → n ≡ l → SpanIs t l at e
  reached_hit l q =
      let c : length r.before + 1 ≡ l = r.counts ∙ q in
      let s : at ≡ start_of t l = sym r.starts ∙ sym (start_of_lem t l r.before here (lines (drop (e + 1) t)) here_split c) in
      let m : e - at ≡ length (text_of t l) =
      sym here-length ∙ ap length (sym (text_of_lem t l r.before here (lines (drop (e + 1) t)) here_split c)) in
      let a = x.after-start in
      record { starts = s; ends = omega (arith, s, m, a) }

  pub reached_more : Reached t (e + 1) (n + 1)
  reached_more =
      let a = x.after-start in
      let b = r.counts in
      let s = r.starts in
      let f = r.few in
      record {
        before = r.before ++ (here ∷ []);
        split = here_split ∙ sym (append_assoc r.before (here ∷ []) (lines (drop (e + 1) t)));
        starts =
            let m = ended_append_length r.before (here ∷ []) in
            let o = ended_more_length here [] in
            let p = here-length in
            let z = none_length in
            omega arith;
        counts = let m = length-append r.before (here ∷ []) in omega arith;
        few = omega arith;
      }

-- ---- no line is left
pub reached_end : (t : List ℕ) (at n l : ℕ) → length t ≤ at → (1 ≤ l → n ≤ l) → Reached t at n → SpanIs t l (length t) (length t)
reached_end t at n l h i r = at_end_lem (missing l i)
  where
    all : length (lines t) ≡ length r.before
    all =
        ap length r.split
        ∙ ap (λ (ls : List (List ℕ)). length (r.before ++ ls)) (lines_past t at h)
        ∙ ap length (append-nil r.before)

    missing : (l : ℕ) → (1 ≤ l → n ≤ l) → has_line t l ≡ false
    missing zero i = no_line_0 t
    missing (suc l) i =
        let c = r.counts in
        let m = i (omega arith) in
        let a = all in
        no_line_past t (suc l) (omega arith)

    at_end_lem : has_line t l ≡ false → SpanIs t l (length t) (length t)
    at_end_lem q =
        let s = start_none t l q in
        let m = ap length (text_none t l q) in
        record { starts = sym s; ends = omega (arith, s, m) }
