-- One line after another: a line that is read lets the next one be read, and one that is not, or that no 0x0A ends, is the bad
-- one. Assumes nothing.
use Rattle.std.specs.Prelude.{◌≡◌, refl, Bool, true, false, ltb, List, ℕ, ◌+◌, ◌-◌, ◌≤◌, ◌<◌, length, take, drop}
use Rattle.std.specs.Prelude as code
use Rattle.std.specs.Bool.{then_some}
use Rattle.std.proofs.Common.{ap, ap₂, ◌∙◌, arith, ltb-true, ltb-false}
use Rattle.std.proofs.Math.Option.{Option, some, none}
use Rattle.bits.specs.Logic.{pick}
use Rattle.text.specs.Line.{lines, ends_line}
use Rattle.text.specs.LineEnd.{LineEnd}
use Rattle.text.specs.LastLineLaws.{last_line, not-ended, line_here, is_ended}
use Rattle.text.specs.LineCountLaws.{lines_past}
use Rattle.platext.specs.Text.{Answer, bad_line, next_line, or_bad}
use Rattle.platext.specs.Reading.{LineHere, NoLine, none_left, open_line, NextIs, Passed, Stopped}

-- ---- the line at a place
pub nothing_left : (s : List ℕ) (at : ℕ) → length s ≤ at → NoLine s at
nothing_left s at h = none_left (lines_past s at h)

module _ (s : List ℕ) (at e : ℕ) (h : at < length s) (x : LineEnd s at e) where
  pub ended-line : e < length s → LineHere s at e
  ended-line l =
      let apart : e ≡ length s → ⊥ = λ g. omega arith in
      record {
        after-start = x.after-start;
        inside = l;
        is = line_here s at e h x apart;
        ended = is_ended s at e h x apart;
      }

  pub unended : length s ≤ e → NoLine s at
  unended l =
      let same : e ≡ length s = omega (arith, x.inside) in
      open_line (drop at s) (last_line s at e h x same) (not-ended s at e h x same)

-- as the code says it
pub next-found : (s : List ℕ) (at e : ℕ) (r : code.Option ℕ) → at < length s → LineEnd s at e → r ≡ then_some (ltb e (length s)) e → NextIs s at r
next-found s at e r h x o = rw o (by (ltb e (length s)) refl)
  where
    by : (b : Bool) → ltb e (length s) ≡ b → NextIs s at (then_some b e)
    by true f = ended-line s at e h x (ltb-true e (length s) f)
    by false f = unended s at e h x (ltb-false e (length s) f)

-- ---- reading it
module _ {A : Type 0} {s : List ℕ} {at : ℕ} (read : List ℕ → Option A) where
  pub no_line_stops : NoLine s at → Stopped s at read
  no_line_stops (none_left e) = record { is = λ n onward. ap (next_line (ends_line s) n read onward) e }
  no_line_stops (open_line l e f) =
      record { is = λ n onward. ap₂ (λ (b : Bool) (ls : List (List ℕ)). next_line b n read onward ls) f e }

  module _ {e : ℕ} (x : LineHere s at e) where
    at_line : (n : ℕ) (onward : A → List (List ℕ) → Answer)
        → next_line (ends_line s) n read onward (lines (drop at s)) ≡ or_bad n (read (take (e - at) (drop at s))) (λ a. onward a (lines (drop (e + 1) s)))
    at_line n onward =
        ap (next_line (ends_line s) n read onward) x.is
        ∙ ap (λ (b : Bool). pick b (or_bad n (read (take (e - at) (drop at s))) (λ a. onward a (lines (drop (e + 1) s)))) (bad_line n)) x.ended

    pub read_passes : (a : A) → read (take (e - at) (drop at s)) ≡ some a → Passed s at read a (e + 1)
    read_passes a f =
        let i = x.inside in
        record {
          inside = omega arith;
          is = λ n onward. at_line n onward ∙ ap (λ (y : Option A). or_bad n y (λ b. onward b (lines (drop (e + 1) s)))) f;
        }

    pub unread_stops : read (take (e - at) (drop at s)) ≡ none → Stopped s at read
    unread_stops f = record { is = λ n onward. at_line n onward ∙ ap (λ (y : Option A). or_bad n y (λ b. onward b (lines (drop (e + 1) s)))) f }
