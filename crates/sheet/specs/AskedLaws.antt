-- Questions asked in turn: with the answer "yes" to all the line goes on, and a sheet is valid only where a line does. From a
-- line that goes on to the next one. Assumes nothing.
use Rattle.std.specs.Prelude.{◌≡◌, refl, Bool, true, false, List, [], ◌∷◌, ℕ, suc, ◌≤◌, leb}
use Rattle.std.proofs.Common.{ap, ◌∙◌, arith, leb-true}
use Rattle.bits.specs.Logic.{pick}
use Rattle.bits.specs.LogicLaws.{and_left, and_right}
use Rattle.sheet.specs.Examine.{Design, Examined, refused, valid, Place, Step, no_to, next, ask, within, ask_line, ask_lines, follow}

abbrev pub AllYes : List (ℕ × Bool) → Type 0
AllYes [] = Unit {0}
AllYes (q ∷ qs) = (q.1 ≡ true) × AllYes qs

pub all_yes : (qs : List (ℕ × Bool)) (t : Step) → AllYes qs → ask qs t ≡ t
all_yes [] t h = refl
all_yes (q ∷ qs) t h = ap (λ (b : Bool). pick b (ask qs t) (no_to q.0)) h.0 ∙ all_yes qs t h.1

pub line_next : (p q : Place) (d e : Design) (n : ℕ) (l : List ℕ) (ls : List (List ℕ))
    → ask_line p d l ≡ next q e
    → ask_lines p d n (l ∷ ls) ≡ ask_lines q e (suc n) ls
unfolding ask_lines
line_next p q d e n l ls h = ap (λ (t : Step). follow t n (λ p' d'. ask_lines p' d' (suc n) ls)) h

-- ---- from a valid sheet
pub refused_valid : {q l : ℕ} {d : Design} → refused q l ≡ valid d → ⊥
refused_valid e =
    let z : ◌≡◌ {A = ℕ} 0 1 = cc in
    omega arith

pub valid_is : {d e : Design} → valid d ≡ valid e → d ≡ e
valid_is h = cc

pub asked : (qs : List (ℕ × Bool)) (t : Step) (n : ℕ) (k : Place → Design → Examined) (d : Design)
    → follow (ask qs t) n k ≡ valid d
    → follow t n k ≡ valid d
asked [] t n k d h = h
asked (q ∷ qs) t n k d h = go q.1 (asked qs t n k d) h
  where
    go : (b : Bool)
        → (follow (ask qs t) n k ≡ valid d → follow t n k ≡ valid d)
        → follow (pick b (ask qs t) (no_to q.0)) n k ≡ valid d
        → follow t n k ≡ valid d
    go true f h = f h
    go false f h = absurd (refused_valid h)

-- ---- whether a count is within its bounds
pub within_low : (low high n : ℕ) → within low high n ≡ true → low ≤ n
within_low low high n e = leb-true low n (and_left (leb low n) (leb n high) e)

pub within_high : (low high n : ℕ) → within low high n ≡ true → n ≤ high
within_high low high n e = leb-true n high (and_right (leb low n) (leb n high) e)
