-- What Export answers and leaves in the buffer: a refusal of Check with its number and line, question 9, or the text at the
-- buffer's start. Assumes nothing.
use Rattle.std.specs.Prelude.{◌≡◌, Bool, List, ℕ, ◌≤◌, ◌<◌, length, get_or, take}
use Rattle.std.proofs.Math.Path.{refl, ap, ap₂}
use Rattle.std.proofs.Common.{sym, subst, ◌∙◌, arith, leb-true, leb-false, le-leb}
use Rattle.std.proofs.Math.Bool.{true, false}
use Rattle.std.proofs.Math.Dec.{leb}
use Rattle.std.proofs.lemmas.List.Edits.{sets}
use Rattle.std.proofs.Math.Seq.{length-sets}
use Rattle.std.proofs.lemmas.Bool.{lt-leb}
use Rattle.bits.specs.Logic.{pick}
use Rattle.sheet.specs.Examine.{Design, Examined, valid}
use Rattle.network.specs.Network.{Network}
use Rattle.network.specs.Check as checks
use Rattle.network.specs.Check.{Pair, refused_pair, pair, examine_pair, compare_pair, check_of}
use Rattle.network.specs.Answers.{Drawn}
use Rattle.network.specs.CheckLaws.{compared_not_refused, pair_drawn, drawn_pair}
use Rattle.emit.specs.StoredLaws.{stored_text, stored_after}
use Rattle.blif.specs.Printer.{print_blif}
use Rattle.blif.specs.Export.{Exported, refused_by, written, untouched, wrote, put_text, export_pair, export_of}
use Rattle.blif.specs.Simulated.{ExportRefuses, as_check, by_buffer}

-- ---- question 9
length-written : {m n : ℕ} → written m ≡ written n → m ≡ n
length-written e = cc

written-refused : {n q l : ℕ} → written n ≡ refused_by q l → ⊥
written-refused e = let z : ◌≡◌ {A = ℕ} 0 1 = cc in omega arith

module _ (t b : List ℕ) where
  pub put_short : length b < length t → put_text t b ≡ untouched 9 0 b
  unfolding put_text
  put_short h = rw (lt-leb (length t) (length b) h) refl

  pub put_fits : length t ≤ length b → put_text t b ≡ wrote t b
  unfolding put_text
  put_fits h = rw (le-leb (length t) (length b) h) refl

-- ---- what Export comes to
pub data Outcome (x : Examined) (t b : List ℕ) : Exported → Type 0 where
  as_checked : (q l : ℕ) → check_of x t ≡ checks.refused_by q l → Outcome x t b (untouched q l b)
  too_short : (d : Design) (w : Network)
      → x ≡ valid d
      → Drawn d t w
      → length b < length (print_blif d w)
      → Outcome x t b (untouched 9 0 b)
  put_down : (d : Design) (w : Network)
      → x ≡ valid d
      → Drawn d t w
      → length (print_blif d w) ≤ length b
      → Outcome x t b (wrote (print_blif d w) b)

module _ (x : Examined) (t b : List ℕ) where
  drawn_outcome : (d : Design) (w : Network) → x ≡ valid d → Drawn d t w → Outcome x t b (put_text (print_blif d w) b)
  unfolding put_text
  drawn_outcome d w e f = go (leb (length (print_blif d w)) (length b)) refl
    where
      go : (fits : Bool)
          → leb (length (print_blif d w)) (length b) ≡ fits
          → Outcome x t b (pick fits (wrote (print_blif d w) b) (untouched 9 0 b))
      go true h = put_down d w e f (leb-true (length (print_blif d w)) (length b) h)
      go false h = too_short d w e f (leb-false (length (print_blif d w)) (length b) h)

  pub outcome : Outcome x t b (export_of x t b)
  unfolding export_of check_of
  outcome = go (examine_pair x t) refl
    where
      go : (p : Pair) → examine_pair x t ≡ p → Outcome x t b (export_pair p b)
      go (refused_pair q l) e = as_checked q l (ap compare_pair e)
      go (pair d w) e =
          let (v, f) = pair_drawn t x d w e in
          drawn_outcome d w v f

  -- ---- from the questions to the answer
  pub drawn_put : (d : Design) (w : Network) → x ≡ valid d → Drawn d t w → export_of x t b ≡ put_text (print_blif d w) b
  unfolding export_of
  drawn_put d w e f = ap (λ (p : Pair). export_pair p b) (drawn_pair t x d w e f)

  pub checked_refused : (q l : ℕ) → check_of x t ≡ checks.refused_by q l → export_of x t b ≡ untouched q l b
  unfolding export_of check_of
  checked_refused q l e = go (examine_pair x t) e
    where
      go : (p : Pair) → compare_pair p ≡ checks.refused_by q l → export_pair p b ≡ untouched q l b
      go (refused_pair p m) f =
          let i : p ≡ q = cc in
          let j : m ≡ l = cc in
          ap₂ (λ (u v : ℕ). untouched u v b) i j
      go (pair d w) f = absurd (compared_not_refused d w q l f)

  -- ---- from the answer to the questions
  refused-here : (q l p m : ℕ) → refused_by p m ≡ refused_by q l → ExportRefuses x t (length b) p m → ExportRefuses x t (length b) q l
  refused-here q l p m e h =
      let i : p ≡ q = cc in
      let j : m ≡ l = cc in
      subst (λ (n : ℕ). ExportRefuses x t (length b) n l) i (subst (ExportRefuses x t (length b) p) j h)

  pub refusal_because : {y : Exported} (q l : ℕ) → Outcome x t b y → y.answer ≡ refused_by q l → ExportRefuses x t (length b) q l
  refusal_because q l (as_checked p m e) h = refused-here q l p m h (as_check p m e)
  refusal_because q l (too_short d w e f k) h = refused-here q l 9 0 h (by_buffer d w e f k)
  refusal_because q l (put_down d w e f k) h = absurd (written-refused h)

  pub refusal_untouched : {y : Exported} (q l : ℕ) → Outcome x t b y → y.answer ≡ refused_by q l → y.buffer ≡ b
  refusal_untouched q l (as_checked p m e) h = refl
  refusal_untouched q l (too_short d w e f k) h = refl
  refusal_untouched q l (put_down d w e f k) h = absurd (written-refused h)

  pub outcome_length : {y : Exported} → Outcome x t b y → length y.buffer ≡ length b
  outcome_length (as_checked p m e) = refl
  outcome_length (too_short d w e f k) = refl
  outcome_length (put_down d w e f k) = length-sets b 0 (print_blif d w)

  pub outcome_later : {y : Exported} (n i : ℕ) → Outcome x t b y → y.answer ≡ written n → n ≤ i → get_or y.buffer i 0 ≡ get_or b i 0
  outcome_later n i (as_checked p m e) h l = refl
  outcome_later n i (too_short d w e f k) h l = refl
  outcome_later n i (put_down d w e f k) h l = stored_after b (print_blif d w) k i (omega (arith, length-written h))

-- ---- the text at the buffer's start
pub put_text_lem : (t b : List ℕ) (n : ℕ) → (put_text t b).answer ≡ written n → take n (put_text t b).buffer ≡ t
unfolding put_text
put_text_lem t b n h = go (leb (length t) (length b)) refl h
  where
    go : (fits : Bool)
        → leb (length t) (length b) ≡ fits
        → (pick fits (wrote t b) (untouched 9 0 b)).answer ≡ written n
        → take n (pick fits (wrote t b) (untouched 9 0 b)).buffer ≡ t
    go true e f =
        ap (λ (i : ℕ). take i (sets b 0 t)) (sym (length-written f)) ∙ stored_text b t (leb-true (length t) (length b) e)
    go false e f = absurd (written-refused (sym f))
