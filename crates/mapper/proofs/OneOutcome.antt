-- Map is a function of the sheet and the buffer: two outcomes on one sheet and one buffer have one answer and leave one buffer.
-- Assumes nothing.
use Rattle.std.specs.Prelude.{◌≡◌, refl, List, ℕ, length}
use Rattle.std.proofs.Common.{sym, ap, ap₂, ◌∙◌, arith}
use Rattle.std.proofs.lemmas.List.Edits.{sets}
use Rattle.sheet.specs.Examine.{Design, Examined, refused, valid, examine}
use Rattle.network.specs.Network.{Network}
use Rattle.network.specs.NetworkFor.{NetworkFor}
use Rattle.network.specs.Answers.{WithinLimits, Computes}
use Rattle.mapper.specs.Map.{First, MapAnswer, mapped, OutcomeFor, too_many_classes, no_network, buffer_short, written, OutcomeOf, Outcome}
use Rattle.mapper.specs.FunctionLaws.{first_one}

-- where no network will do, none is first
none_first : {d : Design}
    → ((w : Network) → NetworkFor d w → WithinLimits d w → Computes d w → ⊥)
    → (w : Network)
    → First d w
    → ⊥
none_first n w p = n w p.permitted.wellformed p.permitted.within p.permitted.computes

module _ (d : Design) (b : List ℕ) where
  design_one : {a c : MapAnswer} {a' c' : List ℕ} → OutcomeFor d b a a' → OutcomeFor d b c c' → (a ≡ c) × (a' ≡ c')
  design_one (too_many_classes h) (too_many_classes m) = (refl, refl)
  design_one (too_many_classes h) (no_network m k) = absurd (omega (arith, h, m))
  design_one (too_many_classes h) (buffer_short v m q k) = absurd (omega (arith, h, m))
  design_one (too_many_classes h) (written v m q k) = absurd (omega (arith, h, m))
  design_one (no_network h n) (too_many_classes m) = absurd (omega (arith, h, m))
  design_one (no_network h n) (no_network m k) = (refl, refl)
  design_one (no_network h n) (buffer_short v m q k) = absurd (none_first n v q)
  design_one (no_network h n) (written v m q k) = absurd (none_first n v q)
  design_one (buffer_short w h p n) (too_many_classes m) = absurd (omega (arith, h, m))
  design_one (buffer_short w h p n) (no_network m k) = absurd (none_first k w p)
  design_one (buffer_short w h p n) (buffer_short v m q k) = (refl, refl)
  design_one (buffer_short w h p n) (written v m q k) =
      let e = ap length (first_one d w v p q).0 in
      absurd (omega (arith, e, n, k))
  design_one (written w h p n) (too_many_classes m) = absurd (omega (arith, h, m))
  design_one (written w h p n) (no_network m k) = absurd (none_first k w p)
  design_one (written w h p n) (buffer_short v m q k) =
      let e = ap length (first_one d w v p q).0 in
      absurd (omega (arith, e, n, k))
  design_one (written w h p n) (written v m q k) =
      let (e, c) = first_one d w v p q in
      (ap₂ mapped c (ap length e), ap (sets b 0) e)

-- whatever is examined, a sheet, a panel or what else there comes to be
pub examined_one : (x : Examined) (b : List ℕ) (a a' : MapAnswer) (b' b'' : List ℕ)
    → OutcomeOf x b a b'
    → OutcomeOf x b a' b''
    → (a ≡ a') × (b' ≡ b'')
examined_one (refused q l) b a a' b' b'' o p = (o.refusal ∙ sym p.refusal, o.untouched ∙ sym p.untouched)
examined_one (valid d) b a a' b' b'' o p = design_one d b o p

pub outcome_one : (s b : List ℕ) (a a' : MapAnswer) (b' b'' : List ℕ)
    → Outcome s b a b'
    → Outcome s b a' b''
    → (a ≡ a') × (b' ≡ b'')
outcome_one s b a a' b' b'' o p = examined_one (examine s) b a a' b' b'' o p
