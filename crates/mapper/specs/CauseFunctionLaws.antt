-- The cause is a function of the sheet: the definition allows one answer. Assumes nothing.
use Rattle.std.specs.Prelude.{◌≡◌, refl, List, ◌⊎◌, ℕ, ◌<◌, length}
use Rattle.std.proofs.Common.{sym, ap, ◌∙◌, inl, inr, arith}
use Rattle.sheet.specs.Examine.{Design, Examined, refused, valid, examine}
use Rattle.subsets.specs.Subset.{size, Earlier}
use Rattle.subsets.specs.OrderLaws.{same_or_earlier}
use Rattle.mapper.specs.Cause.{Cause, CauseAnswer, no_cause, outputs_of, CauseFor, too_many_classes, mapped, refused_by_8, CauseOf, CauseIs}

-- ---- answers that differ
pub none_named : {s : ℕ} → no_cause ≡ outputs_of s → ⊥
none_named e = let z : ◌≡◌ {A = ℕ} 0 1 = cc in omega arith

pub same_set : {s t : ℕ} → outputs_of s ≡ outputs_of t → s ≡ t
same_set e = cc

-- ---- one cause
module _ (d : Design) (s t : ℕ) (p : Cause d s) (q : Cause d t) where
  no_smaller : size (length d.outputs) s < size (length d.outputs) t → ⊥
  no_smaller h = p.unserved (q.smaller s p.outputs h)

  no_earlier : size (length d.outputs) s ≡ size (length d.outputs) t → Earlier s t → ⊥
  no_earlier h e = p.unserved (q.earlier s p.outputs h e)

cause_one : (d : Design) (s t : ℕ) → Cause d s → Cause d t → s ≡ t
cause_one d s t p q = go (same_or_earlier m s t p.outputs.inside q.outputs.inside)
  where
    m : ℕ
    m = length d.outputs

    same_size : size m s ≡ size m t
    same_size =
        let a = no_smaller d s t p q in
        let b = no_smaller d t s q p in
        omega (arith, a, b)

    go : (s ≡ t) ⊎ (Earlier s t ⊎ Earlier t s) → s ≡ t
    go (inl e) = e
    go (inr (inl e)) = absurd (no_earlier d s t p q same_size e)
    go (inr (inr e)) = absurd (no_earlier d t s q p (sym same_size) e)

-- ---- one answer
for_one : (d : Design) {a b : CauseAnswer} → CauseFor d a → CauseFor d b → a ≡ b
for_one d (too_many_classes h) (too_many_classes k) = refl
for_one d (too_many_classes h) (mapped k w) = refl
for_one d (too_many_classes h) (refused_by_8 t k n c) = absurd (omega (arith, h, k))
for_one d (mapped h w) (too_many_classes k) = refl
for_one d (mapped h w) (mapped k v) = refl
for_one d (mapped h w) (refused_by_8 t k n c) = absurd (n w)
for_one d (refused_by_8 s h n c) (too_many_classes k) = absurd (omega (arith, h, k))
for_one d (refused_by_8 s h n c) (mapped k w) = absurd (n w)
for_one d (refused_by_8 s h n c) (refused_by_8 t k m e) = ap outputs_of (cause_one d s t c e)

-- whatever is examined
pub cause_of_one : (x : Examined) (a b : CauseAnswer) → CauseOf x a → CauseOf x b → a ≡ b
cause_of_one (refused q l) a b e f = e ∙ sym f
cause_of_one (valid d) a b e f = for_one d e f

pub cause_is_one : (t : List ℕ) (a b : CauseAnswer) → CauseIs t a → CauseIs t b → a ≡ b
cause_is_one t = cause_of_one (examine t)
