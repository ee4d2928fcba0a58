-- Reading at the front of a text: `eat` finds just the texts that begin with its word, an item after an item is found
-- where both are, and a whole text is one with nothing left. Assumes nothing.
use Rattle.std.specs.Prelude.{◌≡◌, refl, Bool, true, false, List, [], ◌∷◌, ◌++◌, ℕ, ◌+◌, eqb, length}
use Rattle.std.proofs.Common.{sym, ap, ap₂, ◌∙◌, arith, length-append, eq-eqb, eqb-true}
use Rattle.std.proofs.Math.Option.{some}
use Rattle.bits.specs.Logic.{pick}
use Rattle.text.specs.Bytes.{Read, found, bad, after, eat, whole}

pub bad_found : {A : Type 0} {a : A} {s : List ℕ} → bad ≡ found a s → ⊥
bad_found e =
    let z : ◌≡◌ {A = ℕ} 0 1 = cc in
    omega arith

pub found-item : {A : Type 0} {a b : A} {s t : List ℕ} → found a s ≡ found b t → a ≡ b
found-item e = cc

pub found-rest : {A : Type 0} {a b : A} {s t : List ℕ} → found a s ≡ found b t → s ≡ t
found-rest e = cc

-- ---- a test before an item
pub pick-found : {A : Type 0} {a : A} {s : List ℕ} (t : Bool) (r : Read A)
    → pick t r bad ≡ found a s
    → (t ≡ true) × (r ≡ found a s)
pick-found true r e = (refl, e)
pick-found false r e = absurd (bad_found e)

-- ---- the text w at the front
pub eat_own : (w s : List ℕ) → eat w (w ++ s) ≡ found tt s
unfolding eat
eat_own [] s = refl
eat_own (b ∷ w) s = rw (eq-eqb b b refl) (eat_own w s)

pub eat-found : (w s t : List ℕ) → eat w s ≡ found tt t → s ≡ w ++ t
unfolding eat
eat-found [] s t e = found-rest e
eat-found (b ∷ w) [] t e = absurd (bad_found e)
eat-found (b ∷ w) (c ∷ s) t e =
    let p = pick-found (eqb b c) (eat w s) e in
    ap₂ (λ (x : ℕ) (l : List ℕ). x ∷ l) (sym (eqb-true b c p.0)) (eat-found w s t p.1)

pub eat_lengths : (w s t : List ℕ) → eat w s ≡ found tt t → length w + length t ≡ length s
eat_lengths w s t e = sym (ap length (eat-found w s t e) ∙ length-append w t)

-- ---- an item after an item
pub after-found : {A B : Type 0} (r : Read A) (f : A → List ℕ → Read B) (b : B) (u : List ℕ)
    → after r f ≡ found b u
    → (a : A) × (t : List ℕ) × (r ≡ found a t) × (f a t ≡ found b u)
after-found (found a t) f b u e = (a, t, refl, e)
after-found bad f b u e = absurd (bad_found e)

-- ---- nothing besides
pub whole-found : {A : Type 0} (r : Read A) (a : A) → whole r ≡ some a → r ≡ found a []
whole-found (found b []) a e = cc
whole-found (found b (c ∷ s)) a e = cc
whole-found bad a e = cc

pub found-whole : {A : Type 0} (r : Read A) (a : A) → r ≡ found a [] → whole r ≡ some a
found-whole r a e = rw e refl
