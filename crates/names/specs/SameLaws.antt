-- The test of two names is an equivalence, that of the texts in small letters: a name is the same as itself, either may stand
-- first, and what is the same as one of two names that are the same is the same as the other. Assumes nothing.
use Rattle.std.specs.Prelude.{◌≡◌, Bool, true, false, ◌&&◌, ◌||◌, ℕ, eqb, length}
use Rattle.std.proofs.Math.Path.{refl, ap}
use Rattle.std.proofs.Common.{sym, ◌∙◌}
use mathlib.Core.List.{List, [], ◌∷◌}
use Rattle.std.proofs.lemmas.List.{length-map}
use Rattle.bits.specs.LogicLaws.{true_false}
use Rattle.text.specs.Bytes.{same}
use Rattle.text.specs.BytesLaws.{same_equal, equal_same}
use Rattle.names.specs.Case.{lower, lowered}
use Rattle.names.specs.Name.{Name, same_name, among}

module _ (m n : Name) where
  pub same_name_lowered : same_name m n ≡ true → lowered m ≡ lowered n
  unfolding same_name
  same_name_lowered e = same_equal (lowered m) (lowered n) e

  lowered_same_name : lowered m ≡ lowered n → same_name m n ≡ true
  unfolding same_name
  lowered_same_name e = equal_same (lowered m) (lowered n) e

pub same_name_self : (n : Name) → same_name n n ≡ true
same_name_self n = lowered_same_name n n refl

pub same_name_equal : (m n : Name) → m ≡ n → same_name m n ≡ true
same_name_equal m n e = lowered_same_name m n (ap lowered e)

-- byte by byte
pub same_name_cons : (b c : ℕ) (m n : Name) → same_name (b ∷ m) (c ∷ n) ≡ eqb (lower b) (lower c) && same_name m n
unfolding same_name same
same_name_cons b c m n = refl

pub same_name_empty : (b : ℕ) (n : Name) → (same_name [] (b ∷ n) ≡ false) × (same_name (b ∷ n) [] ≡ false)
unfolding same_name same
same_name_empty b n = (refl, refl)

module _ (m n : Name) where
  pub same_name_back : same_name m n ≡ same_name n m
  same_name_back = go (same_name m n) (same_name n m) refl refl
    where
      go : (a b : Bool) → same_name m n ≡ a → same_name n m ≡ b → a ≡ b
      go true true e f = refl
      go true false e f = absurd (true_false (sym (lowered_same_name n m (sym (same_name_lowered m n e))) ∙ f))
      go false true e f = absurd (true_false (sym (lowered_same_name m n (sym (same_name_lowered n m f))) ∙ e))
      go false false e f = refl

  pub same_name_turned : same_name m n ≡ false → same_name n m ≡ false
  same_name_turned e = sym same_name_back ∙ e

  module _ (e : same_name m n ≡ true) where
    pub same_name_left : (k : Name) → same_name m k ≡ same_name n k
    unfolding same_name
    same_name_left k = ap (λ (x : Name). same x (lowered k)) (same_name_lowered m n e)

    pub same_name_right : (k : Name) → same_name k m ≡ same_name k n
    unfolding same_name
    same_name_right k = ap (same (lowered k)) (same_name_lowered m n e)

    pub same_name_through : (k : Name) → same_name n k ≡ true → same_name m k ≡ true
    same_name_through k f = same_name_left k ∙ f

    pub same_name_length : length m ≡ length n
    same_name_length = sym (length-map m lower) ∙ ap length (same_name_lowered m n e) ∙ length-map n lower

    pub among_same : (ns : List Name) → among m ns ≡ among n ns
    unfolding among
    among_same [] = refl
    among_same (k ∷ ns) = ap (λ (b : Bool). b || among m ns) (same_name_right k) ∙ ap (λ (b : Bool). same_name k n || b) (among_same ns)
