-- Lists of values: their length, their first value, the value at a place, and that tests have the same list exactly where they
-- agree. Assumes nothing.
use Rattle.std.specs.Prelude.{◌≡◌, refl, Bool, false, List, [], ◌∷◌, ◌++◌, ℕ, zero, suc, ◌+◌, ◌<◌, length, get_or}
use Rattle.std.proofs.Common.{sym, ap, ap₂, ◌∙◌, arith, add-one, length-append}
use Rattle.std.proofs.Math.Decide.{ℕ_discrete}
use Rattle.std.proofs.Math.ListN.{get_or-append}
use Rattle.std.proofs.lemmas.List.{get_or_at}
use Rattle.bits.specs.Values.{values_upto}

pub values_length : (f : ℕ → Bool) (n : ℕ) → length (values_upto f n) ≡ n
unfolding values_upto
values_length f zero = refl
values_length f (suc n) = length-append (values_upto f n) (f n ∷ []) ∙ ap (λ (k : ℕ). k + 1) (values_length f n) ∙ add-one n

pub values_at : (f : ℕ → Bool) (n i : ℕ) → i < n → get_or (values_upto f n) i false ≡ f i
unfolding values_upto
values_at f zero i h = absurd (omega arith)
values_at f (suc n) i h =
    elim (ℕ_discrete i n) as (λ _. get_or (values_upto f n ++ (f n ∷ [])) i false ≡ f i) [
      | yes e ↦ get_or_at (values_upto f n) (f n) [] false i (values_length f n ∙ sym e) ∙ ap f (sym e)
      | no g ↦ (let l = values_length f n in get_or-append (values_upto f n) (f n ∷ []) false i (below i n h g l)) ∙ values_at f n i (less i n h g)
    ]
  where
    less : (i n : ℕ) → i < suc n → (i ≡ n → ⊥) → i < n
    less i n h g = omega arith

    below : (i n : ℕ) → i < suc n → (i ≡ n → ⊥) → {m : ℕ} → m ≡ n → i < m
    below i n h g e = omega arith

pub values_same : (f g : ℕ → Bool) (n : ℕ) → ((i : ℕ) → i < n → f i ≡ g i) → values_upto f n ≡ values_upto g n
unfolding values_upto
values_same f g zero h = refl
values_same f g (suc n) h =
    ap₂ (λ (l : List Bool) (b : Bool). l ++ (b ∷ [])) (values_same f g n (λ i l. h i (omega arith))) (h n (omega arith))

-- and back: the same list, the same values
pub same_values : (f g : ℕ → Bool) (n i : ℕ) → i < n → values_upto f n ≡ values_upto g n → f i ≡ g i
same_values f g n i h e = sym (values_at f n i h) ∙ ap (λ (l : List Bool). get_or l i false) e ∙ values_at g n i h

pub values_first : (f : ℕ → Bool) (n : ℕ) → values_upto f (suc n) ≡ f 0 ∷ values_upto (λ (i : ℕ). f (suc i)) n
unfolding values_upto
values_first f zero = refl
values_first f (suc n) = ap (λ (l : List Bool). l ++ (f (suc n) ∷ [])) (values_first f n)
