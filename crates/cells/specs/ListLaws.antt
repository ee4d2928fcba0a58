-- Laws of finite choices: what holds of each element, or of each pair, holds of parts, of lists put together and of what follows from
-- it; each is an induction over the list. Assumes nothing.
use Rattle.std.specs.Prelude.{◌≡◌, refl, Bool, true, false, not, List, [], ◌∷◌, ◌++◌, ℕ, zero, suc, ◌+◌, length, get_or}
use Rattle.std.proofs.Common.{arith}
use Rattle.cells.specs.Lists.{All, Pairs, keep, part, zeros}

pub all_map : (P Q : ℕ → Type 0) (xs : List ℕ) → ((x : ℕ) → P x → Q x) → All P xs → All Q xs
all_map P Q [] f a = tt
all_map P Q (x ∷ xs) f a = (f x a.0, all_map P Q xs f a.1)

pub all_both : (P Q : ℕ → Type 0) (xs : List ℕ) → All P xs → All Q xs → All (λ (x : ℕ). P x × Q x) xs
all_both P Q [] a b = tt
all_both P Q (x ∷ xs) a b = ((a.0, b.0), all_both P Q xs a.1 b.1)

-- pairs of elements with P that are in relation R are in relation S
pub pairs_map : (P : ℕ → Type 0) (R S : ℕ → ℕ → Type 0) (xs : List ℕ) → ((x y : ℕ) → P x → P y → R x y → S x y) → All P xs → Pairs R xs → Pairs S xs
pairs_map P R S [] f a r = tt
pairs_map P R S (x ∷ xs) f a r =
    (all_map (λ (y : ℕ). P y × R x y) (S x) xs (λ y p. f x y a.0 p.0 p.1) (all_both P (R x) xs a.1 r.0), pairs_map P R S xs f a.1 r.1)

pub all_append : (P : ℕ → Type 0) (xs ys : List ℕ) → All P xs → All P ys → All P (xs ++ ys)
all_append P [] ys a b = b
all_append P (x ∷ xs) ys a b = (a.0, all_append P xs ys a.1 b)

pub pairs_append : (R : ℕ → ℕ → Type 0) (xs ys : List ℕ) → Pairs R xs → Pairs R ys → All (λ (x : ℕ). All (R x) ys) xs → Pairs R (xs ++ ys)
pairs_append R [] ys p q a = q
pairs_append R (x ∷ xs) ys p q a = (all_append (R x) xs ys p.0 a.0, pairs_append R xs ys p.1 q a.1)

-- ---- the part with a property
pub all_part : (P : ℕ → Type 0) (p : ℕ → Bool) (xs : List ℕ) → All P xs → All P (part p xs)
unfolding part
all_part P p [] a = tt
all_part P p (x ∷ xs) a = go (p x) (all_part P p xs a.1)
  where
    go : (b : Bool) → All P (part p xs) → All P (keep b x (part p xs))
    go true h = (a.0, h)
    go false h = h

pub part-has : (p : ℕ → Bool) (xs : List ℕ) → All (λ (x : ℕ). p x ≡ true) (part p xs)
unfolding part
part-has p [] = tt
part-has p (x ∷ xs) = go (p x) refl (part-has p xs)
  where
    go : (b : Bool) → p x ≡ b → All (λ (x : ℕ). p x ≡ true) (part p xs) → All (λ (x : ℕ). p x ≡ true) (keep b x (part p xs))
    go true e h = (e, h)
    go false e h = h

pub pairs_part : (R : ℕ → ℕ → Type 0) (p : ℕ → Bool) (xs : List ℕ) → Pairs R xs → Pairs R (part p xs)
unfolding part
pairs_part R p [] a = tt
pairs_part R p (x ∷ xs) a = go (p x) (pairs_part R p xs a.1)
  where
    go : (b : Bool) → Pairs R (part p xs) → Pairs R (keep b x (part p xs))
    go true h = (all_part (R x) p xs a.0, h)
    go false h = h

pub part_length : (p : ℕ → Bool) (xs : List ℕ) → length xs ≡ length (part p xs) + length (part (λ (x : ℕ). not (p x)) xs)
unfolding part
part_length p [] = refl
part_length p (x ∷ xs) = go (p x) (part_length p xs)
  where
    q : ℕ → Bool
    q x = not (p x)

    go : (b : Bool) → length xs ≡ length (part p xs) + length (part q xs) → suc (length xs) ≡ length (keep b x (part p xs)) + length (keep (not b) x (part q xs))
    go true h = omega arith
    go false h = omega arith

-- ---- a list of n zeros
pub zeros_are : (n i : ℕ) → get_or (zeros n) i 0 ≡ 0
zeros_are zero i = refl
zeros_are (suc n) zero = refl
zeros_are (suc n) (suc i) = zeros_are n i
