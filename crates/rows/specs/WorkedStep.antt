-- Rows that are stepped through, computed: the definition beside what a person would write down. Assumes nothing.
use Rattle.std.specs.Prelude.{◌≡◌, refl, List, [], ◌∷◌, ℕ, zero, suc}
use Rattle.rows.specs.Step.{stepped}

-- the row r and the n that follow
abbrev walked : ℕ → ℕ → ℕ → ℕ → List ℕ
walked bound free zero r = r ∷ []
walked bound free (suc n) r = r ∷ walked bound free n (stepped bound free r)

-- three inputs, of which the middle one is bound: once 0, once 1, and after the last free row the first again
middle_0 : walked 2 5 4 0 ≡ 0 ∷ 1 ∷ 4 ∷ 5 ∷ 0 ∷ []
unfolding stepped
middle_0 = refl

middle_1 : walked 2 5 4 2 ≡ 2 ∷ 3 ∷ 6 ∷ 7 ∷ 2 ∷ []
unfolding stepped
middle_1 = refl

-- the two lowest bound, to 1 and 0: a carry from the third goes to the fourth
lowest : walked 3 12 4 2 ≡ 2 ∷ 6 ∷ 10 ∷ 14 ∷ 2 ∷ []
unfolding stepped
lowest = refl

-- no free input: the one free row again
none_free : walked 7 0 2 5 ≡ 5 ∷ 5 ∷ 5 ∷ []
unfolding stepped
none_free = refl

-- ten inputs, of which the fourth and the eighth are bound, to 1 and 0: from the last free row below a bound digit on
ten : walked 68 955 2 67 ≡ 67 ∷ 72 ∷ 73 ∷ []
unfolding stepped
ten = refl
