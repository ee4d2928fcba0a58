-- An input found among the inputs: its value on a row is the row's digit that its place gives, the first name highest.
-- Assumes nothing.
use Rattle.std.specs.Prelude.{◌≡◌, refl, true, false, List, map, ℕ, ◌-◌, ◌<◌, length, Option, Some, None}
use Rattle.std.proofs.Common.{subst}
use Rattle.bits.specs.Digit.{on}
use Rattle.names.specs.Name.{among}
use Rattle.names.specs.Pack.{name_of}
use Rattle.names.specs.Word.{PositionIs}
use Rattle.names.specs.LookupLaws as lookup
use Rattle.formula.specs.Value.{on_row}

-- what is known of the answer p is known of what p is
told : (vs : List ℕ) (v : ℕ) (p q : Option ℕ) → PositionIs vs v p → p ≡ q → PositionIs vs v q
told vs v p q h e = subst (λ (x : Option ℕ). PositionIs vs v x) e h

pub found_inside : (vs : List ℕ) (v i : ℕ) (p : Option ℕ) → PositionIs vs v p → p ≡ Some i → i < length vs
found_inside vs v i p h e = lookup.found_inside vs v i (told vs v p (Some i) h e)

pub found-row : (vs : List ℕ) (v i : ℕ) (p : Option ℕ) → PositionIs vs v p → p ≡ Some i → (r : ℕ) → on_row (map name_of vs) r (name_of v) ≡ on r (length vs - 1 - i)
unfolding on_row
found-row vs v i p h e r = lookup.look_position vs v (λ ms. on_row ms r (name_of v)) (λ k. on r k) (λ m ms. refl) i (told vs v p (Some i) h e)

pub found_among : (vs : List ℕ) (v i : ℕ) (p : Option ℕ) → PositionIs vs v p → p ≡ Some i → among (name_of v) (map name_of vs) ≡ true
found_among vs v i p h e = lookup.found_among vs v i (told vs v p (Some i) h e)

pub nowhere_among : (vs : List ℕ) (v : ℕ) (p : Option ℕ) → PositionIs vs v p → p ≡ None → among (name_of v) (map name_of vs) ≡ false
nowhere_among vs v p h e = lookup.nowhere_among vs v (told vs v p None h e)

pub nowhere_row : (vs : List ℕ) (v : ℕ) (p : Option ℕ) → PositionIs vs v p → p ≡ None → (r : ℕ) → on_row (map name_of vs) r (name_of v) ≡ false
unfolding on_row
nowhere_row vs v p h e r = lookup.look_nowhere vs v (λ ms. on_row ms r (name_of v)) (λ k. on r k) (λ m ms. refl) (told vs v p None h e)
