-- What a lookup among numbers finds: the place of the first name that is the same, or that none is among them. Assumes nothing.
use Rattle.std.specs.Prelude.{◌≡◌, refl, Bool, false, List, [], ◌∷◌, ℕ, suc, ◌<◌, ◌≤◌, map, length, get_or, ◌||◌, Option, Some, None, position}
use Rattle.std.specs.List.{position_or_len}
use Rattle.std.proofs.Common.{sym, ap, ◌∙◌, arith}
use Rattle.std.proofs.lemmas.Grind.{common_steps}
use Rattle.std.proofs.lemmas.List.Quantifiers.{position-Some}
use Rattle.std.proofs.lemmas.List.Sums.{fails_before_first}
use Rattle.names.specs.Name.{same_name, among}
use Rattle.names.specs.Pack.{name_of}
use Rattle.names.specs.Word.{PositionIs}

-- whether the name that m holds is v's
abbrev pub is_same : ℕ → ℕ → Bool
is_same v m = same_name (name_of m) (name_of v)

no_other : (vs : List ℕ) (v : ℕ) → ((k : ℕ) → k < length vs → is_same v (get_or vs k 0) ≡ false) → among (name_of v) (map name_of vs) ≡ false
unfolding among
no_other [] v h = refl
no_other (w ∷ vs) v h =
    ap (λ (t : Bool). t || among (name_of v) (map name_of vs)) (h 0 (omega arith)) ∙ no_other vs v (λ k l. h (suc k) (omega arith))

not_among : (vs : List ℕ) (v : ℕ) → position (is_same v) vs ≡ None → among (name_of v) (map name_of vs) ≡ false
not_among vs v e =
    let all : length vs ≤ position_or_len (is_same v) vs = grind (arith, common_steps) in
    no_other vs v (λ k l. fails_before_first (is_same v) vs k 0 (omega arith))

pub position_is : (vs : List ℕ) (v : ℕ) (r : Option ℕ) → r ≡ position (is_same v) vs → PositionIs vs v r
unfolding PositionIs
position_is vs v (Some i) e = position-Some (is_same v) vs i 0 (sym e)
position_is vs v None e = not_among vs v (sym e)
