-- Looking a name up: a lookup that answers at the first name that is the same, by the number of names after it, answers by the
-- place that the code finds; and a name that is found is among the names. Assumes nothing.
use Rattle.std.specs.Prelude.{◌≡◌, Bool, ◌||◌, ℕ, zero, suc, ◌-◌, ◌<◌, get_or, Some, None}
use Rattle.std.proofs.Math.Path.{refl, ap}
use Rattle.std.proofs.Common.{◌∙◌, arith}
use Rattle.std.proofs.Math.Bool.{true, false}
use mathlib.Core.List.{List, [], ◌∷◌, map}
use Rattle.std.proofs.Math.ListN.{length, length-map, get_or-map}
use Rattle.bits.specs.Logic.{pick}
use Rattle.bits.specs.LogicLaws.{neither_first, neither_second}
use Rattle.names.specs.Name.{Name, same_name, among}
use Rattle.names.specs.Pack.{unpack_within, name_of}
use Rattle.names.specs.Word.{PositionIs}

or_picks : (a b : Bool) → a || b ≡ pick a true b
or_picks true b = refl
or_picks false b = refl

-- a lookup of n that answers at the first name that is the same, by the number of names after it
abbrev pub AtFirst : {A : Type 0} → Name → (List Name → A) → (ℕ → A) → Type 0
AtFirst n look hit = (m : Name) (ms : List Name) → look (m ∷ ms) ≡ pick (same_name m n) (hit (length ms)) (look ms)

module _ {A : Type 0} (n : Name) (look : List Name → A) (hit : ℕ → A) (step : AtFirst n look hit) where
  look_hit : (m : Name) (ms : List Name) → same_name m n ≡ true → look (m ∷ ms) ≡ hit (length ms)
  look_hit m ms e = step m ms ∙ ap (λ (t : Bool). pick t (hit (length ms)) (look ms)) e

  look_miss : (m : Name) (ms : List Name) → same_name m n ≡ false → look (m ∷ ms) ≡ look ms
  look_miss m ms e = step m ms ∙ ap (λ (t : Bool). pick t (hit (length ms)) (look ms)) e

  pub look_first : (ms : List Name) (i : ℕ) → i < length ms → same_name (get_or ms i []) n ≡ true
      → ((k : ℕ) → k < i → same_name (get_or ms k []) n ≡ false) → look ms ≡ hit (length ms - 1 - i)
  look_first [] i l e h = absurd (omega arith)
  look_first (m ∷ ms) zero l e h =
      let all : length ms ≡ suc (length ms) - 1 - 0 = omega arith in
      look_hit m ms e ∙ ap hit all
  look_first (m ∷ ms) (suc i) l e h =
      let same : length ms - 1 - i ≡ suc (length ms) - 1 - suc i = omega arith in
      look_miss m ms (h 0 (omega arith)) ∙ look_first ms i (omega arith) e (λ k g. h (suc k) (omega arith)) ∙ ap hit same

  pub look_none : (ms : List Name) → among n ms ≡ false → look ms ≡ look []
  unfolding among
  look_none [] e = refl
  look_none (m ∷ ms) e =
      look_miss m ms (neither_first (same_name m n) (among n ms) e) ∙ look_none ms (neither_second (same_name m n) (among n ms) e)

-- ---- by what the code finds
name_at : (vs : List ℕ) (k : ℕ) → get_or (map name_of vs) k [] ≡ name_of (get_or vs k 0)
unfolding name_of unpack_within
name_at vs k = get_or-map name_of vs k 0

module _ {A : Type 0} (vs : List ℕ) (v : ℕ) (look : List Name → A) (hit : ℕ → A) (step : AtFirst (name_of v) look hit) where
  pub look_position : (i : ℕ) → PositionIs vs v (Some i) → look (map name_of vs) ≡ hit (length vs - 1 - i)
  unfolding PositionIs
  look_position i p =
      let is : (k : ℕ) (t : Bool) → same_name (name_of (get_or vs k 0)) (name_of v) ≡ t → same_name (get_or (map name_of vs) k []) (name_of v) ≡ t
      = λ k t e. ap (λ (m : Name). same_name m (name_of v)) (name_at vs k) ∙ e in
      let count : length (map name_of vs) ≡ length vs = length-map vs name_of in
      look_first (name_of v) look hit step (map name_of vs) i (omega arith) (is i true p.1) (λ k l. is k false (p.2 k l))
      ∙ ap (λ (c : ℕ). hit (c - 1 - i)) count

  pub look_nowhere : PositionIs vs v None → look (map name_of vs) ≡ look []
  unfolding PositionIs
  look_nowhere p = look_none (name_of v) look hit step (map name_of vs) p

module _ (vs : List ℕ) (v : ℕ) where
  pub found_among : (i : ℕ) → PositionIs vs v (Some i) → among (name_of v) (map name_of vs) ≡ true
  unfolding among
  found_among i p = look_position vs v (among (name_of v)) (λ _. true) (λ m ms. or_picks (same_name m (name_of v)) (among (name_of v) ms)) i p

  pub nowhere_among : PositionIs vs v None → among (name_of v) (map name_of vs) ≡ false
  unfolding PositionIs
  nowhere_among p = p

  pub found_inside : (i : ℕ) → PositionIs vs v (Some i) → i < length vs
  unfolding PositionIs
  found_inside i p = p.0
