-- Whether no name stands twice, from the first name on: no name passed stands again. Assumes nothing.
use Rattle.std.specs.Prelude.{◌≡◌, refl, Bool, true, false, ◌&&◌, List, map, ℕ, ◌+◌, ◌-◌, ◌≤◌, ◌<◌, length, get_or, take, drop, Option, Some, None, is_some}
use Rattle.std.proofs.Common.{sym, subst, ◌∙◌, arith, length-drop, drop_of_length-le, take_all}
use Rattle.std.proofs.Math.Path.{ap}
use Rattle.std.proofs.Math.Bool.{not}
use Rattle.bits.specs.LogicLaws.{true_false}
use Rattle.names.specs.Name.{among, distinct}
use Rattle.names.specs.Pack.{name_of}
use Rattle.names.specs.Word.{PositionIs}
use Rattle.names.specs.LookupLaws.{found_among, nowhere_among}
use Rattle.sheet.specs.StepLaws.{names_from}

-- the names from i on decide
pub record Passed (ns : List ℕ) (i : ℕ) : Type 0 where
  pub inside : i ≤ length ns
  pub decides : distinct (map name_of ns) ≡ distinct (map name_of (drop i ns))

pub passed_none : (ns : List ℕ) → Passed ns 0
passed_none ns = record { inside = omega arith; decides = refl }

module _ {ns : List ℕ} {i : ℕ} (p : Passed ns i) (l : i < length ns) where
  decided : (t : Bool) → among (name_of (get_or ns i 0)) (map name_of (drop (i + 1) ns)) ≡ t
      → distinct (map name_of ns) ≡ not t && distinct (map name_of (drop (i + 1) ns))
  unfolding distinct
  decided t e =
      p.decides ∙ ap distinct (names_from ns i l) ∙ ap (λ (b : Bool). not b && distinct (map name_of (drop (i + 1) ns))) e

  -- the code lends the names after i up to the last
  later_names : (r : Option ℕ) → PositionIs (take (length ns - (i + 1)) (drop (i + 1) ns)) (get_or ns i 0) r
      → PositionIs (drop (i + 1) ns) (get_or ns i 0) r
  later_names r h =
      subst (λ (vs : List ℕ). PositionIs vs (get_or ns i 0) r)
      (take_all (length ns - (i + 1)) (drop (i + 1) ns) (omega (arith, length-drop (i + 1) ns))) h

  module _ (r : Option ℕ) (h : PositionIs (take (length ns - (i + 1)) (drop (i + 1) ns)) (get_or ns i 0) r) where
    found : (q : Option ℕ) → r ≡ q → PositionIs (drop (i + 1) ns) (get_or ns i 0) q
    found q e = subst (λ (s : Option ℕ). PositionIs (drop (i + 1) ns) (get_or ns i 0) s) e (later_names r h)

    pub stands_twice : true ≡ is_some r → false ≡ distinct (map name_of ns)
    stands_twice e = go r (later_names r h) e
      where
        go : (q : Option ℕ) → PositionIs (drop (i + 1) ns) (get_or ns i 0) q → true ≡ is_some q → false ≡ distinct (map name_of ns)
        go (Some k) p e = sym (decided true (found_among (drop (i + 1) ns) (get_or ns i 0) k p))
        go None p e = absurd (true_false e)

    pub passed_more : false ≡ is_some r → Passed ns (i + 1)
    passed_more e = go r (later_names r h) e
      where
        go : (q : Option ℕ) → PositionIs (drop (i + 1) ns) (get_or ns i 0) q → false ≡ is_some q → Passed ns (i + 1)
        go (Some k) p e = absurd (true_false (sym e))
        go None p e = record { inside = omega arith; decides = decided false (nowhere_among (drop (i + 1) ns) (get_or ns i 0) p) }

pub passed_all : {ns : List ℕ} {i : ℕ} → Passed ns i → length ns ≤ i → true ≡ distinct (map name_of ns)
unfolding distinct
passed_all {ns} p l =
    sym (p.decides ∙ ap (λ (vs : List ℕ). distinct (map name_of vs)) (drop_of_length-le ns l))
