-- The places of names among the inputs, from the first name on: each name's place is where the lookup finds it, in any
-- spelling. Assumes nothing.
use Rattle.std.specs.Prelude.{◌≡◌, refl, Bool, true, false, ◌&&◌, ℕ, zero, suc, ◌+◌, ◌≤◌, ◌<◌, length, get_or, take, drop, set, Option, Some, None}
use Rattle.std.proofs.Common.{sym, ap₂, subst, ◌∙◌, arith, add-one, length-set, drop_of_length-le, take-suc-set, take_all}
use Rattle.std.proofs.Math.Path.{ap}
use mathlib.Core.List.{List, [], ◌∷◌, ◌++◌, map, map-append}
use Rattle.std.proofs.lemmas.List.{length-map}
use Rattle.bits.specs.Logic.{pick}
use Rattle.limits.specs.Limits.{max_bound}
use Rattle.names.specs.Name.{Name, same_name, among, all_among}
use Rattle.names.specs.SameLaws.{same_name_right}
use Rattle.names.specs.Spelled.{spelled_by}
use Rattle.names.specs.SpelledLaws.{spelled_same}
use Rattle.names.specs.Pack.{name_of}
use Rattle.names.specs.Word.{PositionIs}
use Rattle.names.specs.LookupLaws.{found_among, nowhere_among}
use Rattle.sheet.specs.Known.{position, PlacesAre}
use Rattle.sheet.specs.StepLaws.{names_from, names_before}

-- ---- a name's place is the first that holds it
position_first : (vs : List ℕ) (v i : ℕ) → i < length vs → same_name (name_of (get_or vs i 0)) (name_of v) ≡ true
    → ((k : ℕ) → k < i → same_name (name_of (get_or vs k 0)) (name_of v) ≡ false) → position (map name_of vs) (name_of v) ≡ i
unfolding position
position_first [] v i l e h = absurd (omega arith)
position_first (x ∷ vs) v zero l e h = rw e refl
position_first (x ∷ vs) v (suc i) l e h =
    rw (h 0 (omega arith)) (ap suc (position_first vs v i (omega arith) e (λ k g. h (suc k) (omega arith))))

position-found : (vs : List ℕ) (v i : ℕ) → PositionIs vs v (Some i) → position (map name_of vs) (name_of v) ≡ i
unfolding PositionIs
position-found vs v i p = position_first vs v i p.0 p.1 p.2

-- ---- a name in another spelling has the same place
pub position_same : (ns : List Name) (m n : Name) → same_name m n ≡ true → position ns m ≡ position ns n
unfolding position
position_same [] m n e = refl
position_same (k ∷ ns) m n e =
    ap₂ (λ (b : Bool) (later : ℕ). pick b 0 (suc later)) (same_name_right m n e k) (position_same ns m n e)

pub spelled_positions : (ns ms : List Name) → map (position ns) (map (spelled_by ns) ms) ≡ map (position ns) ms
spelled_positions ns [] = refl
spelled_positions ns (m ∷ ms) =
    ap₂ (λ (p : ℕ) (ps : List ℕ). p ∷ ps) (position_same ns (spelled_by ns m) m (spelled_same ns m)) (spelled_positions ns ms)

-- ---- the names up to i have their places in the list
pub record Placed (ns inputs list : List ℕ) (i : ℕ) : Type 0 where
  pub inside : i ≤ length ns
  pub room : length list ≡ max_bound
  pub decides : all_among (map name_of ns) (map name_of inputs) ≡ all_among (map name_of (drop i ns)) (map name_of inputs)
  pub listed : take i list ≡ map (position (map name_of inputs)) (map name_of (take i ns))

pub placed_none : (ns inputs list : List ℕ) → length list ≡ max_bound → Placed ns inputs list 0
placed_none ns inputs list h = record { inside = omega arith; room = h; decides = refl; listed = refl }

module _ {ns inputs list : List ℕ} {i : ℕ} (p : Placed ns inputs list i) (l : i < length ns) where
  decided : (t : Bool) → among (name_of (get_or ns i 0)) (map name_of inputs) ≡ t
      → all_among (map name_of ns) (map name_of inputs) ≡ t && all_among (map name_of (drop (i + 1) ns)) (map name_of inputs)
  unfolding all_among
  decided t e =
      p.decides
      ∙ ap (λ (ms : List Name). all_among ms (map name_of inputs)) (names_from ns i l)
      ∙ ap (λ (b : Bool). b && all_among (map name_of (drop (i + 1) ns)) (map name_of inputs)) e

  listed_more : (k : ℕ) → i < length list → position (map name_of inputs) (name_of (get_or ns i 0)) ≡ k
      → take (i + 1) (set list i k) ≡ map (position (map name_of inputs)) (map name_of (take (i + 1) ns))
  listed_more k s e =
      let place = position (map name_of inputs) in
      let written : take (i + 1) (set list i k) ≡ take i list ++ (k ∷ []) = rw add-one (take-suc-set list i k s) in
      written
      ∙ ap₂ (λ (a : List ℕ) (b : ℕ). a ++ (b ∷ [])) p.listed (sym e)
      ∙ sym (map-append place (map name_of (take i ns)) (name_of (get_or ns i 0) ∷ []))
      ∙ ap (map place) (sym (names_before ns i l))

  found : {r : Option ℕ} → PositionIs inputs (get_or ns i 0) r → (q : Option ℕ) → r ≡ q → PositionIs inputs (get_or ns i 0) q
  found h q e = subst (λ (s : Option ℕ). PositionIs inputs (get_or ns i 0) s) e h

  pub place_missing : PositionIs inputs (get_or ns i 0) None → PlacesAre (map name_of ns) (map name_of inputs) None
  place_missing h = decided false (nowhere_among inputs (get_or ns i 0) h)

  pub placed_more : (k : ℕ) → PositionIs inputs (get_or ns i 0) (Some k) → length ns ≤ max_bound → Placed ns inputs (set list i k) (i + 1)
  placed_more k h few =
      record {
        inside = omega arith;
        room = length-set list i k ∙ p.room;
        decides = decided true (found_among inputs (get_or ns i 0) k h);
        listed = listed_more k (omega (arith, p.room)) (position-found inputs (get_or ns i 0) k h);
      }

pub placed_all : {ns inputs list : List ℕ} {i : ℕ} → Placed ns inputs list i → length ns ≤ i
    → PlacesAre (map name_of ns) (map name_of inputs) (Some list)
unfolding all_among
placed_all {ns} {inputs} {list} {i} p h =
    let whole : i ≡ length ns = omega (arith, p.inside) in
    let none_left : all_among (map name_of (drop i ns)) (map name_of inputs) ≡ true
    = ap (λ (vs : List ℕ). all_among (map name_of vs) (map name_of inputs)) (drop_of_length-le ns h) in
    record {
      all = p.decides ∙ none_left;
      listed =
          ap (λ (n : ℕ). take n list) (length-map ns name_of ∙ sym whole)
          ∙ p.listed
          ∙ ap (λ (vs : List ℕ). map (position (map name_of inputs)) (map name_of vs)) (take_all i ns h);
    }
