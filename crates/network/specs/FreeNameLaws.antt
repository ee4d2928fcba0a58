-- The free inputs, one input after the other. Assumes nothing.
use Rattle.std.specs.Prelude.{◌≡◌, refl, Bool, true, false, ℕ, ◌+◌, ◌≤◌, ◌<◌, length, take, get_or, is_some, Option, Some, None}
use Rattle.std.proofs.Math.Path.{sym, ap}
use Rattle.std.proofs.Common.{◌∙◌, arith}
use mathlib.Core.List.{List, [], ◌∷◌, ◌++◌, map, append-nil}
use Rattle.bits.specs.Logic.{pick}
use Rattle.bits.specs.LogicLaws.{true_false}
use Rattle.names.specs.Name.{Name, among}
use Rattle.names.specs.Pack.{name_of}
use Rattle.names.specs.Word.{PositionIs}
use Rattle.names.specs.LookupLaws.{found_among, nowhere_among}
use Rattle.classes.specs.Columns.{free}
use Rattle.network.specs.ShownLaws.{front_more}

picked : (b : Bool) (n : Name) (r s : List Name) → pick b (r ++ s) (n ∷ (r ++ s)) ≡ pick b r (n ∷ r) ++ s
picked true n r s = refl
picked false n r s = refl

free-append : (ns ms bs : List Name) → free (ns ++ ms) bs ≡ free ns bs ++ free ms bs
unfolding free
free-append [] ms bs = refl
free-append (n ∷ ns) ms bs =
    ap (λ (t : List Name). pick (among n bs) t (n ∷ t)) (free-append ns ms bs) ∙ picked (among n bs) n (free ns bs) (free ms bs)

-- the free names among the first i are listed
pub record Freeing (names : List ℕ) (bs : List Name) (n i count : ℕ) (now : List Name) : Type 0 where
  pub within : i ≤ n
  pub few : count ≤ i
  pub listed : now ≡ free (map name_of (take i names)) bs

pub freeing_none : (names : List ℕ) (bs : List Name) (n : ℕ) {count : ℕ} {now : List Name} → now ≡ [] → count ≡ 0 → Freeing names bs n 0 count now
unfolding free
freeing_none names bs n e z = record { within = omega arith; few = omega arith; listed = e }

module _ {names : List ℕ} {bs : List Name} {n i count : ℕ} {now : List Name} (g : Freeing names bs n i count now) (l : i < n) (few : n ≤ length names) where
  one_more : free (map name_of (take (i + 1) names)) bs ≡ now ++ free (name_of (get_or names i 0) ∷ []) bs
  one_more =
      ap (λ (t : List Name). free t bs) (sym (front_more name_of names i (omega arith)))
      ∙ free-append (map name_of (take i names)) (name_of (get_or names i 0) ∷ []) bs
      ∙ ap (λ (t : List Name). t ++ free (name_of (get_or names i 0) ∷ []) bs) (sym g.listed)

  bound_more : among (name_of (get_or names i 0)) bs ≡ true → Freeing names bs n (i + 1) count now
  unfolding free
  bound_more e =
      let f : count ≤ i = g.few in
      record {
        within = omega arith;
        few = omega arith;
        listed = sym (one_more
            ∙ ap (λ (t : Bool). now ++ pick t [] (name_of (get_or names i 0) ∷ [])) e ∙ append-nil now);
      }

  free_more : {later : List Name} {more : ℕ} → among (name_of (get_or names i 0)) bs ≡ false → later ≡ now ++ (name_of (get_or names i 0) ∷ [])
      → more ≡ count + 1 → Freeing names bs n (i + 1) more later
  unfolding free
  free_more {later} {more} e w s =
      let f : count ≤ i = g.few in
      record {
        within = omega arith;
        few = omega arith;
        listed = w ∙ sym (one_more ∙ ap (λ (t : Bool). now ++ pick t [] (name_of (get_or names i 0) ∷ [])) e);
      }

module _ (vs : List ℕ) {names : List ℕ} {n i count : ℕ} {now : List Name} (g : Freeing names (map name_of vs) n i count now) (l : i < n) (few : n ≤ length names)
    (p : Option ℕ) (h : PositionIs vs (get_or names i 0) p) where
  pub freeing_bound : is_some p ≡ true → Freeing names (map name_of vs) n (i + 1) count now
  freeing_bound e = bound_more g l few (go p h e)
    where
      go : (q : Option ℕ) → PositionIs vs (get_or names i 0) q → is_some q ≡ true → among (name_of (get_or names i 0)) (map name_of vs) ≡ true
      go (Some k) f e = found_among vs (get_or names i 0) k f
      go None f e = absurd (true_false (sym e))

  pub freeing_free : {later : List Name} {more : ℕ} → is_some p ≡ false → later ≡ now ++ (name_of (get_or names i 0) ∷ [])
      → more ≡ count + 1 → Freeing names (map name_of vs) n (i + 1) more later
  freeing_free e w s = free_more g l few (go p h e) w s
    where
      go : (q : Option ℕ) → PositionIs vs (get_or names i 0) q → is_some q ≡ false → among (name_of (get_or names i 0)) (map name_of vs) ≡ false
      go (Some k) f e = absurd (true_false e)
      go None f e = nowhere_among vs (get_or names i 0) f

pub freeing_all : {names : List ℕ} {bs : List Name} {n i count : ℕ} {now : List Name} → Freeing names bs n i count now → n ≤ i
    → (now ≡ free (map name_of (take n names)) bs) × (count ≤ n)
freeing_all {names} {bs} {n} {i} {count} g l =
    let w : i ≤ n = g.within in
    let e : i ≡ n = omega arith in
    let f : count ≤ i = g.few in
    (g.listed ∙ ap (λ (k : ℕ). free (map name_of (take k names)) bs) e, omega arith)
