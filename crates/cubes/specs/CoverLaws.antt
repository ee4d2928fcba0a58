-- An output is 1 on a row exactly where some cube with a 1 for it covers the row. Assumes nothing.
use Rattle.std.specs.Prelude.{◌≡◌, refl, Bool, true, false, ◌&&◌, ◌||◌, List, [], ◌∷◌, ℕ, zero, suc, ◌<◌, length}
use Rattle.std.proofs.Common.{sym, arith}
use Rattle.bits.specs.LogicLaws.{true_false, and_both, or_first, or_second}
use Rattle.cubes.specs.Cube.{Cube}
use Rattle.cubes.specs.Cover.{covers, marked, cover_on, cube_at, Covered}

covered_at : (cs : List Cube) (o r k : ℕ)
    → k < length cs
    → marked (cube_at cs k) o ≡ true
    → covers (cube_at cs k).literals r ≡ true
    → cover_on cs o r ≡ true
unfolding cover_on
covered_at [] o r k h m c = absurd (omega arith)
covered_at (x ∷ cs) o r zero h m c =
    or_first (marked x o && covers x.literals r) (cover_on cs o r) (and_both (marked x o) (covers x.literals r) m c)
covered_at (x ∷ cs) o r (suc k) h m c = or_second (marked x o && covers x.literals r) (cover_on cs o r) (covered_at cs o r k (omega arith) m c)

pub covered-on : (cs : List Cube) (o r : ℕ) → Covered cs o r → cover_on cs o r ≡ true
covered-on cs o r c = covered_at cs o r c.which c.inside c.has_one c.contains

-- among the cubes after c
covered-later : (c : Cube) (cs : List Cube) (o r : ℕ) → Covered cs o r → Covered (c ∷ cs) o r
covered-later c cs o r k = record { which = suc k.which; inside = omega arith; has_one = k.has_one; contains = k.contains }

covered_first : (c : Cube) (cs : List Cube) (o r : ℕ) → marked c o ≡ true → covers c.literals r ≡ true → Covered (c ∷ cs) o r
covered_first c cs o r m h = record { which = 0; inside = omega arith; has_one = m; contains = h }

pub on-covered : (cs : List Cube) (o r : ℕ) → cover_on cs o r ≡ true → Covered cs o r
unfolding cover_on
on-covered [] o r e = absurd (true_false (sym e))
on-covered (c ∷ cs) o r e = go (marked c o) (covers c.literals r) refl refl (on-covered cs o r) e
  where
    go : (x y : Bool)
        → marked c o ≡ x
        → covers c.literals r ≡ y
        → (cover_on cs o r ≡ true → Covered cs o r)
        → (x && y) || cover_on cs o r ≡ true
        → Covered (c ∷ cs) o r
    go true true m h f e = covered_first c cs o r m h
    go true false m h f e = covered-later c cs o r (f e)
    go false y m h f e = covered-later c cs o r (f e)
