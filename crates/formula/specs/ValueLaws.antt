-- Operands as a list: their values, depths and names, and what one more at the end adds to them. Assumes nothing.
use Rattle.std.specs.Prelude.{◌≡◌, refl, Bool, ◌&&◌, List, [], ◌∷◌, ◌++◌, map, ℕ, max}
use Rattle.std.proofs.Common.{ap, ◌∙◌, arith}
use Rattle.std.proofs.lemmas.List.{map-append}
use Rattle.bits.specs.Logic.{andb}
use Rattle.names.specs.Name.{Name}
use Rattle.formula.specs.Tree.{Formula, Operands, none, more, depth, depths, knows, knows_all}
use Rattle.formula.specs.Value.{every, value, values}
use Rattle.formula.specs.Onto.{onto, largest}
use Rattle.formula.specs.GateLaws.{every_snoc}

pub onto_snoc : (fs : List Formula) (f : Formula) (os : Operands) → onto (fs ++ (f ∷ [])) os ≡ onto fs (more f os)
onto_snoc [] f os = refl
onto_snoc (e ∷ fs) f os = ap (more e) (onto_snoc fs f os)

-- ---- of a list
values_onto : (v : Name → Bool) (fs : List Formula) → values v (onto fs none) ≡ map (value v) fs
unfolding values
values_onto v [] = refl
values_onto v (f ∷ fs) = ap (λ (l : List Bool). value v f ∷ l) (values_onto v fs)

depths_onto : (fs : List Formula) → depths (onto fs none) ≡ largest (map depth fs)
unfolding depths
depths_onto [] = refl
depths_onto (f ∷ fs) = ap (max (depth f)) (depths_onto fs)

knows_onto : (ns : List Name) (fs : List Formula) → knows_all ns (onto fs none) ≡ every (map (knows ns) fs)
unfolding knows_all
knows_onto ns [] = refl
knows_onto ns (f ∷ fs) = ap (λ (b : Bool). knows ns f && b) (knows_onto ns fs)

-- ---- with one more at the end
largest_snoc : (ds : List ℕ) (d : ℕ) → largest (ds ++ (d ∷ [])) ≡ max (largest ds) d
largest_snoc [] d = omega arith
largest_snoc (e ∷ ds) d = rw (largest_snoc ds d) (omega arith)

pub values_snoc : (v : Name → Bool) (fs : List Formula) (f : Formula)
    → values v (onto (fs ++ (f ∷ [])) none) ≡ values v (onto fs none) ++ (value v f ∷ [])
values_snoc v fs f = simp values_onto (map-append (value v) fs (f ∷ []))

pub depths_snoc : (fs : List Formula) (f : Formula) → depths (onto (fs ++ (f ∷ [])) none) ≡ max (depths (onto fs none)) (depth f)
depths_snoc fs f = simp depths_onto (ap largest (map-append depth fs (f ∷ [])) ∙ largest_snoc (map depth fs) (depth f))

pub knows_snoc : (ns : List Name) (fs : List Formula) (f : Formula)
    → knows_all ns (onto (fs ++ (f ∷ [])) none) ≡ andb (knows_all ns (onto fs none)) (knows ns f)
knows_snoc ns fs f =
    simp knows_onto (ap every (map-append (knows ns) fs (f ∷ [])) ∙ every_snoc (map (knows ns) fs) (knows ns f))
