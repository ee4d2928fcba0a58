-- The first vertex of each code, from the last vertex to the first. Assumes nothing.
use Rattle.std.specs.Prelude.{◌≡◌, refl, Bool, List, set, replicate, Option, Some, None}
use Rattle.std.proofs.Common.{sym, ◌∙◌, arith, length-set, get_or-set_same, get_or-set_other, eq-eqb, ne_eqb}
use Rattle.std.proofs.Math.Path.{ap, subst}
use Rattle.std.proofs.Math.Option.{some}
use Rattle.std.proofs.Math.Option as math
use Prim.Native.Nat.{ℕ, suc, ◌-◌, ◌≤◌, ◌<◌}
use Rattle.std.proofs.Math.Decide.{ℕ_discrete}
use Rattle.std.proofs.Math.Dec.{eqb}
use Rattle.std.proofs.Math.ListN.{length}
use Rattle.std.proofs.lemmas.List.{get_or-replicate}
use Rattle.bits.specs.Logic.{pick}
use Rattle.network.specs.Check.{first_of}
use Rattle.limits.specs.Limits.{max_codes}
use Rattle.limits.specs.declared.Vertex.{Vertex}
use Rattle.netnames.specs.Listed.{vertex_at, FirstIs, Firsts}

abbrev vertex : ℕ → Option Vertex
vertex x = Some (record { 0 = x })

-- an array without a vertex
abbrev pub no_vertices : List (Option Vertex)
no_vertices = replicate max_codes None

firsts_none : (code : ℕ → ℕ) (i : ℕ) → Firsts code 0 i no_vertices
unfolding first_of
firsts_none code i =
    record {
      size = refl;
      each = λ c l. get_or-replicate max_codes c None None l;
    }

module _ {code : ℕ → ℕ} {n i : ℕ} {l : List (Option Vertex)} (g : Firsts code n (suc i) l) (small : code i < max_codes) where
  abbrev stored : List (Option Vertex)
  stored = set l (code i) (vertex i)

  first_one_more : (c : ℕ) → c < max_codes → FirstIs (first_of (λ x. eqb (code x) c) (suc n) i) (vertex_at stored c)
  unfolding first_of
  first_one_more c h =
      let later : math.Option ℕ = first_of (λ x. eqb (code x) c) n (suc i) in
      let size : length l ≡ max_codes = g.size in
      elim (ℕ_discrete (code i) c) as (λ _. FirstIs (pick (eqb (code i) c) (some i) later) (vertex_at stored c)) [
        | yes e ↦
            subst (λ (t : Bool). FirstIs (pick t (some i) later) (vertex_at stored c)) (sym (eq-eqb (code i) c e))
            (ap (vertex_at stored) (sym e) ∙ get_or-set_same l (code i) (vertex i) None (omega arith))
        | no d ↦
            subst (λ (t : Bool). FirstIs (pick t (some i) later) (vertex_at stored c)) (sym (ne_eqb (code i) c d))
            (subst (FirstIs later) (sym (get_or-set_other l (code i) c (vertex i) None (λ e. d (sym e)))) (g.each c h))
      ]

  firsts_suc : Firsts code (suc n) i stored
  firsts_suc = record { size = length-set l (code i) (vertex i) ∙ g.size; each = first_one_more }

-- x vertices are still to come
pub record Filling (code : ℕ → ℕ) (n x : ℕ) (l : List (Option Vertex)) : Type 0 where
  pub within : x ≤ n
  pub so_far : Firsts code (n - x) x l

pub filling_none : (code : ℕ → ℕ) (n : ℕ) → Filling code n n no_vertices
filling_none code n =
    let e : 0 ≡ n - n = omega arith in
    record { within = omega arith; so_far = subst (λ (k : ℕ). Firsts code k n no_vertices) e (firsts_none code n) }

pub filling_more : {code : ℕ → ℕ} {n x k : ℕ} {l : List (Option Vertex)}
    → Filling code n x l
    → 0 < x
    → k ≡ code (x - 1)
    → k < max_codes
    → Filling code n (x - 1) (set l k (vertex (x - 1)))
filling_more {code} {n} {x} {k} {l} g p e small =
    let w : x ≤ n = g.within in
    let up : x ≡ suc (x - 1) = omega arith in
    let left : suc (n - x) ≡ n - (x - 1) = omega arith in
    record {
      within = omega arith;
      so_far =
          subst (λ (m : ℕ). Firsts code m (x - 1) (set l k (vertex (x - 1)))) left
          (subst (λ (j : ℕ). Firsts code (suc (n - x)) (x - 1) (set l j (vertex (x - 1)))) (sym e)
          (firsts_suc (subst (λ (m : ℕ). Firsts code (n - x) m l) up g.so_far) (subst (λ (m : ℕ). m < max_codes) e small)));
    }

pub filling_all : {code : ℕ → ℕ} {n x : ℕ} {l : List (Option Vertex)} → Filling code n x l → x ≤ 0 → Firsts code n 0 l
filling_all {code} {n} {x} {l} g z =
    let w : x ≤ n = g.within in
    let e : x ≡ 0 = omega arith in
    let m : n - x ≡ n = omega arith in
    subst (λ (k : ℕ). Firsts code n k l) e (subst (λ (k : ℕ). Firsts code k x l) m g.so_far)
