-- Which sheet a number's line is one of: 2 to 5 the design sheet, 10 and 11 the network sheet. Assumes nothing.
use Rattle.std.specs.Prelude.{◌≡◌, Bool, true, false, ◌&&◌, ◌||◌, List, ℕ, ◌≤◌, ◌<◌, eqb, leb}
use Rattle.std.proofs.Math.Path.{refl}
use Rattle.std.proofs.Common.{arith, le-leb, leb-true, ne_eqb, eq-eqb}
use Rattle.std.proofs.lemmas.Bool.{eqb-false}
use Rattle.bits.specs.LogicLaws.{and_left, and_right}
use Rattle.locate.specs.Located.{part_of, at_end, of_design, of_network, located}

-- ---- the numbers
design_true : (q : ℕ) → 2 ≤ q → q < 6 → of_design q ≡ true
unfolding of_design
design_true q h i = rw (le-leb 2 q h, le-leb q 5 (omega arith)) refl

design_false : (q : ℕ) → (2 ≤ q → q < 6 → ⊥) → of_design q ≡ false
unfolding of_design
design_false q h = go (leb 2 q && leb q 5) refl
  where
    go : (b : Bool) → leb 2 q && leb q 5 ≡ b → b ≡ false
    go false e = refl
    go true e =
        let i = leb-true 2 q (and_left (leb 2 q) (leb q 5) e) in
        let j = leb-true q 5 (and_right (leb 2 q) (leb q 5) e) in
        absurd (h i (omega arith))

network_true : (q : ℕ) → 10 ≤ q → q < 12 → of_network q ≡ true
unfolding of_network
network_true q h i = go (eqb q 10) refl
  where
    go : (b : Bool) → eqb q 10 ≡ b → b || eqb q 11 ≡ true
    go true e = refl
    go false e =
        let n = eqb-false q 10 e in
        eq-eqb q 11 (omega arith)

network_false : (q : ℕ) → (10 ≤ q → q < 12 → ⊥) → of_network q ≡ false
unfolding of_network
network_false q h =
    rw (ne_eqb q 10 (λ e. h (omega arith) (omega arith)), ne_eqb q 11 (λ e. h (omega arith) (omega arith))) refl

-- ---- what is handed back
module _ (d t : List ℕ) (q l : ℕ) where
  pub in_design : 2 ≤ q → q < 6 → located d t q l ≡ part_of false d l
  unfolding located
  in_design h i = rw (network_false q (λ a b. omega arith), design_true q h i) refl

  pub in_network : 10 ≤ q → q < 12 → located d t q l ≡ part_of true t l
  unfolding located
  in_network h i = rw (network_true q h i) refl

  pub in_neither : (2 ≤ q → q < 6 → ⊥) → (10 ≤ q → q < 12 → ⊥) → located d t q l ≡ at_end false d
  unfolding located
  in_neither h i = rw (network_false q i, design_false q h) refl
