-- The width is the least w with 2 ^ w at least the number of classes. Assumes nothing.
use Rattle.std.specs.Prelude.{◌≡◌, ℕ, zero, suc, ◌+◌, ◌*◌, ◌^◌, ◌≤◌, ◌<◌, leb}
use Rattle.std.proofs.Common.{⊎_elim, arith, pow-suc, add-zero, zero-add, add-suc, suc-add, leb-true, leb-false}
use Rattle.std.proofs.Math.Decide.{dec_lt}
use Rattle.bits.specs.LogicLaws.{either}
use Rattle.classes.specs.Width.{width_from, width_of}

below_power : (c : ℕ) → c < 2 ^ c
below_power zero = omega arith
below_power (suc c) =
    let l : c < 2 ^ c = below_power c in
    let p : 2 ^ suc c ≡ 2 ^ c * 2 = pow-suc 2 c in
    omega arith

from_enough : (k w c : ℕ) → c ≤ 2 ^ (w + k) → c ≤ 2 ^ width_from k w c
unfolding width_from
from_enough zero w c h = rw (← add-zero w) h
from_enough (suc k) w c h =
    let later : c ≤ 2 ^ width_from k (suc w) c = from_enough k (suc w) c (rw (suc-add, ← add-suc) h) in
    ⊎_elim
    (λ e. rw e (leb-true c (2 ^ w) e))
    (λ e. rw e later)
    (either (leb c (2 ^ w)))

from_least : (k w c v : ℕ) → c ≤ 2 ^ v → w ≤ v → width_from k w c ≤ v
unfolding width_from
from_least zero w c v h l = l
from_least (suc k) w c v h l =
    ⊎_elim
    (λ e. rw e l)
    (λ e.
    let more : 2 ^ w < c = leb-false c (2 ^ w) e in
    let above : suc w ≤ v
    = elim (dec_lt w v) as (λ _. suc w ≤ v) [
      | yes g ↦ g
      | no g ↦ (let same : w ≡ v = omega arith in let p : c ≤ 2 ^ w = rw same h in absurd (omega arith))
    ] in
    rw e (from_least k (suc w) c v h above))
    (either (leb c (2 ^ w)))

-- ---- the laws
width_enough : (c : ℕ) → c ≤ 2 ^ width_of c
unfolding width_of
width_enough c = from_enough c 0 c (rw zero-add (let l : c < 2 ^ c = below_power c in omega arith))

pub width_least : (c w : ℕ) → c ≤ 2 ^ w → width_of c ≤ w
unfolding width_of
width_least c w h = from_least c 0 c w h (omega arith)

-- the two laws decide the width
pub width_is : (c w : ℕ) → c ≤ 2 ^ w → ((v : ℕ) → v < w → 2 ^ v < c) → width_of c ≡ w
width_is c w h below =
    let most : width_of c ≤ w = width_least c w h in
    elim (dec_lt (width_of c) w) as (λ _. width_of c ≡ w) [
      | yes l ↦ (let p : 2 ^ width_of c < c = below (width_of c) l in let q : c ≤ 2 ^ width_of c = width_enough c in absurd (omega arith))
      | no g ↦ omega arith
    ]
