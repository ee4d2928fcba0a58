-- Demand 3 holds of every outcome on a well-formed design, and so on every sheet that says one: what rests on each part of the demand.
-- Assumes nothing.
use Rattle.std.specs.Prelude.{◌≡◌, List, ℕ, ◌≤◌}
use Rattle.std.proofs.Common.{sym, subst, arith}
use Rattle.limits.specs.Limits.{max_classes}
use Rattle.sheet.specs.Examine.{Design, Examined, valid, examine}
use Rattle.sheet.specs.WellFormed.{WellFormed}
use Rattle.sheet.specs.ExaminationLaws.{valid_well_formed}
use Rattle.classes.specs.Classes.{global_count}
use Rattle.mapper.specs.Map.{MapAnswer, OutcomeFor, too_many_classes, no_network, buffer_short, written, OutcomeOf, Outcome}
use Rattle.demands.specs.OutcomeLaws.{outcome_for}
use Rattle.demands.specs.Demand3.{Demand3}
use Rattle.demands.specs.Demand3Laws.{demand_none, demand_short, demand_written}

module _ (d : Design) (f : WellFormed d) where
  design_demand_3 : (b : List ℕ) {a : MapAnswer} {b' : List ℕ}
      → global_count d d.bound ≤ max_classes
      → OutcomeFor d b a b'
      → Demand3 (valid d) d b a b'
  design_demand_3 b few (too_many_classes h) = absurd (omega (arith, h, few))
  design_demand_3 b few (no_network h n) = demand_none d f b n
  design_demand_3 b few (buffer_short w h p n) = demand_short d f b w p n
  design_demand_3 b few (written w h p n) = demand_written d f b w p n

-- ======== Demand 3 for every examination's answer that is a well_formed design
pub demand_3 : (x : Examined) (d : Design) (b : List ℕ) (a : MapAnswer) (b' : List ℕ)
    → x ≡ valid d
    → WellFormed d
    → global_count d d.bound ≤ max_classes
    → OutcomeOf x b a b'
    → Demand3 x d b a b'
demand_3 x d b a b' e f few o =
    subst (λ (y : Examined). Demand3 y d b a b') (sym e) (design_demand_3 d f b few (outcome_for d e o))

-- ======== and on sheets
pub sheet_demand_3 : (s : List ℕ) (d : Design) (b : List ℕ) (a : MapAnswer) (b' : List ℕ)
    → examine s ≡ valid d
    → global_count d d.bound ≤ max_classes
    → Outcome s b a b'
    → Demand3 (examine s) d b a b'
sheet_demand_3 s d b a b' e few o = demand_3 (examine s) d b a b' e (valid_well_formed s d e) few o
