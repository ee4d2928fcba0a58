-- The three demands hold on every PLA panel: they are those of what its examination answers, a refusal or a well_formed design.
-- Assumes nothing.
use Rattle.std.specs.Prelude.{◌≡◌, refl, List, ◌⊎◌, ℕ, ◌≤◌, length}
use Rattle.std.proofs.Common.{inl, inr, arith}
use Rattle.std.proofs.Math.Decide.{dec_lt}
use Rattle.limits.specs.Limits.{max_classes}
use Rattle.sheet.specs.Examine.{Design, refused, valid}
use Rattle.classes.specs.Classes.{global_count}
use Rattle.mapper.specs.Map.{MapAnswer, OutcomeOf}
use Rattle.demands.specs.Demand1 as refusals
use Rattle.demands.specs.Demand1.{TableRefuses, MapRefuses, CheckRefuses, TableNumber, MapNumber, CheckNumber}
use Rattle.demands.specs.Demand1Laws.{demand_1}
use Rattle.demands.specs.Demand2.{Demand2}
use Rattle.demands.specs.Demand2Laws.{demand_2}
use Rattle.demands.specs.Demand3.{Demand3}
use Rattle.demands.proofs.ThirdDemand.{demand_3}
use Rattle.panel.specs.Examine.{examine}
use Rattle.panel.specs.DesignLaws.{panel_well_formed, panel_refused}
use Rattle.pla.specs.Demand1.{TextNumber, PanelDemand1}

-- ---- the numbers
-- the examination refuses by 12 to 14 or by 1 to 5
either_text : (p s : List ℕ) (q l : ℕ) → examine p s ≡ refused q l → TextNumber q ⊎ ((1 ≤ q) × (q ≤ 5))
either_text p s q l e =
    let h = panel_refused p s q l e in
    elim (dec_lt q 6) as (λ _. TextNumber q ⊎ ((1 ≤ q) × (q ≤ 5))) [
      | yes k ↦ inr (h.at_least_one, omega arith)
      | no k ↦ inl (h.none_between (omega arith), h.at_most_fourteen)
    ]

or_else : {A B C : Type 0} → A ⊎ B → (B → C) → A ⊎ C
or_else (inl a) f = inl a
or_else (inr b) f = inr (f b)

module _ (p s : List ℕ) where
  table-number : (o n q l : ℕ) → TableRefuses (examine p s) o n q l → TextNumber q ⊎ TableNumber q
  table-number o n q l (refusals.by_sheet i j e) = or_else (either_text p s i j e) (λ h. inl (h.0, omega (arith, h.1)))
  table-number o n q l (refusals.by_output d e h) = inr (inl (omega arith, omega arith))
  table-number o n q l (refusals.by_buffer d e h k) = inr (inr refl)

  map-number : (n q l : ℕ) → MapRefuses (examine p s) n q l → TextNumber q ⊎ MapNumber q
  map-number n q l (refusals.by_sheet i j e) = or_else (either_text p s i j e) (λ h. inl h)
  map-number n q l (refusals.by_classes d e h) = inr (inr (omega arith, omega arith))
  map-number n q l (refusals.by_cells d e h k) = inr (inr (omega arith, omega arith))
  map-number n q l (refusals.by_buffer d w e h k m) = inr (inr (omega arith, omega arith))

  check-number : (t : List ℕ) (q l : ℕ) → CheckRefuses (examine p s) t q l → TextNumber q ⊎ CheckNumber q
  check-number t q l (refusals.by_sheet i j e) = or_else (either_text p s i j e) (λ h. inl h)
  check-number t q l (refusals.by_line d j e h) = inr (inr (omega arith, omega arith))
  check-number t q l (refusals.by_limits d w j e h k) = inr (inr (omega arith, omega arith))

-- ---- the demands
pub panel_demand_1 : (p s t : List ℕ) (o : ℕ) (b : List ℕ) (a : MapAnswer) (b' : List ℕ)
    → OutcomeOf (examine p s) b a b'
    → PanelDemand1 p s t o b a b'
panel_demand_1 p s t o b a b' h =
    let d = demand_1 (examine p s) t o b a b' h in
    record {
      refusals = d;
      table-number = λ q l f. table-number p s o (length b) q l (d.table_because q l f);
      map-number = λ q l f. map-number p s (length b) q l (d.map_because q l f);
      check-number = λ q l f. check-number p s t q l (d.check_because q l f);
    }

pub panel_demand_2 : (p s : List ℕ) (d : Design) (o : ℕ) (b : List ℕ) (a : MapAnswer) (b' : List ℕ)
    → examine p s ≡ valid d
    → OutcomeOf (examine p s) b a b'
    → Demand2 (examine p s) d o b a b'
panel_demand_2 p s d o b a b' e h = demand_2 (examine p s) d o b a b' e (panel_well_formed p s d e) h

pub panel_demand_3 : (p s : List ℕ) (d : Design) (b : List ℕ) (a : MapAnswer) (b' : List ℕ)
    → examine p s ≡ valid d
    → global_count d d.bound ≤ max_classes
    → OutcomeOf (examine p s) b a b'
    → Demand3 (examine p s) d b a b'
panel_demand_3 p s d b a b' e few h = demand_3 (examine p s) d b a b' e (panel_well_formed p s d e) few h
