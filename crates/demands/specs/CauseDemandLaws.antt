-- The cause that the definition allows keeps its promise in bytes. Assumes nothing.
use Rattle.std.specs.Prelude.{◌≡◌, refl, List, ℕ, ◌≤◌, length}
use Rattle.std.proofs.Common.{sym, ◌∙◌, subst, arith}
use Rattle.limits.specs.Limits.{max_classes, max_network}
use Rattle.sheet.specs.Examine.{Design, Examined, refused, valid, examine}
use Rattle.sheet.specs.WellFormed.{WellFormed}
use Rattle.sheet.specs.ExaminationLaws.{valid_well_formed, refused_right}
use Rattle.classes.specs.Classes.{global_count}
use Rattle.subsets.specs.Subset.{SomeOf}
use Rattle.selection.specs.Selection.{part, only_outs}
use Rattle.selection.specs.PartLaws.{part-bound}
use Rattle.selection.specs.PartRightLaws.{part_well_formed}
use Rattle.selection.specs.PartClassLaws.{part_global_most}
use Rattle.selection.specs.SheetLaws.{only_outs_valid}
use Rattle.mapper.specs.Map.{Permitted, MapAnswer, refused_by, mapped, OutcomeFor, too_many_classes, no_network, buffer_short, written}
use Rattle.mapper.specs.Cause as causes
use Rattle.mapper.specs.CauseFunctionLaws.{none_named, same_set}
use Rattle.mapper.specs.Cause.{Served, Cause, CauseAnswer, no_cause, CauseFor, refused_by_8, CauseOf, CauseIs}
use Rattle.demands.specs.OutcomeLaws.{outcome_for, outcome_refused}
use Rattle.demands.specs.SizeLaws.{print_fits}
use Rattle.demands.specs.Demand1Laws.{map_same}
use Rattle.demands.specs.Demand3Laws.{mapped_not_refused}
use Rattle.demands.specs.CauseDemand.{RefusedBy8, NotBy8, MapsLong, RefusedAlone, MapsAlone, CauseDemand, CauseTrue}

-- ---- Map on a design that some network serves, or none
permitted_served : {d : Design} {w : _} → Permitted d w → Served d
permitted_served {w = w} p = record { network = w; wellformed = p.wellformed; within = p.within; computes = p.computes }

unserved_by_8 : (d : Design)
    → global_count d d.bound ≤ max_classes
    → (Served d → ⊥)
    → {b : List ℕ} {a : MapAnswer} {b' : List ℕ}
    → OutcomeFor d b a b'
    → a ≡ refused_by 8 0
unserved_by_8 d few none (too_many_classes h) = absurd (omega (arith, h, few))
unserved_by_8 d few none (no_network h n) = refl
unserved_by_8 d few none (buffer_short w h p n) = absurd (none (permitted_served p.permitted))
unserved_by_8 d few none (written w h p n) = absurd (none (permitted_served p.permitted))

-- what a refusal by 8 says
by_8_says : (d : Design)
    → {b : List ℕ} {a : MapAnswer} {b' : List ℕ}
    → OutcomeFor d b a b'
    → a ≡ refused_by 8 0
    → (global_count d d.bound ≤ max_classes) × (Served d → ⊥)
by_8_says d (too_many_classes h) e = let q = (map_same e).0 in absurd (omega (arith, q))
by_8_says d (no_network h n) e = (h, λ w. n w.network w.wellformed w.within w.computes)
by_8_says d (buffer_short w h p n) e = let q = (map_same e).0 in absurd (omega (arith, q))
by_8_says d (written w h p n) e = absurd (mapped_not_refused e)

served_maps : (d : Design)
    → WellFormed d
    → global_count d d.bound ≤ max_classes
    → Served d
    → {b : List ℕ} {a : MapAnswer} {b' : List ℕ}
    → OutcomeFor d b a b'
    → max_network ≤ length b
    → (u : ℕ) × (n : ℕ) × (a ≡ mapped u n)
served_maps d f few w (too_many_classes h) long = absurd (omega (arith, h, few))
served_maps d f few w (no_network h n) long = absurd (n w.network w.wellformed w.within w.computes)
served_maps d f few w (buffer_short v h p n) long =
    let fits = print_fits d v f p.permitted.wellformed p.permitted.within in
    absurd (omega (arith, n, fits, long))
served_maps d f few w (written v h p n) long = (length v.luts, _, refl)

-- ---- a sheet that says a design
module _ (t : List ℕ) (d : Design) (e : examine t ≡ valid d) where
  sheet_by_8 : global_count d d.bound ≤ max_classes → (Served d → ⊥) → RefusedBy8 t
  sheet_by_8 few none = record { answers = λ b a b' o. unserved_by_8 d few none (outcome_for d e o) }

  served_not_by_8 : Served d → NotBy8 t
  served_not_by_8 w b a b' o q = (by_8_says d (outcome_for d e o) q).1 w

  sheet_maps : WellFormed d → global_count d d.bound ≤ max_classes → Served d → MapsLong t
  sheet_maps f few w =
      record {
        not_by_8 = served_not_by_8 w;
        maps = λ b a b' o long. served_maps d f few w (outcome_for d e o) long;
      }

-- ---- the sheets of its sets of outputs
module _ (t : List ℕ) (d : Design) (e : examine t ≡ valid d) (few : global_count d d.bound ≤ max_classes) (s : ℕ) (p : SomeOf (length d.outputs) s) where
  few_alone : global_count (part s d) (part s d).bound ≤ max_classes
  few_alone =
      let most : global_count (part s d) (part s d).bound ≤ global_count d d.bound
      = subst (λ bs. global_count (part s d) bs ≤ global_count d d.bound) (sym (part-bound s d)) (part_global_most s d d.bound) in
      omega (arith, most, few)

  refused_alone : (Served (part s d) → ⊥) → RefusedAlone t d s
  refused_alone none =
      let v = only_outs_valid t d e s p in
      record { is_valid = v; by_8 = sheet_by_8 (only_outs s (length d.outputs) t) (part s d) v few_alone none }

  maps_alone : Served (part s d) → MapsAlone t d s
  maps_alone w =
      let v = only_outs_valid t d e s p in
      let f = part_well_formed s d (valid_well_formed t d e) p in
      record { is_valid = v; maps_long = sheet_maps (only_outs s (length d.outputs) t) (part s d) v f few_alone w }

pub cause_demand : (t : List ℕ) (d : Design) (s : ℕ)
    → examine t ≡ valid d
    → global_count d d.bound ≤ max_classes
    → (Served d → ⊥)
    → Cause d s
    → CauseDemand t d s
cause_demand t d s e few none c =
    record {
      refused_together = sheet_by_8 t d e few none;
      refused_alone = refused_alone t d e few s c.outputs c.unserved;
      smaller_maps = λ u p h. maps_alone t d e few u p (c.smaller u p h);
      earlier_maps = λ u p h q. maps_alone t d e few u p (c.earlier u p h q);
    }

-- ---- every answer
design_true : (t : List ℕ) (d : Design) → examine t ≡ valid d → {c : CauseAnswer} → CauseFor d c → CauseTrue t c
design_true t d e (causes.too_many_classes h) =
    record {
      none = λ _ b a b' o q. (let few = (by_8_says d (outcome_for d e o) q).0 in omega (arith, h, few));
      named = λ s q. absurd (none_named q);
    }
design_true t d e (causes.mapped h w) =
    record {
      none = λ _. served_not_by_8 t d e w;
      named = λ s q. absurd (none_named q);
    }
design_true t d e (refused_by_8 s h n c) =
    record {
      none = λ q. absurd (none_named (sym q));
      named = λ u q. (d, e, subst (λ (v : ℕ). CauseDemand t d v) (same_set q) (cause_demand t d s e h n c));
    }

refused_true : (t : List ℕ) (q l : ℕ) → examine t ≡ refused q l → CauseTrue t no_cause
refused_true t q l e =
    record {
      none = λ _ b a b' o f.
          (let most = (refused_right t q l e).at_most_five in
          let by = (map_same (sym (outcome_refused q l e o).refusal ∙ f)).0 in
          omega (arith, most, by));
      named = λ s f. absurd (none_named f);
    }

-- the cause in bytes: whatever answer the definition allows on a sheet is true
pub cause_true : (t : List ℕ) (c : CauseAnswer) → CauseIs t c → CauseTrue t c
cause_true t c h = go (examine t) refl h
  where
    go : (x : Examined) → examine t ≡ x → CauseOf x c → CauseTrue t c
    go (refused q l) e r = subst (CauseTrue t) (sym r) (refused_true t q l e)
    go (valid d) e r = design_true t d e r
