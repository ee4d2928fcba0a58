-- How the cause of a refusal by 8 is known on a given sheet, where it is all the outputs: the design needs more cells than its limit,
-- and there is a network whose sheet is "same" for each of the other sets. Assumes nothing.
use Rattle.std.specs.Prelude.{◌≡◌, List, ℕ, suc, ◌-◌, ◌≤◌, ◌<◌, length}
use Rattle.std.proofs.Common.{sym, ap, ◌∙◌, subst, arith}
use Rattle.std.proofs.Math.Option.{none}
use Rattle.std.proofs.Math.Decide.{dec_lt}
use Rattle.limits.specs.Limits.{max_classes}
use Rattle.bits.specs.Digit.{on}
use Rattle.bits.specs.LogicLaws.{true_false}
use Rattle.sheet.specs.Examine.{Design, Examined, valid, examine}
use Rattle.sheet.specs.WellFormed.{WellFormed}
use Rattle.sheet.specs.ExaminationLaws.{valid_well_formed}
use Rattle.classes.specs.Classes.{global_count}
use Rattle.network.specs.Network.{Network}
use Rattle.network.specs.Examine as sheets
use Rattle.network.specs.Examine.{read_network, offending}
use Rattle.network.specs.Printer.{print_network}
use Rattle.network.specs.NetworkFor.{Named}
use Rattle.network.specs.Answers.{Drawn}
use Rattle.network.specs.Check.{compared, same}
use Rattle.network.specs.NamedLaws.{design-named}
use Rattle.network.specs.CompareLaws.{compared_same}
use Rattle.network.specs.PrintedLaws.{drawn_wellformed, drawn_within}
use Rattle.subsets.specs.Subset.{size, SomeOf}
use Rattle.subsets.specs.SubsetLaws.{all-some}
use Rattle.selection.specs.Selection.{part}
use Rattle.selection.specs.PartLaws.{part_all}
use Rattle.selection.specs.PartRightLaws.{part_well_formed}
use Rattle.unserved.specs.Unserved.{every_output}
use Rattle.mapper.specs.Cause.{Served, Cause, outputs_of, refused_by_8, CauseOf, CauseIs}
use Rattle.demands.specs.Each.{Each, each_below}
use Rattle.demands.specs.NeededCells.{AtLeast}
use Rattle.demands.specs.WorkedLaws.{none_within}

-- a network whose sheet passes 10 and 11 beside the design d and is "same"
pub record SameDrawn (d : Design) : Type 0 where
  pub network : Network
  pub is_read : read_network d (print_network d network) ≡ sheets.network network
  pub passes : offending d network ≡ none
  pub right : compared d network ≡ same

pub same_drawn : {d : Design} (w : Network) → read_network d (print_network d w) ≡ sheets.network w → offending d w ≡ none → compared d w ≡ same → SameDrawn d
same_drawn w e f g = record { network = w; is_read = e; passes = f; right = g }

drawn_served : (d : Design) → WellFormed d → SameDrawn d → Served d
drawn_served d formed x =
    let w = x.network in
    let named : Named d = design-named d formed in
    let drawn : Drawn d (print_network d w) w = record { is_read = x.is_read; passes = x.passes } in
    record {
      network = w;
      wellformed = drawn_wellformed d w named (print_network d w) drawn;
      within = drawn_within d w named (print_network d w) drawn;
      computes = compared_same d w x.right;
    }

module _ (s : List ℕ) (d : Design) (e : examine s ≡ valid d) (few : global_count d d.bound ≤ max_classes) (least : AtLeast (suc d.limit) d) where
  unserved : Served d → ⊥
  unserved x = none_within s d e few least x.network x.wellformed x.within x.computes

  -- the sets from 1 up to the one before all outputs
  module _ (others : Each (every_output (length d.outputs) - 1) (λ (t : ℕ). SameDrawn (part (suc t) d))) where
    below_all_served : (t : ℕ) → SomeOf (length d.outputs) t → t < every_output (length d.outputs) → Served (part t d)
    below_all_served t p h =
        let b = p.filled in
        let q : suc (t - 1) ≡ t = omega arith in
        drawn_served (part t d) (part_well_formed t d (valid_well_formed s d e) p)
        (subst (λ (n : ℕ). SameDrawn (part n d)) q
        (each_below (every_output (length d.outputs) - 1) (λ (n : ℕ). SameDrawn (part (suc n) d)) others (t - 1) (omega (arith, b, h))))

    unless_all_served : (t : ℕ) → SomeOf (length d.outputs) t → (t ≡ every_output (length d.outputs) → ⊥) → Served (part t d)
    unless_all_served t p n =
        let m = length d.outputs in
        let b = p.inside in
        elim (dec_lt t (every_output m)) as (λ _. Served (part t d)) [
          | yes h ↦ below_all_served t p h
          | no g ↦ absurd (n (omega (arith, b, g)))
        ]

    all_cause : 1 ≤ length d.outputs → Cause d (every_output (length d.outputs))
    all_cause some =
        let m = length d.outputs in
        record {
          outputs = all-some m some;
          unserved = λ x. unserved (subst Served (part_all d) x);
          smaller = λ t p h. unless_all_served t p (λ q. let k : size m t ≡ size m (every_output m) = ap (size m) q in omega (arith, h, k));
          earlier = λ t p h g. unless_all_served t p (λ q. true_false (sym g.in_first ∙ ap (λ (n : ℕ). on n g.place) q ∙ g.not_in_second));
        }

    pub all_outputs : CauseIs s (outputs_of (every_output (length d.outputs)))
    all_outputs =
        let m = length d.outputs in
        subst (λ (x : Examined). CauseOf x (outputs_of (every_output m))) (sym e)
        (refused_by_8 (every_output m) few unserved (all_cause (valid_well_formed s d e).some-output))
