-- The `bound` line: what it says once questions 2 to 4 are answered, question 5, and that the code's sheet holds it.
-- Assumes nothing.
use Rattle.std.specs.Prelude.{◌≡◌, refl, Bool, true, false, List, [], ◌∷◌, map, ℕ, ◌≤◌, length, Option, Some, None, Ok, Err}
use Rattle.std.proofs.Math.Path.{sym, ap}
use Rattle.std.proofs.Common.{subst, ◌∙◌, arith}
use Rattle.std.proofs.Math.ListN.{take}
use Rattle.std.proofs.lemmas.List.{length-map}
use Rattle.bits.specs.Logic.{pick}
use Rattle.text.specs.Bytes.{bytes, eat}
use Rattle.limits.specs.Limits.{max_bound}
use Rattle.names.specs.Name.{Name, all_among}
use Rattle.names.specs.Spelled.{spelled_by}
use Rattle.names.specs.Pack.{name_of}
use Rattle.refusal.specs.declared.Question.{Question}
use Rattle.cursor.specs.declared.NameList.{NameList}
use Rattle.sheet.specs.Lines.{read_bound}
use Rattle.sheet.specs.Examine.{Design, Step, no_to, next, at_limit, ask, ask_bound, with_bound}
use Rattle.sheet.specs.Known.{Holds, StepIs, LineIs, PlacesAre}
use Rattle.sheet.specs.Value.{output_on}
use Rattle.sheet.specs.LineLaws.{names_after}
use Rattle.sheet.specs.ListLaws.{AsksList}
use Rattle.sheet.specs.PlaceLaws.{spelled_positions}
use Rattle.sheet.specs.OnwardLaws.{step_to, passed_onward}
use Rattle.sheet.specs.declared.Place.{Place}
use Rattle.sheet.specs.declared.Sheet.{Sheet}

-- the design with the bound inputs ns, spelled as its inputs are
abbrev pub with_spelled : Design → List Name → Design
with_spelled d ns = with_bound d (map (spelled_by d.inputs) ns)

-- question 5 and what follows
abbrev pub after_four : Design → List Name → Step
after_four d ns = ask ((5, all_among ns d.inputs) ∷ []) (next at_limit (with_spelled d ns))

pub bound_asks : (d : Design) → AsksList max_bound (after_four d) (ask_bound d)
unfolding ask_bound
bound_asks d = record { few = omega arith; misspelled = refl; listed = λ ns. refl }

pub bound-reads : (l : List ℕ) (w : Option NameList) → LineIs (names_after (eat (bytes "(bound") l)) w → LineIs (read_bound l) w
unfolding read_bound
bound-reads l w h = h

-- the sheet with n bound inputs, at the places vs
abbrev pub bound_into : Sheet → ℕ → List ℕ → Sheet
bound_into k n vs =
    record {
      inputs = k.inputs;
      names = k.names;
      bounds = n;
      bound = vs;
      limit = k.limit;
      outputs = k.outputs;
      outs = k.outs;
      tables = k.tables;
    }

module _ {d : Design} {k : Sheet} (h : Holds d k) (n : ℕ) (vs : List ℕ) (ns : List Name)
    (counted : n ≡ length ns) (named : map name_of (take n vs) ≡ ns) where
  places : (p : Option (List ℕ)) → PlacesAre (map name_of (take n vs)) (map name_of (take k.inputs k.names)) p → PlacesAre ns d.inputs p
  places p a =
      subst (λ (ms : List Name). PlacesAre ms d.inputs p) named
      (subst (λ (is : List Name). PlacesAre (map name_of (take n vs)) is p) h.inputs_named a)

  five : (t : Bool) → all_among ns d.inputs ≡ t → after_four d ns ≡ pick t (next at_limit (with_spelled d ns)) (no_to 5)
  five t e = ap (λ (b : Bool). pick b (next at_limit (with_spelled d ns)) (no_to 5)) e

  pub bound_unknown : PlacesAre (map name_of (take n vs)) (map name_of (take k.inputs k.names)) None
      → StepIs (after_four d ns) (Err Question.InputNames)
  bound_unknown a = subst (λ (s : Step). StepIs s (Err Question.InputNames)) (sym (five false (places None a))) refl

  module _ (list : List ℕ) (a : PlacesAre (map name_of (take n vs)) (map name_of (take k.inputs k.names)) (Some list)) where
    holds_bound : n ≤ max_bound → Holds (with_spelled d ns) (bound_into k n list)
    unfolding output_on
    holds_bound few =
        record {
          inputs_counted = h.inputs_counted;
          inputs_few = h.inputs_few;
          inputs_named = h.inputs_named;
          bound-counted = counted ∙ sym (length-map ns (spelled_by d.inputs));
          bound_few = few;
          bound_placed = ap (λ (b : ℕ). take b list) counted ∙ (places (Some list) a).listed ∙ sym (spelled_positions d.inputs ns);
          limit_is = h.limit_is;
          limit_small = h.limit_small;
          outputs_counted = h.outputs_counted;
          outputs_few = h.outputs_few;
          outputs_named = h.outputs_named;
          tabled = h.tabled;
        }

    pub bound-onward : n ≤ max_bound → StepIs (after_four d ns) (Ok (step_to Place.Limit (bound_into k n list)))
    bound-onward few =
        let t = step_to Place.Limit (bound_into k n list) in
        subst (λ (s : Step). StepIs s (Ok t)) (sym (five true (places (Some list) a).all)) (passed_onward (holds_bound few))
