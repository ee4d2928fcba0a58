-- The questions on an `out` line and on `(end)`: the first "no" by what the code knows of the line and of the sheet.
-- Assumes nothing.
use Rattle.std.specs.Prelude.{◌≡◌, refl, Bool, List, map, ℕ, ◌≤◌, ◌<◌, leb, ltb, length, take, Some, None, Result, Ok, Err}
use Rattle.std.proofs.Common.{sym, ap, subst, ◌∙◌, arith}
use Rattle.std.proofs.Math.Bool.{true, false}
use Rattle.std.proofs.Math.Option as maybe
use Rattle.std.proofs.Math.Option.{some, none}
use borrow.Author.Tests.{le-leb, lt-leb, lt-ltb, le-ltb}
use Rattle.limits.specs.Limits.{max_outputs, max_depth}
use Rattle.refusal.specs.declared.Question.{Question}
use Rattle.names.specs.Name.{Name}
use Rattle.names.specs.Pack.{name_of}
use Rattle.rows.specs.Words.{Rowwise}
use Rattle.formula.specs.Tree.{depth, knows}
use Rattle.formula.specs.Value.{value, on_row}
use Rattle.sheet.specs.Lines.{Output}
use Rattle.sheet.specs.Examine.{Design, new_name, with_output, ask_out, ask_end}
use Rattle.sheet.specs.Known.{Holds, StepIs, OutGood, OutIs}
use Rattle.sheet.specs.OnwardLaws.{step_to, passed_onward}
use Rattle.sheet.specs.declared.OutLine.{OutLine}
use Rattle.sheet.specs.declared.Place.{Place}
use Rattle.sheet.specs.declared.Sheet.{Sheet}
use Rattle.sheet.specs.declared.Step as code

-- ---- a line that is misspelled, and one that is an output
module _ (d : Design) (k : Sheet) (h : Holds d k) where
  pub out_misspelled : (o : maybe.Option Output) → OutIs (map name_of (take k.inputs k.names)) o None
      → StepIs (ask_out d o) (Err Question.Spelling)
  unfolding ask_out
  out_misspelled none i = refl
  out_misspelled (some x) i = absurd i

  pub out_spelled : (w : OutLine) (r : Result code.Step Question) (o : maybe.Option Output)
      → OutIs (map name_of (take k.inputs k.names)) o (Some w)
      → ((x : Output) → OutGood d.inputs x w → StepIs (ask_out d (some x)) r) → StepIs (ask_out d o) r
  out_spelled w r none i f = absurd i
  out_spelled w r (some x) i f = f x (subst (λ (ns : List Name). OutGood ns x w) h.inputs_named i)

-- ---- the questions on an output
module _ (d : Design) (k : Sheet) (h : Holds d k) (w : OutLine) (x : Output) (g : OutGood d.inputs x w) where
  pub out_fifth : max_outputs ≤ k.outputs → StepIs (ask_out d (some x)) (Err Question.Ranges)
  unfolding ask_out
  out_fifth l = rw (le-ltb (length d.outputs) max_outputs (omega (arith, h.outputs_counted))) refl

  module _ (l : k.outputs < max_outputs) where
    few : ltb (length d.outputs) max_outputs ≡ true
    few = lt-ltb (length d.outputs) max_outputs (omega (arith, h.outputs_counted))

    pub out_deep : max_depth < w.depth → StepIs (ask_out d (some x)) (Err Question.Ranges)
    unfolding ask_out
    out_deep m = rw (few, lt-leb (depth x.formula) max_depth (omega (arith, g.deep))) refl

    module _ (m : w.depth ≤ max_depth) where
      low : depth x.formula ≤ max_depth
      low = omega (arith, g.deep)

      flat : leb (depth x.formula) max_depth ≡ true
      flat = le-leb (depth x.formula) max_depth low

      name_is : (t : Bool) → t ≡ new_name d (name_of w.name) → new_name d x.name ≡ t
      name_is t n = ap (new_name d) (sym g.named) ∙ sym n

      knows-is : (t : Bool) → w.known ≡ t → knows d.inputs x.formula ≡ t
      knows-is t u = sym (g.knowing low) ∙ u

      pub out-old-name : false ≡ new_name d (name_of w.name) → StepIs (ask_out d (some x)) (Err Question.NewNames)
      unfolding ask_out
      out-old-name n = rw (few, flat, name_is false n) refl

      module _ (n : true ≡ new_name d (name_of w.name)) where
        pub out-unknown : w.known ≡ false → StepIs (ask_out d (some x)) (Err Question.InputNames)
        unfolding ask_out
        out-unknown u = rw (few, flat, name_is true n, knows-is false u) refl

        pub out-passes : (k' : Sheet) → w.known ≡ true
            → (name_of w.name ≡ x.name → Rowwise (λ (i : ℕ). value (on_row d.inputs i) x.formula) w.rows → Holds (with_output d x) k')
            → StepIs (ask_out d (some x)) (Ok (step_to Place.Out k'))
        unfolding ask_out
        out-passes k' u a = rw (few, flat, name_is true n, knows-is true u) (passed_onward (a g.named (g.tabled low)))

-- ---- `(end)`
module _ (d : Design) (k : Sheet) (h : Holds d k) where
  pub end_too_early : k.outputs < 1 → StepIs (ask_end d) (Err Question.Ranges)
  unfolding ask_end
  end_too_early l = rw (lt-leb 1 (length d.outputs) (omega (arith, h.outputs_counted))) refl

  pub end_passes : 1 ≤ k.outputs → StepIs (ask_end d) (Ok (step_to Place.Over k))
  unfolding ask_end
  end_passes l = rw (le-leb 1 (length d.outputs) (omega (arith, h.outputs_counted))) (passed_onward h)
