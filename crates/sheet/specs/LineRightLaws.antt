-- A line asked at its place, with a design that is right up to there, comes to one of questions 2 to 5 or to a design that is
-- right up to the next place. What is spelled right is what can be written. Assumes nothing.
use Rattle.std.specs.Prelude.{◌≡◌, refl, Bool, true, false, not, ◌&&◌, List, [], ◌∷◌, map, ℕ, leb, ltb, length}
use Rattle.std.proofs.Math.Option.{Option, some, none}
use Rattle.std.proofs.Common.{arith, leb-true, ltb-true}
use Rattle.std.proofs.lemmas.List.{length-map}
use Rattle.std.proofs.lemmas.Bool.{not-true}
use Rattle.bits.specs.Logic.{pick}
use Rattle.bits.specs.LogicLaws.{and_left, and_right}
use Rattle.limits.specs.Limits.{max_inputs, max_bound, max_limit, max_outputs, max_depth}
use Rattle.text.specs.Bytes.{same}
use Rattle.names.specs.Name.{Name, among, distinct, all_among}
use Rattle.names.specs.Spelled.{spelled_by}
use Rattle.names.specs.SpelledLaws.{spelled_all_stand, spelled_distinct}
use Rattle.formula.specs.Tree.{depth, knows}
use Rattle.sheet.specs.Lines.{Output, design_line, end_line, read_in, read_bound, read_limit, read_out}
use Rattle.sheet.specs.LineInverse.{in_inverse, out_inverse}
use Rattle.sheet.specs.Examine.{Design, Place, at_design, at_in, at_bound, at_limit, at_out, over, Step, no_to, next, with_inputs, with_bound, with_limit}
use Rattle.sheet.specs.Examine.{ask, within, ask_in, ask_bound, ask_limit, ask_out, ask_end, ask_line, output_names, new_name, with_output}
use Rattle.sheet.specs.WellFormed.{LineQuestion, StepRight, RightBound, RightOutputs, HasInputs, HasBound, HasLimit, Reached}
use Rattle.sheet.specs.AskedLaws.{AllYes, within_low, within_high}
use Rattle.sheet.specs.FurtherOutputLaws.{outputs_more}

-- ---- questions in turn
abbrev Questions : List (ℕ × Bool) → Type 0
Questions [] = Unit {0}
Questions (q ∷ qs) = LineQuestion q.0 × Questions qs

ask_right : (qs : List (ℕ × Bool)) (t : Step) → Questions qs → (AllYes qs → StepRight t) → StepRight (ask qs t)
ask_right [] t h k = k tt
ask_right (q ∷ qs) t h k = go q.1 refl (λ f. ask_right qs t h.1 f)
  where
    go : (b : Bool) → q.1 ≡ b → ((AllYes qs → StepRight t) → StepRight (ask qs t)) → StepRight (pick b (ask qs t) (no_to q.0))
    go true e f = f (λ y. k (e, y))
    go false e f = h.0

pick_right : (b : Bool) (t u : Step) → StepRight t → StepRight u → StepRight (pick b t u)
pick_right true t u h k = h
pick_right false t u h k = k

-- ---- each line
in_right : (d : Design) (l : List ℕ) (x : Option (List Name)) → read_in l ≡ x → d.outputs ≡ [] → StepRight (ask_in d x)
unfolding ask_in
in_right d l none e r = record { low = omega arith; high = omega arith }
in_right d l (some ns) e r =
    ask_right ((3, within 1 max_inputs (length ns)) ∷ (4, distinct ns) ∷ [])
    (next at_bound (with_inputs d ns))
    (omega arith)
    (λ y.
    record {
      inputs_right =
          record {
            filled = within_low 1 max_inputs (length ns) y.0;
            few = within_high 1 max_inputs (length ns) y.0;
            once = y.1.0;
            named = (in_inverse.print_of_read l ns e).0;
          };
      no_outputs = r;
    })

pub bound_names_right : (ns ms : List Name)
    → within 1 max_bound (length ms) ≡ true
    → distinct ms ≡ true
    → all_among ms ns ≡ true
    → RightBound ns (map (spelled_by ns) ms)
bound_names_right ns ms e f g =
    let as_many : length (map (spelled_by ns) ms) ≡ length ms = length-map ms (spelled_by ns) in
    record {
      filled = omega (arith, as_many, within_low 1 max_bound (length ms) e);
      few = omega (arith, as_many, within_high 1 max_bound (length ms) e);
      once = spelled_distinct ns ms f;
      known = spelled_all_stand ns ms g;
    }

bound_right : (d : Design) (x : Option (List Name)) → HasInputs d → StepRight (ask_bound d x)
unfolding ask_bound
bound_right d none r = record { low = omega arith; high = omega arith }
bound_right d (some ns) r =
    ask_right ((3, within 1 max_bound (length ns)) ∷ (4, distinct ns) ∷ (5, all_among ns d.inputs) ∷ [])
    (next at_limit (with_bound d (map (spelled_by d.inputs) ns)))
    (omega arith)
    (λ y.
    record {
      inputs_right = r.inputs_right;
      bound_right = bound_names_right d.inputs ns y.0 y.1.0 y.1.1.0;
      no_outputs = r.no_outputs;
    })

pub no_output_wrong : (ns : List Name) (os : List Output) → os ≡ [] → RightOutputs ns os
unfolding distinct
no_output_wrong ns os e = rw e (record { few = omega arith; once = refl; each = λ o h. absurd (omega arith) })

limit_right : (d : Design) (x : Option ℕ) → HasBound d → StepRight (ask_limit d x)
unfolding ask_limit
limit_right d none r = record { low = omega arith; high = omega arith }
limit_right d (some n) r =
    ask_right ((3, leb n max_limit) ∷ [])
    (next at_out (with_limit d n))
    (omega arith)
    (λ y.
    record {
      inputs_right = r.inputs_right;
      bound_right = r.bound_right;
      limit_right = leb-true n max_limit y.0;
      outputs_right = no_output_wrong d.inputs d.outputs r.no_outputs;
    })

out_right : (d : Design) (l : List ℕ) (x : Option Output) → read_out l ≡ x → HasLimit d → StepRight (ask_out d x)
unfolding ask_out
out_right d l none e r = record { low = omega arith; high = omega arith }
out_right d l (some o) e r =
    let few = ltb (length d.outputs) max_outputs in
    let shallow = leb (depth o.formula) max_depth in
    let free = not (among o.name d.inputs) in
    let new = not (among o.name (output_names d.outputs)) in
    ask_right ((3, few && shallow) ∷ (4, new_name d o.name) ∷ (5, knows d.inputs o.formula) ∷ [])
    (next at_out (with_output d o))
    (omega arith)
    (λ y.
    let w = (out_inverse.print_of_read l o e).0 in
    record {
      inputs_right = r.inputs_right;
      bound_right = r.bound_right;
      limit_right = r.limit_right;
      outputs_right =
          outputs_more d.inputs d.outputs o r.outputs_right
          (record {
            named = w.named;
            new = not-true (among o.name d.inputs) (and_left free new y.1.0);
            shallow = leb-true (depth o.formula) max_depth (and_right few shallow y.0);
            known = y.1.1.0;
            formed = w.formed;
          })
          (ltb-true (length d.outputs) max_outputs (and_left few shallow y.0))
          (not-true (among o.name (output_names d.outputs)) (and_right free new y.1.0));
    })

end_right : (d : Design) → HasLimit d → StepRight (ask_end d)
unfolding ask_end
end_right d r =
    ask_right ((3, leb 1 (length d.outputs)) ∷ []) (next over d) (omega arith)
    (λ y.
    record {
      inputs_right = r.inputs_right;
      bound_right = r.bound_right;
      limit_right = r.limit_right;
      outputs_right = r.outputs_right;
      some-output = leb-true 1 (length d.outputs) y.0;
    })

pub line_right : (p : Place) (d : Design) (l : List ℕ) → Reached p d → StepRight (ask_line p d l)
unfolding ask_line
line_right at_design d l r = pick_right (same l design_line) (next at_in d) (no_to 2) r (record { low = omega arith; high = omega arith })
line_right at_in d l r = in_right d l (read_in l) refl r
line_right at_bound d l r = bound_right d (read_bound l) r
line_right at_limit d l r = limit_right d (read_limit l) r
line_right at_out d l r =
    pick_right (same l end_line) (ask_end d) (ask_out d (read_out l)) (end_right d r) (out_right d l (read_out l) refl r)
line_right over d l r = record { low = omega arith; high = omega arith }
