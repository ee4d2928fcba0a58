-- Every line leaves a design that fits the next place. Assumes nothing.
use Rattle.std.proofs.Common.{sym, subst}
use Rattle.std.specs.Prelude.{Bool, true, false, ◌&&◌, List, [], ◌∷◌, ℕ, leb, ltb, length}
use Rattle.std.proofs.Math.Option.{Option, some, none}
use Rattle.bits.specs.Logic.{pick}
use Rattle.limits.specs.Limits.{max_limit, max_outputs, max_depth}
use Rattle.text.specs.Bytes.{same}
use Rattle.names.specs.Name.{Name, distinct, all_among}
use Rattle.formula.specs.Tree.{depth, knows}
use Rattle.sheet.specs.Lines.{Output, design_line, end_line, read_in, read_bound, read_limit, read_out}
use Rattle.sheet.specs.Examine.{Design, Place, at_design, at_in, at_bound, at_limit, at_out, over, Step, no_to, next, ask, within, new_name, with_output, ask_limit, ask_out, ask_end, ask_line}
use Rattle.sheet.specs.Known.{Fits, StepFits}
use Rattle.sheet.specs.ListLaws.{AsksList}
use Rattle.sheet.specs.InLaws.{in_asks}
use Rattle.sheet.specs.BoundLaws.{with_spelled, bound_asks}

pick_fits : (t : Bool) (a b : Step) → StepFits a → StepFits b → StepFits (pick t a b)
pick_fits true a b f g = f
pick_fits false a b f g = g

ask_fits : (qs : List (ℕ × Bool)) (s : Step) → StepFits s → StepFits (ask qs s)
ask_fits [] s f = f
ask_fits (q ∷ qs) s f = pick_fits q.1 (ask qs s) (no_to q.0) (ask_fits qs s f) tt

list_fits : {high : ℕ} {rest : List Name → Step} {f : Option (List Name) → Step} → AsksList high rest f
    → ((ns : List Name) → StepFits (rest ns)) → (x : Option (List Name)) → StepFits (f x)
list_fits q r none = subst StepFits (sym q.misspelled) tt
list_fits {high} {rest} q r (some ns) =
    subst StepFits (sym (q.listed ns)) (ask_fits ((3, within 1 high (length ns)) ∷ (4, distinct ns) ∷ []) (rest ns) (r ns))

limit_fits : (d : Design) (x : Option ℕ) → StepFits (ask_limit d x)
unfolding ask_limit
limit_fits d none = tt
limit_fits d (some n) = ask_fits ((3, leb n max_limit) ∷ []) (next at_out _) tt

out_fits : (d : Design) (x : Option Output) → StepFits (ask_out d x)
unfolding ask_out
out_fits d none = tt
out_fits d (some o) =
    ask_fits
    ((3, ltb (length d.outputs) max_outputs && leb (depth o.formula) max_depth)
    ∷ (4, new_name d o.name)
    ∷ (5, knows d.inputs o.formula)
    ∷ [])
    (next at_out (with_output d o)) tt

end_fits : (d : Design) → StepFits (ask_end d)
unfolding ask_end
end_fits d = ask_fits ((3, leb 1 (length d.outputs)) ∷ []) (next over d) tt

pub line_fits : (p : Place) (d : Design) (l : List ℕ) → Fits p d → StepFits (ask_line p d l)
unfolding ask_line
line_fits at_design d l f = pick_fits (same l design_line) (next at_in d) (no_to 2) f tt
line_fits at_in d l f = list_fits (in_asks d) (λ ns. tt) (read_in l)
line_fits at_bound d l f =
    list_fits (bound_asks d) (λ ns. ask_fits ((5, all_among ns d.inputs) ∷ []) (next at_limit (with_spelled d ns)) tt) (read_bound l)
line_fits at_limit d l f = limit_fits d (read_limit l)
line_fits at_out d l f = pick_fits (same l end_line) (ask_end d) (ask_out d (read_out l)) (end_fits d) (out_fits d (read_out l))
line_fits over d l f = tt
