-- From a sheet that writes a design: it is valid, and says that design. Assumes nothing.
use Rattle.std.specs.Prelude.{◌≡◌, refl, Bool, true, false, not, ◌&&◌, ℕ, suc, ◌+◌, ◌≤◌, ◌<◌, length}
use Rattle.std.proofs.Common.{sym, ◌∙◌, subst, arith, length-append, le-leb, lt-ltb}
use Rattle.std.proofs.Math.Path.{ap}
use mathlib.Core.List.{List, [], ◌∷◌, ◌++◌, map, map-append, append_assoc, append-nil}
use Rattle.std.proofs.Math.Dec.{leb, ltb}
use Rattle.std.proofs.Math.Seq.{get_or-append_seam}
use Rattle.bits.specs.Logic.{pick}
use Rattle.bits.specs.LogicLaws.{and_both}
use Rattle.limits.specs.Limits.{max_inputs, max_bound, max_limit, max_outputs, max_depth, max_sheet}
use Rattle.text.specs.Bytes.{same}
use Rattle.text.specs.BytesLaws.{same_self}
use Rattle.text.specs.Line.{lines, ended_lines}
use Rattle.text.specs.EndedLaws.{lines_of_ended, ended_some}
use Rattle.names.specs.Name.{Name, among, distinct, all_among}
use Rattle.names.specs.Spelled.{same_names, spelled_by}
use Rattle.names.specs.SameNamesLaws.{same_names_length, same_all_names, respelled_distinct, respelled_among}
use Rattle.names.specs.StandLaws.{all_stand_among}
use Rattle.names.specs.SpelledLaws.{spelled_all_of_same}
use Rattle.names.specs.Names.{all_names}
use Rattle.names.specs.AllNamesLaws.{all_named}
use Rattle.formula.specs.Tree.{constant, depth, knows}
use Rattle.sheet.specs.Lines.{Output, design_line, end_line, print_in, print_bound, print_limit, print_out, read_out}
use Rattle.sheet.specs.LineInverse.{in_inverse, bound_inverse, limit_inverse, out_inverse}
use Rattle.sheet.specs.Examine.{Design, refused, valid, at_design, at_in, at_bound, at_limit, at_out, over, no_to, next, with_inputs, with_bound, with_limit, with_outputs}
use Rattle.sheet.specs.Examine.{within, ask_in, ask_bound, ask_limit, ask_out, ask_end, ask_line, ask_lines, output_names, new_name, with_output, plain_lines, sized, nothing, examine}
use Rattle.sheet.specs.WellFormed.{RightInputs, RightBound, RightOutput, RightOutputs, WellFormed, output_at}
use Rattle.sheet.specs.Printer.{design_lines, print_design}
use Rattle.sheet.specs.Written.{Writes}
use Rattle.sheet.specs.DesignReadLaws.{all_lines, PrintsLines}
use Rattle.sheet.specs.Visible.{visible, all_visible}
use Rattle.sheet.specs.VisibleLaws.{in_visible, bound-visible, limit_visible, out_visible}
use Rattle.sheet.specs.PlainLaws.{all_visible_unbroken, ended-plain}
use Rattle.sheet.specs.AskedLaws.{all_yes, line_next}
use Rattle.sheet.specs.FurtherOutputLaws.{distinct_before}

within_yes : (a b n : ℕ) → a ≤ n → n ≤ b → within a b n ≡ true
within_yes a b n l h = and_both (leb a n) (leb n b) (le-leb a n l) (le-leb n b h)

not_yes : (b : Bool) → b ≡ false → not b ≡ true
not_yes true h = sym h
not_yes false h = refl

-- ---- the lines before the `out` lines
in_read : (e : Design) (ns : List Name) → RightInputs ns → ask_line at_in e (print_in ns) ≡ next at_bound (with_inputs e ns)
unfolding ask_line ask_in
in_read e ns r =
    ap (ask_in e) (in_inverse.read_of_print (print_in ns) ns r.named refl)
    ∙ all_yes ((3, within 1 max_inputs (length ns)) ∷ (4, distinct ns) ∷ []) (next at_bound (with_inputs e ns))
    (within_yes 1 max_inputs (length ns) r.filled r.few, (r.once, tt))

-- the names ks of the line name what ms do, which the design holds
module _ (e : Design) (ms ks : List Name) (i : RightInputs e.inputs) (r : RightBound e.inputs ms) (s : same_names ms ks ≡ true) where
  bound_known : all_among ms e.inputs ≡ true
  bound_known = all_stand_among ms e.inputs r.known

  bound-named : all_names ks ≡ true
  bound-named = same_all_names ms ks s (all_named ms e.inputs i.named bound_known)

  bound-within : within 1 max_bound (length ks) ≡ true
  bound-within =
      let as_many = same_names_length ms ks s in
      within_yes 1 max_bound (length ks) (omega (arith, as_many, r.filled)) (omega (arith, as_many, r.few))

  bound_read : ask_line at_bound e (print_bound ks) ≡ next at_limit (with_bound e ms)
  unfolding ask_line ask_bound
  bound_read =
      let ns = e.inputs in
      ap (ask_bound e) (bound_inverse.read_of_print (print_bound ks) ks bound-named refl)
      ∙ all_yes ((3, within 1 max_bound (length ks)) ∷ (4, distinct ks) ∷ (5, all_among ks ns) ∷ [])
      (next at_limit (with_bound e (map (spelled_by ns) ks)))
      (bound-within, (sym (respelled_distinct ms ks s) ∙ r.once, (sym (respelled_among ms ks ns s) ∙ bound_known, tt)))
      ∙ ap (λ (xs : List Name). next at_limit (with_bound e xs)) (spelled_all_of_same ns ms ks i.once r.known s)

limit_read : (e : Design) (m : ℕ) → m ≤ max_limit → ask_line at_limit e (print_limit m) ≡ next at_out (with_limit e m)
unfolding ask_line ask_limit
limit_read e m h =
    ap (ask_limit e) (limit_inverse.read_of_print (print_limit m) m (omega arith) refl)
    ∙ all_yes ((3, leb m max_limit) ∷ []) (next at_out (with_limit e m)) (le-leb m max_limit h, tt)

-- ---- the `out` lines, one by one
no_end : (o : Output) → same (print_out o) end_line ≡ false
unfolding print_out same
no_end o = refl

module _ (e : Design) (o : Output) (os : List Output) (r : RightOutputs e.inputs (e.outputs ++ (o ∷ os))) where
  this_right : RightOutput e.inputs o
  this_right =
      let none : Output = record { name = []; formula = constant false } in
      let l : length (e.outputs ++ (o ∷ os)) ≡ length e.outputs + length (o ∷ os) = length-append e.outputs (o ∷ os) in
      subst (RightOutput e.inputs) (get_or-append_seam e.outputs o os none) (r.each (length e.outputs) (omega arith))

  few_before : length e.outputs < max_outputs
  few_before = omega (arith, r.few, length-append e.outputs (o ∷ os))

  new_among : among o.name (output_names e.outputs) ≡ false
  new_among =
      distinct_before (output_names e.outputs) o.name (output_names os)
      (ap distinct (sym (map-append (λ (x : Output). x.name) e.outputs (o ∷ os))) ∙ r.once)

  out_read : ask_line at_out e (print_out o) ≡ next at_out (with_output e o)
  unfolding ask_line ask_out
  out_read =
      let t = this_right in
      let few = ltb (length e.outputs) max_outputs in
      let shallow = leb (depth o.formula) max_depth in
      ap (λ (b : Bool). pick b (ask_end e) (ask_out e (read_out (print_out o)))) (no_end o)
      ∙ ap (ask_out e) (out_inverse.read_of_print (print_out o) o (record { named = t.named; formed = t.formed }) refl)
      ∙ all_yes ((3, few && shallow) ∷ (4, new_name e o.name) ∷ (5, knows e.inputs o.formula) ∷ []) (next at_out (with_output e o)) (
        and_both few shallow (lt-ltb (length e.outputs) max_outputs few_before) (le-leb (depth o.formula) max_depth t.shallow),
        (
          and_both (not (among o.name e.inputs)) (not (among o.name (output_names e.outputs)))
              (not_yes (among o.name e.inputs) t.new) (not_yes (among o.name (output_names e.outputs)) new_among),
          (t.known, tt),
        ),
      )

  others_right : RightOutputs e.inputs ((with_output e o).outputs ++ os)
  others_right = subst (RightOutputs e.inputs) (sym (append_assoc e.outputs (o ∷ []) os)) r

end_read : (e : Design) (n : ℕ) → 1 ≤ length e.outputs → ask_lines at_out e n (end_line ∷ []) ≡ valid e
unfolding ask_line ask_lines ask_end
end_read e n h =
    line_next at_out over e e n end_line []
    (ap (λ (b : Bool). pick b (ask_end e) (ask_out e (read_out end_line))) (same_self end_line)
    ∙ all_yes ((3, leb 1 (length e.outputs)) ∷ []) (next over e) (le-leb 1 (length e.outputs) h, tt))

outs_read : (os : List Output) (e : Design) (n : ℕ)
    → RightOutputs e.inputs (e.outputs ++ os)
    → 1 ≤ length (e.outputs ++ os)
    → ask_lines at_out e n (map print_out os ++ (end_line ∷ [])) ≡ valid (with_outputs e (e.outputs ++ os))
outs_read [] e n r h =
    let None-more = append-nil e.outputs in
    end_read e n (subst (λ (os : List Output). 1 ≤ length os) None-more h)
    ∙ ap (λ (os : List Output). valid (with_outputs e os)) (sym None-more)
outs_read (o ∷ os) e n r h =
    let regrouped = append_assoc e.outputs (o ∷ []) os in
    line_next at_out at_out e (with_output e o) n (print_out o) (map print_out os ++ (end_line ∷ [])) (out_read e o os r)
    ∙ outs_read os (with_output e o) (suc n) (others_right e o os r) (subst (λ (xs : List Output). 1 ≤ length xs) (sym regrouped) h)
    ∙ ap (λ (xs : List Output). valid (with_outputs e xs)) regrouped

-- ---- all lines
lines_read : (d : Design) (ks : List Name)
    → WellFormed d
    → same_names d.bound ks ≡ true
    → ask_lines at_design nothing 1 (all_lines (with_bound d ks)) ≡ valid d
unfolding ask_line
lines_read d ks w s =
    let ins = with_inputs nothing d.inputs in
    let bounds = with_bound ins d.bound in
    let limits = with_limit bounds d.limit in
    let outs = map print_out d.outputs ++ (end_line ∷ []) in
    line_next at_design at_in nothing nothing 1 design_line (print_in d.inputs ∷ print_bound ks ∷ print_limit d.limit ∷ outs)
    (ap (λ (b : Bool). pick b (next at_in nothing) (no_to 2)) (same_self design_line))
    ∙ line_next at_in at_bound nothing ins 2 (print_in d.inputs) (print_bound ks ∷ print_limit d.limit ∷ outs)
    (in_read nothing d.inputs w.inputs_right)
    ∙ line_next at_bound at_limit ins bounds 3 (print_bound ks) (print_limit d.limit ∷ outs)
    (bound_read ins d.bound ks w.inputs_right w.bound_right s)
    ∙ line_next at_limit at_out bounds limits 4 (print_limit d.limit) outs (limit_read bounds d.limit w.limit_right)
    ∙ outs_read d.outputs limits 5 w.outputs_right w.some-output

-- ---- question 1
outs_visible : (ns : List Name) (os : List Output)
    → ((o : ℕ) → o < length os → RightOutput ns (output_at os o))
    → all_visible (map print_out os ++ (end_line ∷ [])) ≡ true
unfolding all_visible visible
outs_visible ns [] h = refl
outs_visible ns (o ∷ os) h =
    let r = h 0 (omega arith) in
    and_both (visible (print_out o)) (all_visible (map print_out os ++ (end_line ∷ [])))
    (out_visible o r.named r.formed)
    (outs_visible ns os (λ i l. h (suc i) (omega arith)))

module _ (d : Design) (ks : List Name) (w : WellFormed d) (e : same_names d.bound ks ≡ true) where
  lines-visible : all_visible (all_lines (with_bound d ks)) ≡ true
  unfolding all_visible visible
  lines-visible =
      let outs = map print_out d.outputs ++ (end_line ∷ []) in
      and_both (visible (print_in d.inputs)) (visible (print_bound ks) && (visible (print_limit d.limit) && all_visible outs))
      (in_visible d.inputs w.inputs_right.named)
      (and_both (visible (print_bound ks)) (visible (print_limit d.limit) && all_visible outs)
      (bound-visible ks (bound-named d d.bound ks w.inputs_right w.bound_right e))
      (and_both (visible (print_limit d.limit)) (all_visible outs)
      (limit_visible d.limit)
      (outs_visible d.inputs d.outputs w.outputs_right.each)))

  ended_all : lines (ended_lines (all_lines (with_bound d ks))) ≡ all_lines (with_bound d ks)
  ended_all = lines_of_ended (all_lines (with_bound d ks)) (all_visible_unbroken (all_lines (with_bound d ks)) lines-visible)

  pub print_lines : lines (print_design (with_bound d ks)) ≡ design_lines (with_bound d ks)
  unfolding print_design design_lines
  print_lines = ended_all

  module _ (h : length (ended_lines (all_lines (with_bound d ks))) ≤ max_sheet) where
    print_sized : sized (ended_lines (all_lines (with_bound d ks))) ≡ true
    unfolding sized
    print_sized =
        let s = ended_lines (all_lines (with_bound d ks)) in
        and_both (within 1 max_sheet (length s)) (plain_lines s)
        (within_yes 1 max_sheet (length s) (ended_some design_line _) h)
        (ended-plain design_line _ lines-visible)

    print_valid : examine (ended_lines (all_lines (with_bound d ks))) ≡ valid d
    unfolding examine
    print_valid =
        let s = ended_lines (all_lines (with_bound d ks)) in
        ap (λ (b : Bool). pick b (ask_lines at_design nothing 1 (lines s)) (refused 1 0)) print_sized
        ∙ ap (ask_lines at_design nothing 1) ended_all
        ∙ lines_read d ks w e

-- ---- the sheet
pub read_of_writes : PrintsLines → (s : List ℕ) (d : Design) → Writes s d → examine s ≡ valid d
read_of_writes p s d w =
    let as_lines : s ≡ ended_lines (all_lines (with_bound d w.written)) = w.is_print ∙ p (with_bound d w.written) in
    ap examine as_lines
    ∙ print_valid d w.written w.well_formed w.same-bound
    (subst (λ (t : List ℕ). length t ≤ max_sheet) as_lines w.fits)

pub design_read_of_print : (s : List ℕ) (d : Design) → Writes s d → examine s ≡ valid d
unfolding print_design design_lines
design_read_of_print s d w = read_of_writes (λ e. refl) s d w
