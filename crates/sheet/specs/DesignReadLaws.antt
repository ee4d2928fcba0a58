-- From a valid sheet: it writes its design. Assumes nothing.
use Rattle.std.specs.Prelude.{◌≡◌, refl, Bool, true, false, ◌&&◌, ℕ, suc, ltb, length}
use Rattle.std.proofs.Common.{sym, subst, ◌∙◌}
use Rattle.std.proofs.Math.Path.{ap, ap₂}
use mathlib.Core.List.{List, [], ◌∷◌, ◌++◌, map, append_assoc, append-nil}
use Rattle.std.proofs.Math.Option.{Option, some, none}
use Rattle.std.proofs.Math.Dec.{leb}
use Rattle.bits.specs.Logic.{pick}
use Rattle.bits.specs.LogicLaws.{and_left, and_right}
use Rattle.limits.specs.Limits.{max_inputs, max_bound, max_limit, max_outputs, max_depth, max_sheet}
use Rattle.text.specs.Bytes.{same}
use Rattle.text.specs.BytesLaws.{same_equal}
use Rattle.text.specs.Line.{lines, ended_lines}
use Rattle.text.specs.EndedLaws.{ended_of_lines}
use Rattle.names.specs.Name.{Name, distinct, all_among}
use Rattle.names.specs.Spelled.{same_names, spelled_by}
use Rattle.names.specs.SameNamesLaws.{same_names_back}
use Rattle.names.specs.SpelledLaws.{spelled_all_same}
use Rattle.formula.specs.Tree.{depth, knows}
use Rattle.sheet.specs.Lines.{Output, design_line, end_line, print_in, print_bound, print_limit, print_out, read_in, read_bound, read_limit, read_out}
use Rattle.sheet.specs.LineInverse.{in_inverse, bound_inverse, limit_inverse, out_inverse}
use Rattle.sheet.specs.Examine.{Design, Examined, refused, valid, Place, at_design, at_in, at_bound, at_limit, at_out, over, no_to, next}
use Rattle.sheet.specs.Examine.{within, ask_in, ask_bound, ask_limit, ask_out, ask_end, ask_line, ask_lines, new_name, with_output, follow, plain_lines, sized, nothing, examine}
use Rattle.sheet.specs.Examine.{with_inputs, with_bound, with_limit, with_outputs}
use Rattle.sheet.specs.Printer.{design_lines, print_design}
use Rattle.sheet.specs.Written.{Writes}
use Rattle.sheet.specs.ExaminationLaws.{valid_well_formed}
use Rattle.sheet.specs.PlainLaws.{plain-ends}
use Rattle.sheet.specs.AskedLaws.{refused_valid, valid_is, asked, within_high}

-- the lines from a place on, of the design d
abbrev out_lines : List Output → List (List ℕ)
out_lines os = map print_out os ++ (end_line ∷ [])

abbrev limit_lines : Design → List (List ℕ)
limit_lines d = print_limit d.limit ∷ out_lines d.outputs

abbrev bound_lines : Design → List (List ℕ)
bound_lines d = print_bound d.bound ∷ limit_lines d

abbrev in_lines : Design → List (List ℕ)
in_lines d = print_in d.inputs ∷ bound_lines d

abbrev pub all_lines : Design → List (List ℕ)
all_lines d = design_line ∷ in_lines d

-- a print is all these lines, each with its end; the laws below take it as a premise, and each law about prints shows it itself
abbrev pub PrintsLines : Type 0
PrintsLines = (d : Design) → print_design d ≡ ended_lines (all_lines d)

abbrev first_then : List ℕ → List (List ℕ) → List (List ℕ)
first_then l ls = l ∷ ls

-- what is asked of the lines after line n
abbrev later : ℕ → List (List ℕ) → Place → Design → Examined
later n ls p e = ask_lines p e (suc n) ls

-- ---- after `(end)`
over_said : (e d : Design) (n : ℕ) (ls : List (List ℕ)) → ask_lines over e n ls ≡ valid d → (ls ≡ []) × (e ≡ d)
unfolding ask_line ask_lines
over_said e d n [] h = (refl, valid_is h)
over_said e d n (l ∷ ls) h = absurd (refused_valid h)

-- ---- `out` lines, and `(end)`
-- what the lines say, where e is said before
record OutsSaid (e : Design) (ls : List (List ℕ)) (d : Design) : Type 0 where
  pub os : List Output
  pub lines_are : ls ≡ out_lines os
  pub said : with_outputs e (e.outputs ++ os) ≡ d

end_said : (e d : Design) (n : ℕ) (l : List ℕ) (ls : List (List ℕ))
    → l ≡ end_line
    → follow (ask_end e) n (later n ls) ≡ valid d
    → OutsSaid e (l ∷ ls) d
unfolding ask_end
end_said e d n l ls q h =
    let (i, j) = over_said e d (suc n) ls (asked ((3, leb 1 (length e.outputs)) ∷ []) (next over e) n (later n ls) d h) in
    record {
      os = [];
      lines_are = ap₂ first_then q i;
      said = ap (with_outputs e) (append-nil e.outputs) ∙ j;
    }

one_out_said : (e d : Design) (l : List ℕ) (ls : List (List ℕ)) (o : Output)
    → read_out l ≡ some o
    → OutsSaid (with_output e o) ls d
    → OutsSaid e (l ∷ ls) d
one_out_said e d l ls o r s =
    record {
      os = o ∷ s.os;
      lines_are = ap₂ first_then (out_inverse.print_of_read l o r).1 s.lines_are;
      said =
          ap (with_outputs e) (sym (append_assoc e.outputs (o ∷ []) s.os)) ∙ s.said;
    }

out_by : (x : Option Output) (e d : Design) (n : ℕ) (l : List ℕ) (ls : List (List ℕ))
    → read_out l ≡ x
    → ((o : Output) → ask_lines at_out (with_output e o) (suc n) ls ≡ valid d → OutsSaid (with_output e o) ls d)
    → follow (ask_out e x) n (later n ls) ≡ valid d
    → OutsSaid e (l ∷ ls) d
unfolding ask_out
out_by none e d n l ls r f h = absurd (refused_valid h)
out_by (some o) e d n l ls r f h =
    one_out_said e d l ls o r
    (f o
    (asked
    ((3, ltb (length e.outputs) max_outputs && leb (depth o.formula) max_depth)
    ∷ (4, new_name e o.name)
    ∷ (5, knows e.inputs o.formula)
    ∷ [])
    (next at_out (with_output e o)) n (later n ls) d h))

outs_said : (ls : List (List ℕ)) (e d : Design) (n : ℕ) → ask_lines at_out e n ls ≡ valid d → OutsSaid e ls d
unfolding ask_line ask_lines
outs_said [] e d n h = absurd (refused_valid h)
outs_said (l ∷ ls) e d n h = go (same l end_line) refl (λ o. outs_said ls (with_output e o) d (suc n)) h
  where
    go : (b : Bool)
        → same l end_line ≡ b
        → ((o : Output) → ask_lines at_out (with_output e o) (suc n) ls ≡ valid d → OutsSaid (with_output e o) ls d)
        → follow (pick b (ask_end e) (ask_out e (read_out l))) n (later n ls) ≡ valid d
        → OutsSaid e (l ∷ ls) d
    go true q f h = end_said e d n l ls (same_equal l end_line q) h
    go false q f h = out_by (read_out l) e d n l ls refl f h

-- ---- the lines before, as long as no output is known
record LimitSaid (e : Design) (ls : List (List ℕ)) (d : Design) : Type 0 where
  pub lines_are : ls ≡ limit_lines d
  pub same_inputs : e.inputs ≡ d.inputs
  pub same-bound : e.bound ≡ d.bound

-- the lines are those of d, where the bound names may stand in another spelling
record LinesSaid (lines_of : Design → List (List ℕ)) (ls : List (List ℕ)) (d : Design) : Type 0 where
  pub written : List Name
  pub same-bound : same_names d.bound written ≡ true
  pub lines_are : ls ≡ lines_of (with_bound d written)

record BoundSaid (e : Design) (ls : List (List ℕ)) (d : Design) : Type 0 where
  pub said : LinesSaid bound_lines ls d
  pub same_inputs : e.inputs ≡ d.inputs

module _ (e d : Design) (n : ℕ) (l : List ℕ) (ls : List (List ℕ)) (first : e.outputs ≡ []) where
  limit_by : (x : Option ℕ) → read_limit l ≡ x → follow (ask_limit e x) n (later n ls) ≡ valid d → LimitSaid e (l ∷ ls) d
  unfolding ask_limit
  limit_by none r h = absurd (refused_valid h)
  limit_by (some m) r h =
      let e' = with_limit e m in
      let s = outs_said ls e' d (suc n) (asked ((3, leb m max_limit) ∷ []) (next at_out e') n (later n ls) d h) in
      let os : s.os ≡ d.outputs
      = ap (λ (xs : List Output). xs ++ s.os) (sym first) ∙ ap (λ (x : Design). x.outputs) s.said in
      record {
        lines_are =
            ap₂ first_then
            ((limit_inverse.print_of_read l m r).1 ∙ ap (λ (x : Design). print_limit x.limit) s.said)
            (s.lines_are ∙ ap out_lines os);
        same_inputs = ap (λ (x : Design). x.inputs) s.said;
        same-bound = ap (λ (x : Design). x.bound) s.said;
      }

limit_said : (ls : List (List ℕ)) (e d : Design) (n : ℕ)
    → e.outputs ≡ []
    → ask_lines at_limit e n ls ≡ valid d
    → LimitSaid e ls d
unfolding ask_line ask_lines
limit_said [] e d n first h = absurd (refused_valid h)
limit_said (l ∷ ls) e d n first h = limit_by e d n l ls first (read_limit l) refl h

module _ (e d : Design) (n : ℕ) (l : List ℕ) (ls : List (List ℕ)) (first : e.outputs ≡ []) where
  bound_by : (x : Option (List Name)) → read_bound l ≡ x → follow (ask_bound e x) n (later n ls) ≡ valid d → BoundSaid e (l ∷ ls) d
  unfolding ask_bound
  bound_by none r h = absurd (refused_valid h)
  bound_by (some ms) r h =
      let e' = with_bound e (map (spelled_by e.inputs) ms) in
      let qs : List (ℕ × Bool)
      = (3, within 1 max_bound (length ms)) ∷ (4, distinct ms) ∷ (5, all_among ms e.inputs) ∷ [] in
      let s = limit_said ls e' d (suc n) first (asked qs (next at_limit e') n (later n ls) d h) in
      record {
        said =
            record {
              written = ms;
              same-bound = same_names_back ms d.bound
                  (subst (λ (xs : List Name). same_names ms xs ≡ true) s.same-bound (spelled_all_same e.inputs ms));
              lines_are = ap₂ first_then (bound_inverse.print_of_read l ms r).1 s.lines_are;
            };
        same_inputs = s.same_inputs;
      }

bound-said : (ls : List (List ℕ)) (e d : Design) (n : ℕ)
    → e.outputs ≡ []
    → ask_lines at_bound e n ls ≡ valid d
    → BoundSaid e ls d
unfolding ask_line ask_lines
bound-said [] e d n first h = absurd (refused_valid h)
bound-said (l ∷ ls) e d n first h = bound_by e d n l ls first (read_bound l) refl h

module _ (e d : Design) (n : ℕ) (l : List ℕ) (ls : List (List ℕ)) (first : e.outputs ≡ []) where
  in_by : (x : Option (List Name)) → read_in l ≡ x → follow (ask_in e x) n (later n ls) ≡ valid d → LinesSaid in_lines (l ∷ ls) d
  unfolding ask_in
  in_by none r h = absurd (refused_valid h)
  in_by (some ns) r h =
      let e' = with_inputs e ns in
      let qs : List (ℕ × Bool) = (3, within 1 max_inputs (length ns)) ∷ (4, distinct ns) ∷ [] in
      let s = bound-said ls e' d (suc n) first (asked qs (next at_bound e') n (later n ls) d h) in
      record {
        written = s.said.written;
        same-bound = s.said.same-bound;
        lines_are = ap₂ first_then ((in_inverse.print_of_read l ns r).1 ∙ ap print_in s.same_inputs) s.said.lines_are;
      }

in_said : (ls : List (List ℕ)) (e d : Design) (n : ℕ)
    → e.outputs ≡ []
    → ask_lines at_in e n ls ≡ valid d
    → LinesSaid in_lines ls d
unfolding ask_line ask_lines
in_said [] e d n first h = absurd (refused_valid h)
in_said (l ∷ ls) e d n first h = in_by e d n l ls first (read_in l) refl h

lines-said : (ls : List (List ℕ)) (d : Design) → ask_lines at_design nothing 1 ls ≡ valid d → LinesSaid all_lines ls d
unfolding ask_line ask_lines
lines-said [] d h = absurd (refused_valid h)
lines-said (l ∷ ls) d h = go (same l design_line) refl h
  where
    go : (b : Bool)
        → same l design_line ≡ b
        → follow (pick b (next at_in nothing) (no_to 2)) 1 (later 1 ls) ≡ valid d
        → LinesSaid all_lines (l ∷ ls) d
    go true q h =
        let s = in_said ls nothing d 2 refl h in
        record {
          written = s.written;
          same-bound = s.same-bound;
          lines_are = ap₂ first_then (same_equal l design_line q) s.lines_are;
        }
    go false q h = absurd (refused_valid h)

-- ---- the sheet
sized-said : (b : Bool) (x : Examined) (d : Design) → pick b x (refused 1 0) ≡ valid d → (b ≡ true) × (x ≡ valid d)
sized-said true x d h = (refl, h)
sized-said false x d h = absurd (refused_valid h)

pub writes_of_read : PrintsLines → (s : List ℕ) (d : Design) → examine s ≡ valid d → Writes s d
unfolding examine sized
writes_of_read p s d h =
    let counted = within 1 max_sheet (length s) in
    let (i, f) = sized-said (sized s) (ask_lines at_design nothing 1 (lines s)) d h in
    let ends = plain-ends s (and_right counted (plain_lines s) i) in
    let said = lines-said (lines s) d f in
    record {
      well_formed = valid_well_formed s d h;
      written = said.written;
      same-bound = said.same-bound;
      is_print = ended_of_lines s ends ∙ ap ended_lines said.lines_are ∙ sym (p (with_bound d said.written));
      fits = within_high 1 max_sheet (length s) (and_left counted (plain_lines s) i);
    }

pub design_print_of_read : (s : List ℕ) (d : Design) → examine s ≡ valid d → Writes s d
unfolding print_design design_lines
design_print_of_read s d h = writes_of_read (λ e. refl) s d h
